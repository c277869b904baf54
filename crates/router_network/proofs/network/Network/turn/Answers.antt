use Rattle.journal_text.specs.declared.link.Task.TheVariants as tasks
use Rattle.router_network.proofs.QuietSteps.{reading_taken}
use Rattle.router_network.proofs.network.Network.turn.Goals as goal

pub returns-in-Ext-clause-informed : goal.returns-in-Ext-clause-informed
returns-in-Ext-clause-informed g c = reading_taken c.turn_external.result tasks.Ext c.args.contests.now c.args.self.now c.turn_external.new.self c.args.journal.now c.turn_external.new.journal tt c.turn_external.ensures c.requires.informed

pub returns-in-ReadRib-clause-informed : goal.returns-in-ReadRib-clause-informed
returns-in-ReadRib-clause-informed g c = reading_taken c.turn_reader.result tasks.ReadRib c.args.contests.now c.args.self.now c.turn_reader.new.self c.args.journal.now c.turn_reader.new.journal tt c.turn_reader.ensures c.requires.informed

pub returns-in-Out-clause-informed : goal.returns-in-Out-clause-informed
returns-in-Out-clause-informed g c = reading_taken c.turn_exit.result (tasks.Out c.in-Out.number) c.args.contests.now c.args.self.now c.turn_exit.new.self c.args.journal.now c.turn_exit.new.journal tt c.turn_exit.ensures c.requires.informed

pub returns-in-Ref-clause-informed : goal.returns-in-Ref-clause-informed
returns-in-Ref-clause-informed g c = reading_taken c.turn_refresh.result (tasks.Ref c.in-Ref.number) c.args.contests.now c.args.self.now c.turn_refresh.new.self c.args.journal.now c.turn_refresh.new.journal tt c.turn_refresh.ensures c.requires.informed
