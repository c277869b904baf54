use Rattle.router_network.proofs.QuietSteps.{quiet_stepped}
use Rattle.router_core.proofs.steps.step.Goals as goal

pub returns-in-Nothing-clause-informed : goal.returns-in-Nothing-clause-informed
returns-in-Nothing-clause-informed g c = quiet_stepped c.nothing.result _ c.args.event c.args.contests.now c.args.network.now c.nothing.new.self c.args.journal.now c.nothing.new.journal c.requires.stands c.requires.admitted c.in-Nothing.is c.nothing.ensures c.requires.informed tt

pub returns-in-Whole-clause-informed : goal.returns-in-Whole-clause-informed
returns-in-Whole-clause-informed g c = quiet_stepped c.whole_file.result _ c.args.event c.args.contests.now c.args.network.now c.whole_file.new.self c.args.journal.now c.whole_file.new.journal c.requires.stands c.requires.admitted c.in-Whole.is c.whole_file.ensures c.requires.informed tt

pub returns-in-Local-clause-informed : goal.returns-in-Local-clause-informed
returns-in-Local-clause-informed g c = quiet_stepped c.local.result _ c.args.event c.args.contests.now c.args.network.now c.local.new.self c.args.journal.now c.local.new.journal c.requires.stands c.requires.admitted c.in-Local.is c.local.ensures c.requires.informed tt

pub returns-in-Peer-clause-informed : goal.returns-in-Peer-clause-informed
returns-in-Peer-clause-informed g c = quiet_stepped c.peer.result _ c.args.event c.args.contests.now c.args.network.now c.peer.new.self c.args.journal.now c.peer.new.journal c.requires.stands c.requires.admitted c.in-Peer.is c.peer.ensures c.requires.informed tt

pub returns-in-Up-clause-informed : goal.returns-in-Up-clause-informed
returns-in-Up-clause-informed g c = quiet_stepped c.up.result _ c.args.event c.args.contests.now c.args.network.now c.up.new.self c.args.journal.now c.up.new.journal c.requires.stands c.requires.admitted c.in-Up.is c.up.ensures c.requires.informed tt

pub returns-in-FilterIn-clause-informed : goal.returns-in-FilterIn-clause-informed
returns-in-FilterIn-clause-informed g c = quiet_stepped c.filter_in.result _ c.args.event c.args.contests.now c.args.network.now c.filter_in.new.self c.args.journal.now c.filter_in.new.journal c.requires.stands c.requires.admitted c.in-FilterIn.is c.filter_in.ensures c.requires.informed tt

pub returns-in-FilterOut-clause-informed : goal.returns-in-FilterOut-clause-informed
returns-in-FilterOut-clause-informed g c = quiet_stepped c.filter_out.result _ c.args.event c.args.contests.now c.args.network.now c.filter_out.new.self c.args.journal.now c.filter_out.new.journal c.requires.stands c.requires.admitted c.in-FilterOut.is c.filter_out.ensures c.requires.informed tt

pub returns-in-Redist-clause-informed : goal.returns-in-Redist-clause-informed
returns-in-Redist-clause-informed g c = quiet_stepped c.redistribution.result _ c.args.event c.args.contests.now c.args.network.now c.redistribution.new.self c.args.journal.now c.redistribution.new.journal c.requires.stands c.requires.admitted c.in-Redist.is c.redistribution.ensures c.requires.informed tt

pub returns-in-Query-clause-informed : goal.returns-in-Query-clause-informed
returns-in-Query-clause-informed g c = quiet_stepped c.answer.result _ c.args.event c.args.contests.now c.args.network.now c.answer.new.network c.args.journal.now c.answer.new.journal c.requires.stands c.requires.admitted c.in-Query.is c.answer.ensures c.requires.informed tt
