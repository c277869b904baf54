use Rattle.router_moments.proofs.Common.{subst, Gives}
use Rattle.router_moments.specs.Works.{AreTurns}
use Rattle.router_network.proofs.StepLemmas.{worked}
use Rattle.router_network.proofs.network.Network.work.Goals as goal

pub returns-clause-steps : goal.returns-clause-steps
returns-clause-steps g c =
    worked c.args.self.now c.turns.new.self c.args.task c.args.most c.in_ok-turns.turns c.args.journal.now c.turns.new.journal c.push_line.new.self c.flush.new.self c.requires.stands
    (subst (λ n. Gives (AreTurns c.args.task n c.args.self.now c.in_ok-turns.turns c.turns.new.self) c.args.journal.now c.turns.new.journal) c.from.ensures c.in_ok-turns.ensures.taken)
    c.in_ok-push_line.ensures c.in_ok-flush.ensures.ok
