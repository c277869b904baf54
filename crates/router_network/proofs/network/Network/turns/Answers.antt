use Rattle.router_moments.proofs.Common.{subst, TakesTurn}
use Rattle.router_moments.specs.declared.tasks.Done.{Done}
use Rattle.router_moments.proofs.RunLemmas.{given_more, given_stands}
use Rattle.router_network.proofs.network.Network.turns.Goals as goal

pub loop-taken-preserved : goal.loop-taken-preserved
loop-taken-preserved g c = record {
  given =
      given_more c.args.task c.loop-taken.taken c.args.self.now c.loop-taken.self c.turn.new.self c.args.journal.now c.loop-taken.journal c.turn.new.journal c.loop-taken.invariant.given
      (subst (λ (d : Done). TakesTurn c.args.task c.loop-taken.self c.turn.new.self c.loop-taken.journal c.turn.new.journal d) c.in-Taken.is c.in_ok-turn.ensures.taken);
  informed = c.in_ok-turn.ensures.informed;
}

pub turn-requires-clause-stands : goal.turn-requires-clause-stands
turn-requires-clause-stands g c = given_stands c.args.task c.loop-taken.taken c.args.self.now c.loop-taken.self c.args.journal.now c.loop-taken.journal c.requires.stands c.loop-taken.invariant.given
