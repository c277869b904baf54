use Rattle.router_moments.proofs.Common.{sym, subst, ℕ, TakesTurn}
use Rattle.router_moments.specs.declared.tasks.Done.{Done}
use Rattle.router_moments.proofs.RunLemmas.{HaveGiven, given_none, given_more, given_stands, turn_less}
use Rattle.router_network.proofs.network.Network.drain_task.Goals as goal

pub rest-init : goal.rest-init
rest-init g c = record {
  given =
      given_none c.args.task c.args.self.now c.args.journal.now c.flush.new.self c.in_ok-flush.ensures.ok;
  informed = c.requires.informed;
}

pub rest-preserved : goal.rest-preserved
rest-preserved g c = record {
  given =
      subst (λ (n : ℕ). HaveGiven c.args.task n c.args.self.now c.turn.new.self c.args.journal.now c.turn.new.journal) (sym c.in_ok-turns-in-Taken.ensures)
      (given_more c.args.task c.rest.turns c.args.self.now c.rest.self c.turn.new.self c.args.journal.now c.rest.journal c.turn.new.journal c.rest.invariant.given
      (subst (λ (d : Done). TakesTurn c.args.task c.rest.self c.turn.new.self c.rest.journal c.turn.new.journal d) c.in-Taken.is c.in_ok-turn.ensures.taken));
  informed = c.in_ok-turn.ensures.informed;
}

pub rest-smaller : goal.rest-smaller
rest-smaller g c =
    turn_less c.args.task c.rest.self c.turn.new.self c.rest.journal c.turn.new.journal
    (given_stands c.args.task c.rest.turns c.args.self.now c.rest.self c.args.journal.now c.rest.journal c.requires.stands c.rest.invariant.given) (subst (λ (d : Done). TakesTurn c.args.task c.rest.self c.turn.new.self c.rest.journal c.turn.new.journal d) c.in-Taken.is c.in_ok-turn.ensures.taken)

pub turn-requires-clause-stands : goal.turn-requires-clause-stands
turn-requires-clause-stands g c = given_stands c.args.task c.rest.turns c.args.self.now c.rest.self c.args.journal.now c.rest.journal c.requires.stands c.rest.invariant.given
