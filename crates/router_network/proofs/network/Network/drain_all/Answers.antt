use Rattle.router_moments.proofs.Common.{sym, subst, ℕ, List, ◌+◌, get_or, Gives, RunsOut}
use Rattle.router_moments.specs.declared.tasks.Phase.{Phase}
use Rattle.router_moments.specs.declared.tasks.Phase.TheVariants.{Rdel}
use Rattle.router_moments.proofs.RunLemmas.{Idling, idling_none, idling_more, idling_done}
use Rattle.router_network.proofs.network.Network.drain_all.Goals as goal

pub loop-i-init : goal.loop-i-init
loop-i-init g c = record {
  given =
      idling_none c.args.self.now c.args.journal.now c.flush.new.self c.requires.stands c.in_ok-flush.ensures.ok;
  informed = c.requires.informed;
}

pub loop-i-preserved : goal.loop-i-preserved
loop-i-preserved g c = record {
  given =
      subst (λ (n : ℕ). Gives (Idling (c.loop-i.i + 1) n c.args.self.now c.drain.new.self) c.args.journal.now c.drain.new.journal) (sym c.in_ok-turns.ensures)
      (idling_more c.loop-i.i c.loop-i.turns c.in_ok-drain.field-0 Rdel c.args.self.now c.loop-i.self c.drain.new.self c.args.journal.now c.loop-i.journal c.drain.new.journal c.loop-i-test.true
      c.loop-i.invariant.given (subst (λ (rs : List Phase). Gives (RunsOut (get_or rs c.loop-i.i Rdel) c.loop-i.self c.in_ok-drain.field-0 c.drain.new.self) c.loop-i.journal c.drain.new.journal) c.phases-phases.ensures c.in_ok-drain.ensures.drained));
  informed = c.in_ok-drain.ensures.informed;
}

pub returns-clause-drained : goal.returns-clause-drained
returns-clause-drained g c =
    idling_done c.rows_at_rest_are_exact.ensures c.only_work_holds_up.ensures c.loop-i.i c.loop-i.turns c.args.self.now c.loop-i.self c.args.journal.now c.loop-i.journal c.requires.stands c.requires.exits
    c.loop-i-test.false c.loop-i.invariant.given
