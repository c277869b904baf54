use Rattle.router_moments.proofs.Common.{sym, subst, ℕ}
use Rattle.router_moments.proofs.RunLemmas.{HaveGivenOf, phase_none, phase_more, phase_stands, phase_less, phase_done}
use Rattle.router_network.proofs.network.Network.drain.Goals as goal

pub loop-task-init : goal.loop-task-init
loop-task-init g c = record {
  given =
      phase_none c.args.phase c.args.self.now c.args.journal.now c.flush.new.self c.in_ok-flush.ensures.ok;
  informed = c.requires.informed;
}

pub loop-task-smaller : goal.loop-task-smaller
loop-task-smaller g c =
    phase_less c.args.phase c.in-Some.task c.in_ok-drain_task.field-0 c.loop-task.self c.drain_task.new.self c.loop-task.journal c.drain_task.new.journal
    (phase_stands c.args.phase c.loop-task.turns c.args.self.now c.loop-task.self c.args.journal.now c.loop-task.journal c.requires.stands c.loop-task.invariant.given) c.in-Some.ensures.next c.in_ok-drain_task.ensures.drained

pub loop-task-preserved : goal.loop-task-preserved
loop-task-preserved g c = record {
  given =
      subst (λ (n : ℕ). HaveGivenOf c.args.phase n c.args.self.now c.drain_task.new.self c.args.journal.now c.drain_task.new.journal) (sym c.in_ok-turns.ensures)
      (phase_more c.args.phase c.in-Some.task c.loop-task.turns c.in_ok-drain_task.field-0 c.args.self.now c.loop-task.self c.drain_task.new.self c.args.journal.now c.loop-task.journal c.drain_task.new.journal
      c.loop-task.invariant.given c.in-Some.ensures.next c.in_ok-drain_task.ensures.drained);
  informed = c.in_ok-drain_task.ensures.informed;
}

pub next-requires : goal.next-requires
next-requires g c = phase_stands c.args.phase c.loop-task.turns c.args.self.now c.loop-task.self c.args.journal.now c.loop-task.journal c.requires.stands c.loop-task.invariant.given

pub drain_task-requires-clause-stands : goal.drain_task-requires-clause-stands
drain_task-requires-clause-stands g c = phase_stands c.args.phase c.loop-task.turns c.args.self.now c.loop-task.self c.args.journal.now c.loop-task.journal c.requires.stands c.loop-task.invariant.given

pub returns-clause-drained : goal.returns-clause-drained
returns-clause-drained g c = phase_done c.args.phase c.args.self.now c.loop-task.self c.loop-task.turns c.args.journal.now c.loop-task.journal c.loop-task.invariant.given c.in_default.ensures.next c.in_default.ensures.none
