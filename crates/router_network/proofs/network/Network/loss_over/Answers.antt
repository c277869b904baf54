use Rattle.router_moments.proofs.Common.{ℕ, ap, refl, Moment, arith, ◌≤◌, ◌<◌}
use Rattle.router_moments.proofs.StandLemmas.{tree_sound}
use Rattle.router_moments.proofs.HeldLemmas.{hop_more, hop_none}
use Rattle.router_moments.proofs.NextLemmas.{held_of_tree}
use Rattle.router_network.proofs.network.Network.loss_over.Goals as goal
use Rattle.router_network.proofs.network.Network.loss_over.Goals.{in-Some, in_default}

below : (end n : ℕ) → end ≤ 65 → n < end → n < 65
below end n few less = omega (arith, few, less)

from_there : (end n k : ℕ) → end ≤ n → n ≤ k → end ≤ k
from_there end n k past from = omega (arith, past, from)

pub loop-number-init : goal.loop-number-init
loop-number-init g c = record { long = c.requires.room; few = omega arith; within = omega arith; front = λ f. refl }

pub loop-number-preserved : goal.loop-number-preserved
loop-number-preserved g c =
    elim c.match-next_hop.branch [
      | in-Some w ↦ rw w.room-is (rw w.count-is (hop_more c.args.self.now c.args.p _ c.loop-number.room c.loop-number.count c.loop-number.number w.in-Some.hop c.next_hop.result (ap (λ (n : Moment). n.chains) c.self.view_is) (below c.numbers-number-end.result c.loop-number.number c.numbers-number-end.ensures.few c.loop-number-test.true) c.loop-number.invariant c.next_hop.ensures w.in-Some.is))
      | in_default w ↦ rw w.room-is (rw w.count-is (hop_none c.args.self.now c.args.p _ c.loop-number.room c.loop-number.count c.loop-number.number c.next_hop.result (ap (λ (n : Moment). n.chains) c.self.view_is) (below c.numbers-number-end.result c.loop-number.number c.numbers-number-end.ensures.few c.loop-number-test.true) c.loop-number.invariant c.next_hop.ensures w.in_default.is))
    ]

pub first_loss_at-requires : goal.first_loss_at-requires
first_loss_at-requires g c = tree_sound c.args.self.now _ c.self.view_is c.requires.stands

pub returns : goal.returns
returns g c =
    held_of_tree c.args.self.now _ c.args.p c.loop-number.room c.loop-number.count c.loop-number.number c.first_loss_at.result c.self.view_is
    (λ k less from. c.numbers-number-end.ensures.all k less (from_there c.numbers-number-end.result c.loop-number.number k c.loop-number-test.false from)) c.loop-number.invariant c.first_loss_at.ensures
