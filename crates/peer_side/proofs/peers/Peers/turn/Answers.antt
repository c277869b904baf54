use Rattle.std.proofs.Common.{◌∙◌, sym, ap, subst, refl}
use Rattle.std.specs.FinMap.{from_entries}
use Rattle.std.specs.Ordering.{nat_cmp}
use Rattle.peer_side.specs.Peers.{Chains, chain_at, has_turn_in}
use Rattle.peer_side.specs.Steps.{ComesInward}
use Rattle.peer_side.proofs.PutLemmas.{read_at, lent_put}
use Rattle.peer_side.proofs.StepLemmas.{comes_inward}
use Rattle.peer_side.proofs.peers.Peers.turn.Goals as goal

pub returns-in_default : goal.returns-in_default
returns-in_default g c = (
  ap (has_turn_in c.args.task) (ap (λ n. chain_at n c.args.self.now) (sym c.peer_of.ensures) ∙ sym (c.in_default.ensures.value ∙ read_at c.self.inside.chains c.args.self.now c.peer_of.result c.self.view_is)),
  ap (λ x. from_entries {R = nat_cmp} x.entries) c.get_mut.follows.holds-at-none ∙ c.self.view_is,
  refl,
)

pub unit-requires-clause-chain : goal.unit-requires-clause-chain
unit-requires-clause-chain g c = (c.requires.sound c.peer_of.result c.in-Some.chain.now (sym (c.in-Some.ensures.value ∙ read_at c.self.inside.chains c.args.self.now c.peer_of.result c.self.view_is))).chain

pub unit-requires-clause-full : goal.unit-requires-clause-full
unit-requires-clause-full g c = (c.requires.sound c.peer_of.result c.in-Some.chain.now (sym (c.in-Some.ensures.value ∙ read_at c.self.inside.chains c.args.self.now c.peer_of.result c.self.view_is))).full

pub returns : goal.returns
returns g c =
    let m = c.self.inside.chains in
    let a = c.args.self.now in
    let k = c.peer_of.result in
    let old = c.in-Some.chain.now in
    let new = c.unit.new.self in
    let at = sym (c.in-Some.ensures.value ∙ read_at m a k c.self.view_is) in
    subst (λ (x : Chains). ComesInward c.args.task a x c.args.journal.now c.unit.new.journal c.in_ok-turn.turn)
    (sym (lent_put m (c.get_mut.follows.lender new) a k old new c.self.view_is c.in-Some.ensures.value (c.get_mut.follows.holds new)))
    (comes_inward c.args.task a k old new c.args.journal.now c.unit.new.journal c.in_ok-turn.turn c.peer_of.ensures at c.requires.sound c.in_ok-turn.ensures.taken c.in_ok-turn.ensures.chain c.in_ok-turn.ensures.one_empty)
