use Rattle.std.proofs.Common.{◌∙◌, sym, ap, subst}
use Rattle.std.specs.Prelude.{OnOk, OnErr}
use Rattle.std.proofs.lemmas.Result.{on_ok_weaker}
use Rattle.std.specs.FinMap.{from_entries}
use Rattle.std.specs.Ordering.{nat_cmp}
use Rattle.hop_side.specs.Resolvers.{Resolvers}
use Rattle.hop_side.specs.Steps.{ReachesOne, HaveSamePeers}
use Rattle.hop_side.proofs.PutLemmas.{read_at, lent_put, put_peers}
use Rattle.hop_side.proofs.StepLemmas.{on_err}
use Rattle.hop_side.proofs.ReachLemmas.{reaches_none, reaches_some}
use Rattle.hop_side.proofs.hops.NextHops.reach_one.Goals as goal

pub returns-in_default-clause-stale : goal.returns-in_default-clause-stale
returns-in_default-clause-stale g c =
    let m = c.self.inside.resolvers in
    let a = c.args.self.now in
    let k = c.from-number.result in
    let same = ap (λ x. from_entries {R = nat_cmp} x.entries) c.get_mut.follows.holds-at-none ∙ c.self.view_is in
    subst (ReachesOne c.args.interest a) (sym same) (reaches_none c.args.interest k a c.from-number.ensures (sym (c.in_default.ensures.value ∙ read_at m a k c.self.view_is)))

pub returns-clause-stale : goal.returns-clause-stale
returns-clause-stale g c =
    let m = c.self.inside.resolvers in
    let a = c.args.self.now in
    let k = c.from-number.result in
    let s = c.in-Some.resolver.now in
    let s' = c.invalidate.new.self in
    let at = sym (c.in-Some.ensures.value ∙ read_at m a k c.self.view_is) in
    subst (λ (x : Resolvers). OnOk c.invalidate.result (ReachesOne c.args.interest a x)) (sym (lent_put m (c.get_mut.follows.lender s') a k s s' c.self.view_is c.in-Some.ensures.value (c.get_mut.follows.holds s')))
    (on_ok_weaker c.invalidate.result (reaches_some c.args.interest k a s s' c.from-number.ensures at) c.invalidate.ensures.stale)

pub returns-clause-memory : goal.returns-clause-memory
returns-clause-memory g c =
    let m = c.self.inside.resolvers in
    let a = c.args.self.now in
    let k = c.from-number.result in
    let s = c.in-Some.resolver.now in
    let s' = c.invalidate.new.self in
    let at = sym (c.in-Some.ensures.value ∙ read_at m a k c.self.view_is) in
    subst (λ (x : Resolvers). OnErr c.invalidate.result (HaveSamePeers a x)) (sym (lent_put m (c.get_mut.follows.lender s') a k s s' c.self.view_is c.in-Some.ensures.value (c.get_mut.follows.holds s')))
    (on_err c.invalidate.result _ (put_peers k s' s a at))
