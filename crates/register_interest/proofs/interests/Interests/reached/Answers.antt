use Rattle.std.proofs.Common.{◌≡◌, arith, subst, ap, ◌∙◌}
use Rattle.std.specs.FinMap as map
use Rattle.addr4.specs.Prefixes.{AddressPrefix, block}
use Rattle.register_interest.specs.Width.{width}
use Rattle.register_interest.specs.Interests.{Appends}
use Rattle.register_interest.proofs.InterestLemmas.{above_first, above_more, above_all, none_reached}
use Rattle.register_interest.proofs.interests.Interests.reached.Goals as goal

pub loop-length-init : goal.loop-length-init
loop-length-init g c = rw c.new-out.ensures.items (above_first width c.args.prefix c.args.self.now)

pub loop-length-preserved : goal.loop-length-preserved
loop-length-preserved g c =
    let lt = c.loop-length-test.true in
    let s_is = c.block.ensures ∙ ap (λ a. block width a c.loop-length.length) c.address.ensures in
    let at = subst (λ (s : AddressPrefix). Appends width c.args.prefix (map.get c.args.self.now) (λ k. k.subnet ≡ s) c.loop-length.out.items c.push_at.new.out.items) s_is c.in_ok-push_at.ensures in
    above_more width c.loop-length.length c.args.prefix c.args.self.now c.loop-length.out.items c.push_at.new.out.items c.known.ensures.masked (let v = c.length-length-end.ensures.value in omega arith) c.requires.proper c.loop-length.invariant at

pub returns : goal.returns
returns g c =
    let end = c.loop-length-test.false in
    above_all width c.loop-length.length c.args.prefix c.args.self.now c.loop-length.out.items c.push_within.new.out.items c.known.ensures.masked (let v = c.length-length-end.ensures.value in omega arith) c.requires.proper c.loop-length.invariant c.in_ok-push_within.ensures

pub returns-then-is_empty : goal.returns-then-is_empty
returns-then-is_empty g c = none_reached width c.args.prefix c.self.inside.kept.entries c.args.self.now c.new-out.result.items c.self.view_is (c.is_empty.ensures.0 c.if-is_empty.true) c.new-out.ensures.items
