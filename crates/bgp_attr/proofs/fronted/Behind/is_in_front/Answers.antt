use Rattle.std.proofs.Common.{◌≡◌, ℕ, suc, ◌+◌, ◌-◌, ◌∙◌, sym, arith}
use Rattle.bgp_attr.proofs.FrontLemmas.{same_led, once_less, not_twice}
use Rattle.bgp_attr.proofs.fronted.Behind.is_in_front.Goals as goal

pub returns-in-None : goal.returns-in-None
returns-in-None c =
    let left : ℕ = c.args.more - (c.loop-turn.turn + 1) in
    let in_all : c.loop-turn.turn + suc left ≡ c.args.more = omega arith in
    let not = not_twice c.args.asn left c.args.path.now _ c.in-None.ensures.none in
    (λ t. absurd (cc t), λ same. absurd (not ((c.loop-turn.invariant (suc left) in_all).0 same)))

pub loop-turn-preserved : goal.loop-turn-preserved
loop-turn-preserved c left in_all_after =
    let in_all : c.loop-turn.turn + suc left ≡ c.args.more = omega arith in
    let before = c.loop-turn.invariant (suc left) in_all in
    let less = once_less c.args.asn left _ _ _ _ c.args.path.now c.in-Some.ensures.some in
    (λ same. less.0 (before.0 same), λ same. before.1 (less.1 same))

pub returns : goal.returns
returns c =
    let in_all : c.loop-turn.turn + 0 ≡ c.args.more = omega arith in
    let before = c.loop-turn.invariant 0 in_all in
    let led = same_led c.args.asn c.loop-turn.behind.numbers.now _ c.loop-turn.behind.segments _ in
    let once = c.once_in_front.ensures c.args.asn in (
      λ t. before.1 (led.1 (c.same.ensures.0 t) ∙ sym once),
      λ same. c.same.ensures.1 (led.0 (before.0 same ∙ once)),
    )
