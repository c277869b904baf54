use Rattle.std.proofs.Common.{rules, ◌≡◌, true, get_or, arith}
use Rattle.std.specs.Char.{is_ascii_digit}
use Rattle.addr4.proofs.NumberLemmas.{value_more, digits_more}
use Rattle.addr4.proofs.numbers.front_digits.Goals as goal

pub loop-i-preserved : goal.loop-i-preserved
loop-i-preserved c =
    let digit : is_ascii_digit (get_or c.args.text.now c.loop-i.i 0) ≡ true = search rules in
    let more = value_more c.args.text.now c.loop-i.i c.loop-i-test.true digit in
    record { digits = digits_more c.args.text.now c.loop-i.i c.loop-i-test.true c.loop-i.invariant.digits digit; value = omega (arith, more); small = (λ h. omega arith, omega arith) }

pub returns-then-more-bound : goal.returns-then-more-bound
returns-then-more-bound c =
    let digit : is_ascii_digit (get_or c.args.text.now c.loop-i.i 0) ≡ true = search rules in
    let more = value_more c.args.text.now c.loop-i.i c.loop-i-test.true digit in
    let kept = c.loop-i.invariant in
    record { within = omega (arith, c.loop-i-test.true); digits = kept.digits; is = kept.value; small = kept.small.0; most = λ below last. omega (arith, more, kept.value, c.if-more-bound.true) }
