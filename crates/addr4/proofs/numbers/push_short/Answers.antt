use Rattle.addr4.proofs.DigitLemmas.{one_digit, two_digits, three_digits}
use Rattle.addr4.proofs.numbers.push_short.Goals as goal

pub returns-then-number-lt10 : goal.returns-then-number-lt10
returns-then-number-lt10 c = rw (← one_digit c.args.number c.args.out.now.items c.if-number-lt10.true) c.push_digit.ensures

pub returns-then-number-lt100 : goal.returns-then-number-lt100
returns-then-number-lt100 c =
    rw (← two_digits c.args.number c.args.out.now.items c.if-number-lt10.false c.if-number-lt100.true, ← c.in_ok-push_digit.ensures) c.push_digit-then-number-lt100-2.ensures

pub returns : goal.returns
returns c =
    rw (← three_digits c.args.number c.args.out.now.items c.if-number-lt100.false c.requires, ← c.in_ok-push_digit-2.ensures, ← c.in_ok-push_digit-3.ensures) c.push_digit-4.ensures
