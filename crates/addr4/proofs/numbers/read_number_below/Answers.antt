use Rattle.std.proofs.Common.{rules, ◌≡◌, true, false, take, sym, ap, ◌∙◌, arith}
use Rattle.std.proofs.lemmas.List.{take_all}
use Rattle.std.specs.Char.{is_ascii_digit}
use Rattle.std.specs.List.{list_all}
use Rattle.std.specs.Str.Parse.{digits_value}
use Rattle.addr4.specs.Fronts.{is_led}
use Rattle.addr4.proofs.FirstLemmas.{none_longer, not_led, led_digits, led_some}
use Rattle.addr4.proofs.numbers.read_number_below.Goals as goal

pub returns-then-count-text-clause-value : goal.returns-then-count-text-clause-value
returns-then-count-text-clause-value c =
    let at = c.front_digits-number in
    none_longer c.args.bound at.result.0 at.result.1 c.args.text.now at.ensures c.if-count-text.true

pub returns-then-not-is_led-clause-value : goal.returns-then-not-is_led-clause-value
returns-then-not-is_led-clause-value c =
    let wrong : is_led c.args.text.now ≡ false = search rules in
    not_led c.args.bound c.args.text.now wrong

pub returns-clause-value : goal.returns-clause-value
returns-clause-value c =
    let at = c.front_digits-number in
    let text = c.args.text.now in
    let front = at.ensures in
    let right : is_led text ≡ true = search rules in
    let whole : take at.result.1 text ≡ text = take_all at.result.1 text (omega (arith, c.if-count-text.false)) in
    let some = front.small (omega (arith, led_some text right, c.if-count-text.false)) in
    sym (led_digits c.args.bound at.result.0 text right (ap (list_all is_ascii_digit) (sym whole) ∙ front.digits) (front.is ∙ ap (digits_value 10) whole) some)
