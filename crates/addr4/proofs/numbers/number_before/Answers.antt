use Rattle.std.proofs.Common.{rules, ◌≡◌, ℕ, ◌+◌, ◌-◌, ◌<◌, true, false, length, get_or, take, drop, nat_eq, length-drop, length-take, arith}
use Rattle.std.proofs.lemmas.List.{take_all}
use Rattle.addr4.specs.Fronts.{is_led}
use Rattle.addr4.proofs.FirstLemmas.{none_whole, none_other, none_led, some_first, led_some}
use Rattle.addr4.proofs.numbers.number_before.Goals as goal

pub returns-then-count-text-clause-none : goal.returns-then-count-text-clause-none
returns-then-count-text-clause-none c none =
    let at = c.front_digits-number in
    none_whole c.args.separator c.args.bound c.args.text.now at.result.0 at.result.1 c.requires.apart at.ensures (omega (arith, c.if-count-text.true))

pub returns-then-text-count-clause-none : goal.returns-then-text-count-clause-none
returns-then-text-count-clause-none c none =
    let at = c.front_digits-number in
    let within = at.ensures.within in
    let longer : at.result.1 < length c.args.text.now = omega (arith, within, c.if-count-text.false) in
    let other : nat_eq (get_or c.args.text.now at.result.1 0) c.args.separator ≡ false = search rules in
    none_other c.args.separator c.args.bound c.args.text.now at.result.0 at.result.1 c.requires.apart at.ensures longer other

pub returns-then-not-is_led-clause-none : goal.returns-then-not-is_led-clause-none
returns-then-not-is_led-clause-none c none =
    let at = c.front_digits-number in
    let within = at.ensures.within in
    let longer : at.result.1 < length c.args.text.now = omega (arith, within, c.if-count-text.false) in
    let here : nat_eq (get_or c.args.text.now at.result.1 0) c.args.separator ≡ true = search rules in
    let wrong : is_led (take at.result.1 c.args.text.now) ≡ false = search rules in
    none_led c.args.separator c.args.bound c.args.text.now at.result.0 at.result.1 c.requires.apart at.ensures longer here wrong

pub returns-clause-some : goal.returns-clause-some
returns-clause-some c =
    let at = c.front_digits-number in
    let within = at.ensures.within in
    let text = c.args.text.now in
    let longer : at.result.1 < length text = omega (arith, within, c.if-count-text.false) in
    let here : nat_eq (get_or text at.result.1 0) c.args.separator ≡ true = search rules in
    let right : is_led (take at.result.1 text) ≡ true = search rules in
    let some : 0 < at.result.1 = omega (arith, led_some (take at.result.1 text) right, length-take at.result.1 text) in
    let rest = take_all (length text - (at.result.1 + 1)) (drop (at.result.1 + 1) text) (omega (arith, length-drop {A = ℕ})) in
    rw rest (some_first c.args.separator c.args.bound text at.result.0 at.result.1 c.requires.apart at.ensures longer here right some)
