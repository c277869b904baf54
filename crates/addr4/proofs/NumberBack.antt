-- A number is read back from its digits.
use Rattle.std.proofs.Common.{◌≡◌, ℕ, zero, suc, ◌^◌, ◌<◌, Bool, true, false, cond, not, ◌&&◌, ◌||◌, nat_eq, List, [], ◌∷◌, length, get_or, Some, None, decimal, refl, sym, ap, ◌∙◌, arith}
use Rattle.std.proofs.lemmas.Bool.{and_from}
use Rattle.std.proofs.lemmas.Bool.Decides.{nat_tests}
use Rattle.std.proofs.lemmas.Fmt.{decimal_is_IsNumeral, first_decimal, decimal_digit}
use Rattle.std.specs.Char.{digit_value, is_ascii_digit}
use Rattle.std.specs.List.{list_all}
use Rattle.std.specs.Str.Parse.{AllDigits, digits_value}
use Rattle.addr4.specs.Texts.{is_numeral, value_below, number_below}
use Rattle.addr4.proofs.NumberLemmas.{value_small}

numeral_by : (a b c d : Bool) → a ≡ false → c ≡ false → d ≡ true → (not a && (b || not c) && d) ≡ true
numeral_by true b c d ha hc hd = absurd (cc)
numeral_by false b true d ha hc hd = absurd (cc)
numeral_by false true false d ha hc hd = hd
numeral_by false false false d ha hc hd = hd

decimal_digit_passes : (c : ℕ) → digit_value c < 10 → is_ascii_digit c ≡ true
decimal_digit_passes c h = grind (arith, nat_tests)

-- a test that each digit passes, a number's do
pub decimals_pass : (p : ℕ → Bool) → ((c : ℕ) → digit_value c < 10 → p c ≡ true) → (ds : List ℕ) → AllDigits 10 ds → list_all p ds ≡ true
decimals_pass p each [] h = refl
decimals_pass p each (c ∷ cs) h = and_from _ _ (each c h.0) (decimals_pass p each cs h.1)

numeral_above : (n : ℕ) → 0 < n → n < 2 ^ 64 → is_numeral (decimal n) ≡ true
numeral_above n some wide =
    let text = decimal n in
    let numeral = decimal_is_IsNumeral n wide in
    let long = numeral.0.0 in
    let first = first_decimal n some wide in
    let not_empty : nat_eq (length text) 0 ≡ false = grind (arith, nat_tests) in
    let not_zero : nat_eq (get_or text 0 0) 48 ≡ false = grind (arith, nat_tests) in
    numeral_by (nat_eq (length text) 0) (nat_eq (length text) 1) (nat_eq (get_or text 0 0) 48) (list_all is_ascii_digit text) not_empty not_zero (decimals_pass is_ascii_digit decimal_digit_passes text numeral.0.1)

is_numeral_decimal : (n : ℕ) → n < 2 ^ 64 → is_numeral (decimal n) ≡ true
is_numeral_decimal zero wide = ap is_numeral (decimal_digit 0 (omega arith))
is_numeral_decimal (suc n) wide = numeral_above (suc n) (omega arith) wide

-- a number is read back from its digits
pub number_back : (bound n : ℕ) → n < bound → n < 2 ^ 64 → number_below bound (decimal n) ≡ Some n
unfolding number_below
number_back bound n below wide =
    let value = (decimal_is_IsNumeral n wide).1 in
    let small : digits_value 10 (decimal n) < bound = omega arith in
    ap (λ b. cond b (value_below bound (decimal n)) None) (is_numeral_decimal n wide) ∙ (sym (value_small bound (decimal n) small) ∙ ap Some value)
