-- Numbers of the command line.
use Rattle.std.proofs.Common.{◌≡◌, ℕ, ◌≤◌, ◌<◌, Bool, true, false, cond, List, Some, None, Result, Ok, Err, refl, sym, ap, ◌∙◌, arith}
use Rattle.std.specs.Str.Parse.{ParsesUnsigned, digits_value, without_leading_plus}
use Rattle.clap.specs.Words.{IsUnsignedIn}
use Rattle.clap.specs.ValueTests.{is_unsigned_in}
use Rattle.clap.specs.declared.builder.value_parser.ValueParser.TheVariants.{Unsigned}
use Rattle.clap.proofs.ValueTestLemmas.{accepts-Accepts, Accepts-accepts}
use Rattle.command_line.specs.Commands.{number_in}

refused : (most : ℕ) (text : List ℕ) → (IsUnsignedIn 0 most text → ⊥) → is_unsigned_in 0 most text ≡ false
refused most text none = by (is_unsigned_in 0 most text) refl
  where
    by : (b : Bool) → is_unsigned_in 0 most text ≡ b → b ≡ false
    by true e = absurd (none (accepts-Accepts false (Unsigned 0 most) text e))
    by false e = refl

-- a text that is read, as a number that is not too large
pub number_read : {E : Type 0} (most n : ℕ) (text : List ℕ) (r : Result ℕ E) → ParsesUnsigned 64 10 text r → r ≡ Ok n → n ≤ most → Some n ≡ number_in most text
number_read {E} most n text (Ok x) h e low =
    let value : digits_value 10 (without_leading_plus text) ≡ n = (let same : x ≡ n = cc in sym h.1 ∙ same) in
    let is : IsUnsignedIn 0 most text = (h.0.0, h.0.1, omega arith, omega (arith, value, low)) in
    ap (λ k. Some k) (sym value) ∙ ap (λ b. cond b (Some (digits_value 10 (without_leading_plus text))) None) (sym (Accepts-accepts false (Unsigned 0 most) text is))
number_read {E} most n text (Err x) h e low = absurd (cc)

-- a text that is not
pub number_not_read : {E : Type 0} (most : ℕ) (text : List ℕ) (r : Result ℕ E) → ParsesUnsigned 64 10 text r → ((n : ℕ) → r ≡ Ok n → most < n) → None ≡ number_in most text
number_not_read {E} most text (Ok x) h beyond =
    sym (ap (λ b. cond b (Some (digits_value 10 (without_leading_plus text))) None) (refused most text (λ is. absurd (omega (arith, beyond x refl, h.1, is.3)))))
number_not_read {E} most text (Err x) h beyond =
    sym (ap (λ b. cond b (Some (digits_value 10 (without_leading_plus text))) None) (refused most text (λ is. h (is.0, is.1))))
