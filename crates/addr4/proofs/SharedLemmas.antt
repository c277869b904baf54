-- The bits that two numbers share.
use Rattle.std.proofs.Common.{◌≡◌, ◌≢◌, ℕ, suc, ◌+◌, ◌-◌, ◌/◌, ◌%◌, ◌^◌, ◌<◌, ◌≤◌, sym, ap, ◌∙◌, inl, inr, arith}
use Rattle.std.proofs.lemmas.Bool.{cases_lt}
use Rattle.std.proofs.lemmas.Nat.{xor_lt, xor_shr, leading_top, pow_pos, div_below, le-div, mod_below}
use Rattle.std.specs.Prelude.{bit_xor}
use Rattle.std.specs.Int.Count.{count_leading_zeros}
use Rattle.std.proofs.lemmas.Nat.Bits.{same_from_bits, bit_at_xor, bit_at-zero}
use Rattle.std.specs.Int.{bit_at}
use Rattle.std.specs.Int.Bits.{xor_self}
use Rattle.addr4.specs.Blocks.{Shared}

bits_same : (x y : ℕ) → x < 2 → y < 2 → (x + y) % 2 ≡ 0 → x ≡ y
bits_same x y a b e = omega arith

same_from_xor : (a b : ℕ) → bit_xor a b ≡ 0 → a ≡ b
same_from_xor a b e = same_from_bits a b (λ i. bits_same (bit_at a i) (bit_at b i) (mod_below (a / 2 ^ i) 2 (omega arith)) (mod_below (b / 2 ^ i) 2 (omega arith)) (sym (bit_at_xor a b i) ∙ ap (λ n. bit_at n i) e ∙ bit_at-zero i))

some_bit : (a b : ℕ) → a ≢ b → 0 < bit_xor a b
some_bit a b differ = elim (cases_lt 0 (bit_xor a b)) [
  | inl lt ↦ lt
  | inr le ↦ let e : bit_xor a b ≡ 0 = omega arith in absurd (differ (same_from_xor a b e))
]

pub shared : (width : ℕ) (a b : ℕ) → a < 2 ^ width → b < 2 ^ width → a ≢ b → Shared width a b (count_leading_zeros width (bit_xor a b))
shared width a b fit_a fit_b differ =
    let x = bit_xor a b in
    let top = leading_top width x (some_bit a b differ) (xor_lt width a b fit_a fit_b) in
    let j = top.0 in
    let n = count_leading_zeros width x in
    let e_high : width - n ≡ suc j = omega (arith, top.1) in
    let e_low : width - 1 - n ≡ j = omega (arith, top.1) in
    let none : x / 2 ^ suc j ≡ 0 = omega (arith, div_below x (2 ^ suc j) 1 (pow_pos (suc j)) (omega (arith, top.3))) in
    let high : a / 2 ^ suc j ≡ b / 2 ^ suc j = same_from_xor _ _ (sym (xor_shr a b (suc j)) ∙ none) in
    let one : 1 ≤ x / 2 ^ j = le-div 1 x (2 ^ j) (pow_pos j) (omega (arith, top.2)) in
    record {
      below = omega (arith, top.1);
      same = rw e_high high;
      differ = λ low.
          let at : a / 2 ^ j ≡ b / 2 ^ j = rw e_low at low in
          let zero_low : x / 2 ^ j ≡ 0 = xor_shr a b j ∙ ap (λ y. bit_xor y (b / 2 ^ j)) at ∙ xor_self (b / 2 ^ j) in
          absurd (omega (arith, one, zero_low));
    }
