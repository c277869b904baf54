-- Numbers with few digits, digit by digit.
use Rattle.std.proofs.Common.{◌≡◌, ℕ, ◌+◌, ◌/◌, ◌%◌, ◌^◌, ◌<◌, ◌≤◌, List, [], ◌∷◌, ◌++◌, ap, sym, ◌∙◌, arith, append_assoc}
use Rattle.std.proofs.lemmas.Fmt.{decimal_digit, decimal_step}
use Rattle.std.specs.Fmt.{decimal}

pub one_digit : (n : ℕ) (xs : List ℕ) → n < 10 → xs ++ (48 + n) ∷ [] ≡ xs ++ decimal n
one_digit n xs less = ap (λ (d : List ℕ). xs ++ d) (sym (decimal_digit n less))

-- the last digit behind those before
one_more : (n : ℕ) (xs ys : List ℕ) → 10 ≤ n → n < 2 ^ 64 → ys ≡ xs ++ decimal (n / 10) → ys ++ (48 + n % 10) ∷ [] ≡ xs ++ decimal n
one_more n xs ys more fits is =
    ap (λ (d : List ℕ). d ++ (48 + n % 10) ∷ []) is ∙ append_assoc xs (decimal (n / 10)) ((48 + n % 10) ∷ []) ∙ ap (λ (d : List ℕ). xs ++ d) (sym (decimal_step n more fits))

pub two_digits : (n : ℕ) (xs : List ℕ) → 10 ≤ n → n < 100 → (xs ++ (48 + n / 10) ∷ []) ++ (48 + n % 10) ∷ [] ≡ xs ++ decimal n
two_digits n xs more less = one_more n xs (xs ++ (48 + n / 10) ∷ []) more (omega arith) (one_digit (n / 10) xs (omega arith))

pub three_digits : (n : ℕ) (xs : List ℕ) → 100 ≤ n → n < 1000 → ((xs ++ (48 + n / 100) ∷ []) ++ (48 + n / 10 % 10) ∷ []) ++ (48 + n % 10) ∷ [] ≡ xs ++ decimal n
three_digits n xs more less =
    let first : n / 10 / 10 ≡ n / 100 = omega arith in
    one_more n xs ((xs ++ (48 + n / 100) ∷ []) ++ (48 + n / 10 % 10) ∷ []) (omega arith) (omega arith)
    (ap (λ d. (xs ++ (48 + d) ∷ []) ++ (48 + n / 10 % 10) ∷ []) (sym first) ∙ two_digits (n / 10) xs (omega arith) (omega arith))
