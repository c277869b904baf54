-- The bytes of printed words: no space among them.
use Rattle.std.proofs.Common.{◌≡◌, ℕ, zero, suc, ◌/◌, ◌%◌, ◌^◌, ◌<◌, ◌≤◌, ◌&&◌, Bool, true, false, cond, nat_le, nat_eq, List, [], ◌∷◌, ◌++◌, length, get_or, refl, ap, ◌∙◌, arith}
use Rattle.std.proofs.lemmas.Bool.Decides.{nat_tests}
use Rattle.std.specs.List.{AllByRecursion, list_all, join_with_byte, flat_map, onto_first}
use Rattle.std.specs.Fmt.{decimal}
use Rattle.std.specs.Str.Parse.{AllDigits}
use Rattle.std.proofs.lemmas.Str.Parse.{digit_at}
use Rattle.std.proofs.lemmas.Fmt.{decimal_is_IsNumeral, decimal_is_IsNumeral_wide}
use Rattle.std.proofs.lemmas.List.Splits.{slice_split-cons_no}
use Rattle.std.proofs.lemmas.List.Folds.{list_all-append}
use Rattle.hex.specs.Hex.{lower_digits, encode_with, encode_lower}
use Rattle.addr4.specs.Texts.{parts, dotted}

pub both_true : (a b : Bool) → (a && b) ≡ true → (a ≡ true) × (b ≡ true)
both_true true b e = (refl, e)
both_true false b e = absurd (cc)

-- what holds of the bytes of both holds of them together
pub all_append : {A : Type 0} (P : A → Type 0) (xs ys : List A) → AllByRecursion P xs → AllByRecursion P ys → AllByRecursion P (xs ++ ys)
all_append P [] ys g h = h
all_append P (x ∷ xs) ys g h = (g.0, all_append P xs ys g.1 h)

pub all_mapped : {A : Type 0} (P Q : A → Type 0) → ((x : A) → P x → Q x) → (xs : List A) → AllByRecursion P xs → AllByRecursion Q xs
all_mapped P Q f [] h = tt
all_mapped P Q f (x ∷ xs) h = (f x h.0, all_mapped P Q f xs h.1)

-- what a test tells of each byte that passes it
pub all_passed : (p : ℕ → Bool) (Q : ℕ → Type 0) → ((x : ℕ) → p x ≡ true → Q x) → (xs : List ℕ) → list_all p xs ≡ true → AllByRecursion Q xs
all_passed p Q each [] h = tt
all_passed p Q each (x ∷ xs) h = let t = both_true (p x) (list_all p xs) h in (each x t.0, all_passed p Q each xs t.1)

pub all_flat : {A : Type 0} (P : A → Type 0) (Q : ℕ → Type 0) (f : A → List ℕ) → ((x : A) → P x → AllByRecursion Q (f x)) → (xs : List A) → AllByRecursion P xs → AllByRecursion Q (flat_map f xs)
all_flat P Q f each [] h = tt
all_flat P Q f each (x ∷ xs) h = all_append Q (f x) (flat_map f xs) (each x h.0) (all_flat P Q f each xs h.1)

-- ---- digits

pub digit_range : (c : ℕ) (cs : List ℕ) → AllDigits 10 (c ∷ cs) → (48 ≤ c) × (c ≤ 57)
digit_range c cs all = let range = digit_at (c ∷ cs) 0 all (omega arith) in (omega (arith, range), omega (arith, range))

pub digits_are : (P : ℕ → Type 0) → ((c : ℕ) → 48 ≤ c → c ≤ 57 → P c) → (cs : List ℕ) → AllDigits 10 cs → AllByRecursion P cs
digits_are P each [] all = tt
digits_are P each (c ∷ cs) all = let range = digit_range c cs all in (each c range.0 range.1, digits_are P each cs all.1)

pub decimal_are : (P : ℕ → Type 0) → ((c : ℕ) → 48 ≤ c → c ≤ 57 → P c) → (n : ℕ) → n < 2 ^ 64 → AllByRecursion P (decimal n)
decimal_are P each n small = digits_are P each (decimal n) (decimal_is_IsNumeral n small).0.1

-- numbers with dots between them
pub dotted_are : (P : ℕ → Type 0) → ((c : ℕ) → 48 ≤ c → c ≤ 57 → P c) → P 46 → (ns : List ℕ) → AllByRecursion (λ n. n < 2 ^ 32) ns → AllByRecursion P (dotted ns)
dotted_are P each dot [] h = tt
dotted_are P each dot (n ∷ []) h = let small = h.0 in decimal_are P each n (omega (arith, small))
dotted_are P each dot (n ∷ m ∷ ns) h =
    let small = h.0 in
    all_append P (decimal n) (46 ∷ dotted (m ∷ ns)) (decimal_are P each n (omega (arith, small))) (dot, dotted_are P each dot (m ∷ ns) h.1)

-- ---- ink

-- a byte that is printed and no space
abbrev pub IsInk : ℕ → Type 0
IsInk b = (33 ≤ b) × (b ≤ 126)

abbrev pub AreInk : List ℕ → Type 0
AreInk text = AllByRecursion IsInk text

abbrev pub inky : ℕ → Bool
inky b = nat_le 33 b && nat_le b 126

ink_byte : (b : ℕ) → inky b ≡ true → IsInk b
ink_byte b e = let t = both_true (nat_le 33 b) (nat_le b 126) e in let low = t.0 in let high = t.1 in (grind (arith, nat_tests), grind (arith, nat_tests))

-- by a test, as of a word
pub ink_by : (text : List ℕ) → list_all inky text ≡ true → AreInk text
ink_by [] e = tt
ink_by (b ∷ text) e = let t = both_true (inky b) (list_all inky text) e in (ink_byte b t.0, ink_by text t.1)

pub ink_digit : (c : ℕ) → 48 ≤ c → c ≤ 57 → IsInk c
ink_digit c low high = (omega arith, omega arith)

pub ink_decimal : (n : ℕ) → n < 2 ^ 64 → AreInk (decimal n)
ink_decimal n small = decimal_are IsInk ink_digit n small

pub ink_wide : (n : ℕ) → n < 2 ^ 128 → AreInk (decimal n)
ink_wide n small = digits_are IsInk ink_digit (decimal n) (decimal_is_IsNumeral_wide n (omega arith)).0.1

pub ink_dotted : (ns : List ℕ) → AllByRecursion (λ n. n < 2 ^ 32) ns → AreInk (dotted ns)
ink_dotted ns h = dotted_are IsInk ink_digit (omega arith, omega arith) ns h

ink_at : (text : List ℕ) (k : ℕ) → AreInk text → k < length text → IsInk (get_or text k 0)
ink_at [] k h below = absurd (omega arith)
ink_at (b ∷ text) zero h below = h.0
ink_at (b ∷ text) (suc k) h below = ink_at text k h.1 (omega arith)

pub ink_hex : (octets : List ℕ) → AllByRecursion (λ b. b < 2 ^ 8) octets → AreInk (encode_lower octets)
unfolding encode_with
ink_hex [] h = tt
ink_hex (b ∷ octets) h =
    let small = h.0 in
    let digits : AreInk lower_digits = ink_by lower_digits refl in
    (ink_at lower_digits (b / 16) digits (omega arith), (ink_at lower_digits (b % 16) digits (omega arith), ink_hex octets h.1))

-- ---- words with one space between them

no_space : (c : ℕ) → IsInk c → nat_eq c 32 ≡ false
no_space c h = let low = h.0 in grind (arith, nat_tests)

-- a part without the separator
pub apart_then : (separator : ℕ) (cs rest : List ℕ) → nat_eq separator separator ≡ true → AllByRecursion (λ c. nat_eq c separator ≡ false) cs → parts separator (cs ++ separator ∷ rest) ≡ cs ∷ parts separator rest
apart_then separator [] rest is all = ap (λ b. cond b ([] ∷ parts separator rest) (onto_first separator (parts separator rest))) is
apart_then separator (c ∷ cs) rest is all = slice_split-cons_no (λ b. nat_eq b separator) c (cs ++ separator ∷ rest) all.0 ∙ ap (onto_first c) (apart_then separator cs rest is all.1)

pub apart_alone : (separator : ℕ) (cs : List ℕ) → AllByRecursion (λ c. nat_eq c separator ≡ false) cs → parts separator cs ≡ cs ∷ []
apart_alone separator [] all = refl
apart_alone separator (c ∷ cs) all = slice_split-cons_no (λ b. nat_eq b separator) c cs all.0 ∙ ap (onto_first c) (apart_alone separator cs all.1)

spaceless : (word : List ℕ) → AreInk word → AllByRecursion (λ c. nat_eq c 32 ≡ false) word
spaceless word h = all_mapped IsInk (λ c. nat_eq c 32 ≡ false) no_space word h

-- the words are the parts of the line
pub words_parted : (word : List ℕ) (words : List (List ℕ)) → AllByRecursion AreInk (word ∷ words) → parts 32 (join_with_byte 32 (word ∷ words)) ≡ word ∷ words
words_parted word [] h = apart_alone 32 word (spaceless word h.0)
words_parted word (next ∷ words) h = apart_then 32 word (join_with_byte 32 (next ∷ words)) refl (spaceless word h.0) ∙ ap (λ ws. word ∷ ws) (words_parted next words h.1)

abbrev pub printable : ℕ → Bool
printable b = nat_le 32 b && nat_le b 126

ink_printable : (b : ℕ) → IsInk b → printable b ≡ true
ink_printable b h = let low = h.0 in let high = h.1 in grind (arith, nat_tests)

and_yes : (a b : Bool) → a ≡ true → b ≡ true → (a && b) ≡ true
and_yes a b ha hb = cc

word_passes : (word : List ℕ) → AreInk word → list_all printable word ≡ true
word_passes [] h = refl
word_passes (b ∷ word) h = and_yes (printable b) (list_all printable word) (ink_printable b h.0) (word_passes word h.1)

pub line_passes : (word : List ℕ) (words : List (List ℕ)) → AllByRecursion AreInk (word ∷ words) → list_all printable (join_with_byte 32 (word ∷ words)) ≡ true
line_passes word [] h = word_passes word h.0
line_passes word (next ∷ words) h =
    list_all-append printable word (32 ∷ join_with_byte 32 (next ∷ words))
    ∙ and_yes (list_all printable word) (list_all printable (join_with_byte 32 (next ∷ words))) (word_passes word h.0) (line_passes next words h.1)
