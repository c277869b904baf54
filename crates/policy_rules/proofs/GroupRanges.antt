-- What is read as an IPv6 address has 128 bits.
use Rattle.std.proofs.Common.{◌≡◌, ℕ, ◌-◌, ◌^◌, ◌<◌, ◌≤◌, ◌&&◌, Bool, true, false, nat_eq, nat_le, List, [], ◌∷◌, ◌++◌, length, map, replicate, Option, Some, None, option_and_then, cond, All, IfSome, refl, sym, subst, arith}
use Rattle.std.proofs.Math.Nat.{pow-le-pow_right}
use Rattle.std.proofs.NetLemmas.Arrays.{eight_items}
use Rattle.std.proofs.lemmas.Bool.{and_parts, ltb-true, leb-true, eqb-true}
use Rattle.std.proofs.lemmas.Int.Digits.{digits_value-lt}
use Rattle.std.proofs.lemmas.List.Elements.{All-nil, All-cons, All-append, All-replicate}
use Rattle.std.specs.Char.{digit_value, is_digit}
use Rattle.std.specs.List.{list_all}
use Rattle.std.specs.Str.Parse.{AllDigits, digits_value}
use Rattle.addr4.specs.Texts.{parts, is_group, groups_in, around, from_groups, if_eight, filled, addr6_from, addr6_of}

abbrev IsGroup : ℕ → Type 0
IsGroup g = g < 65536

-- ---- a group
digits_are : (ds : List ℕ) → list_all (λ c. is_digit c 16) ds ≡ true → AllDigits 16 ds
digits_are [] h = tt
digits_are (c ∷ cs) h = let (first, rest) = and_parts _ _ h in (ltb-true (digit_value c) 16 first, digits_are cs rest)

group_fits : (word : List ℕ) → is_group word ≡ true → IsGroup (digits_value 16 word)
group_fits word h =
    let (long, digits) = and_parts (nat_le 1 (length word) && nat_le (length word) 4) (list_all (λ c. is_digit c 16) word) h in
    let (some, few) = and_parts (nat_le 1 (length word)) (nat_le (length word) 4) long in
    let most : 16 ^ length word ≤ 16 ^ 4 = pow-le-pow_right (omega arith) (leb-true (length word) 4 few) in
    let value = digits_value-lt 16 word (digits_are word digits) in
    omega (arith, most, value)

groups_fit : (words : List (List ℕ)) → list_all is_group words ≡ true → All IsGroup (map (digits_value 16) words)
groups_fit [] h = All-nil IsGroup
groups_fit (w ∷ ws) h = let (first, rest) = and_parts _ _ h in All-cons IsGroup (digits_value 16 w) (map (digits_value 16) ws) (group_fits w first) (groups_fit ws rest)

if_all : (words : List (List ℕ)) (b : Bool) → list_all is_group words ≡ b → IfSome (cond b (Some (map (digits_value 16) words)) None) (All IsGroup)
if_all words true e = groups_fit words e
if_all words false e = tt

in_text : (text : List ℕ) → IfSome (groups_in text) (All IsGroup)
in_text [] = All-nil IsGroup
in_text (c ∷ cs) = if_all (parts 58 (c ∷ cs)) (list_all is_group (parts 58 (c ∷ cs))) refl

-- ---- eight groups
eight_fit : (a b c d e f g h : ℕ) → All IsGroup (a ∷ b ∷ c ∷ d ∷ e ∷ f ∷ g ∷ h ∷ []) → from_groups (a ∷ b ∷ c ∷ d ∷ e ∷ f ∷ g ∷ h ∷ []) < 2 ^ 128
eight_fit a b c d e f g h are =
    omega (arith, are 0 0 (omega arith), are 1 0 (omega arith), are 2 0 (omega arith), are 3 0 (omega arith), are 4 0 (omega arith), are 5 0 (omega arith), are 6 0 (omega arith), are 7 0 (omega arith))

if_all_eight : (groups : List ℕ) (b : Bool) → nat_eq (length groups) 8 ≡ b → All IsGroup groups → IfSome (cond b (Some (from_groups groups)) None) (λ n. n < 2 ^ 128)
if_all_eight groups false e are = tt
if_all_eight groups true e are =
    let whole = eight_items groups (eqb-true (length groups) 8 e) in
    subst (λ gs. from_groups gs < 2 ^ 128) (sym whole) (eight_fit _ _ _ _ _ _ _ _ (subst (All IsGroup) whole are))

if_eight_fits : (groups : List ℕ) → All IsGroup groups → IfSome (if_eight groups) (λ n. n < 2 ^ 128)
if_eight_fits groups are = if_all_eight groups (nat_eq (length groups) 8) refl are

full_fits : (o : Option (List ℕ)) → IfSome o (All IsGroup) → IfSome (option_and_then if_eight o) (λ n. n < 2 ^ 128)
full_fits None h = tt
full_fits (Some groups) h = if_eight_fits groups h

filled_fits : (front back : Option (List ℕ)) → IfSome front (All IsGroup) → IfSome back (All IsGroup) → IfSome (filled front back) (λ n. n < 2 ^ 128)
filled_fits None back hf hb = tt
filled_fits (Some front) None hf hb = tt
filled_fits (Some front) (Some back) hf hb =
    let zeros : List ℕ = replicate {A = ℕ} (7 - length front - length back) 0 in
    if_eight_fits (front ++ 0 ∷ zeros ++ back)
    (All-append IsGroup (front ++ 0 ∷ zeros) back
    (All-append IsGroup front (0 ∷ zeros) hf (All-cons IsGroup 0 zeros (omega arith) (All-replicate IsGroup (7 - length front - length back) 0 (omega arith)))) hb)

from_fits : (text : List ℕ) (sides : Option (List ℕ × List ℕ)) → IfSome (addr6_from text sides) (λ n. n < 2 ^ 128)
from_fits text None = full_fits (groups_in text) (in_text text)
from_fits text (Some sides) = filled_fits (groups_in sides.0) (groups_in sides.1) (in_text sides.0) (in_text sides.1)

pub addr6_fits : (text : List ℕ) → IfSome (addr6_of text) (λ n. n < 2 ^ 128)
unfolding addr6_of
addr6_fits text = from_fits text (around text)
