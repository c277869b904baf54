-- The last part of an address or a prefix: what follows the last separator, for a text in which another one stands is no number.
use Rattle.std.proofs.Common.{◌≡◌, ℕ, suc, ◌<◌, Bool, true, false, not, ◌&&◌, ◌||◌, cond, List, [], ◌∷◌, length, get_or, Option, None, Some, nat_eq, refl, sym, ap, ◌∙◌, arith}
use Rattle.std.proofs.lemmas.Bool.Decides.{nat_tests}
use Rattle.std.proofs.lemmas.List.Elements.{All-from_get_or}
use Rattle.std.proofs.lemmas.List.Splits.{join_with_byte-slice_split}
use Rattle.std.specs.Char.{is_ascii_digit}
use Rattle.std.specs.List.{All, list_all, join_with_byte}
use Rattle.addr4.specs.Families.{bits_of}
use Rattle.addr4.specs.Texts.{parts, value_below, number_below, id_from_octets, id_from_parts, addr_of, address_prefix_of, prefix_from_parts}
use Rattle.addr4.proofs.NumberLemmas.{digit_at}
use Rattle.addr4.proofs.PartLemmas.{parts_alone}

-- a byte below the digits is none of them
digits_apart : (separator : ℕ) (text : List ℕ) → separator < 48 → list_all is_ascii_digit text ≡ true → All (λ b. nat_eq b separator ≡ false) text
digits_apart separator text low all = All-from_get_or (λ b. nat_eq b separator ≡ false) text 0 (λ i below. let range = digit_at text i below all in grind (arith, nat_tests))

and_false : (b : Bool) → (b && false) ≡ false
and_false true = refl
and_false false = refl

-- a text with another byte than digits is no number
pub no_number : (bound : ℕ) (text : List ℕ) → list_all is_ascii_digit text ≡ false → number_below bound text ≡ None
unfolding number_below
no_number bound text other =
    let led = not (nat_eq (length text) 0) && (nat_eq (length text) 1 || not (nat_eq (get_or text 0 0) 48)) in
    ap (λ b. cond (led && b) (value_below bound text) None) other ∙ ap (λ b. cond b (value_below bound text) None) (and_false led)

-- a single part is the text
one_part : (separator : ℕ) (text part : List ℕ) → parts separator text ≡ part ∷ [] → part ≡ text
one_part separator text part e = ap (join_with_byte separator) (sym e) ∙ join_with_byte-slice_split separator text

-- ---- four octets
no_octet : (a b c : Option ℕ) → id_from_octets a b c None ≡ None
no_octet None b c = refl
no_octet (Some a) None c = refl
no_octet (Some a) (Some b) None = refl
no_octet (Some a) (Some b) (Some c) = refl

no_id : (a b c rest : List ℕ) (behind : List (List ℕ)) → parts 46 rest ≡ behind → number_below 256 rest ≡ None → id_from_parts (a ∷ b ∷ c ∷ behind) ≡ None
no_id a b c rest [] is none = refl
no_id a b c rest (d ∷ []) is none =
    ap (λ o. id_from_octets (number_below 256 a) (number_below 256 b) (number_below 256 c) o) (ap (number_below 256) (one_part 46 rest d is) ∙ none)
    ∙ no_octet (number_below 256 a) (number_below 256 b) (number_below 256 c)
no_id a b c rest (d ∷ e ∷ more) is none = refl

octet_by : (a b c rest : List ℕ) (digits : Bool) → list_all is_ascii_digit rest ≡ digits
    → id_from_parts (a ∷ b ∷ c ∷ parts 46 rest) ≡ id_from_octets (number_below 256 a) (number_below 256 b) (number_below 256 c) (number_below 256 rest)
octet_by a b c rest true e = ap (λ behind. id_from_parts (a ∷ b ∷ c ∷ behind)) (parts_alone 46 rest (digits_apart 46 rest (omega arith) e))
octet_by a b c rest false e =
    let none = no_number 256 rest e in
    no_id a b c rest (parts 46 rest) refl none
    ∙ sym (ap (λ o. id_from_octets (number_below 256 a) (number_below 256 b) (number_below 256 c) o) none ∙ no_octet (number_below 256 a) (number_below 256 b) (number_below 256 c))

-- what follows the third dot is the fourth octet, or none
pub last_octet : (a b c rest : List ℕ) → id_from_parts (a ∷ b ∷ c ∷ parts 46 rest) ≡ id_from_octets (number_below 256 a) (number_below 256 b) (number_below 256 c) (number_below 256 rest)
last_octet a b c rest = octet_by a b c rest (list_all is_ascii_digit rest) refl

-- ---- an address and a length
no_length : (address : Option ℕ) → address_prefix_of address None ≡ None
no_length None = refl
no_length (Some a) = refl

no_prefix : (v6 : Bool) (a rest : List ℕ) (behind : List (List ℕ)) → parts 47 rest ≡ behind → number_below (suc (bits_of v6)) rest ≡ None → prefix_from_parts v6 (a ∷ behind) ≡ None
no_prefix v6 a rest [] is none = refl
no_prefix v6 a rest (l ∷ []) is none =
    ap (λ o. address_prefix_of (addr_of v6 a) o) (ap (number_below (suc (bits_of v6))) (one_part 47 rest l is) ∙ none) ∙ no_length (addr_of v6 a)
no_prefix v6 a rest (l ∷ m ∷ more) is none = refl

length_by : (v6 : Bool) (a rest : List ℕ) (digits : Bool) → list_all is_ascii_digit rest ≡ digits
    → prefix_from_parts v6 (a ∷ parts 47 rest) ≡ address_prefix_of (addr_of v6 a) (number_below (suc (bits_of v6)) rest)
length_by v6 a rest true e = ap (λ behind. prefix_from_parts v6 (a ∷ behind)) (parts_alone 47 rest (digits_apart 47 rest (omega arith) e))
length_by v6 a rest false e =
    let none = no_number (suc (bits_of v6)) rest e in
    no_prefix v6 a rest (parts 47 rest) refl none ∙ sym (ap (λ o. address_prefix_of (addr_of v6 a) o) none ∙ no_length (addr_of v6 a))

-- what follows the slash is the length, or none
pub last_length : (v6 : Bool) (a rest : List ℕ) → prefix_from_parts v6 (a ∷ parts 47 rest) ≡ address_prefix_of (addr_of v6 a) (number_below (suc (bits_of v6)) rest)
last_length v6 a rest = length_by v6 a rest (list_all is_ascii_digit rest) refl
