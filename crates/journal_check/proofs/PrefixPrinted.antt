-- A word that spells a prefix of IPv4 is printed so exactly where the address has no bits beyond the length.
use Rattle.std.proofs.Common.{◌≡◌, ℕ, zero, suc, ◌^◌, ◌<◌, ◌≤◌, ◌||◌, not, Bool, true, false, cond, nat_eq, List, [], ◌∷◌, ◌++◌, length, get_or, Option, Some, None, refl, sym, ap, ◌∙◌, ◌/◌, arith, option_map}
use Rattle.std.proofs.lemmas.Bool.Decides.{nat_tests}
use Rattle.std.proofs.lemmas.Fmt.{decimal-digits_value}
use Rattle.std.proofs.lemmas.List.Splits.{join_with_byte-slice_split}
use Rattle.std.proofs.lemmas.Nat.{be_bytes_4}
use Rattle.std.proofs.lemmas.Slice.Eq.{bytes_eq-Decides}
use Rattle.std.proofs.lemmas.Str.{digit_value_digit}
use Rattle.std.proofs.lemmas.Str.Parse.{numerals_by_value, tells_digits}
use Rattle.std.specs.Char.{is_ascii_digit}
use Rattle.std.specs.Fmt.{decimal}
use Rattle.std.specs.Int.{w32, from_be_bytes}
use Rattle.std.specs.List.{list_all, join_with_byte}
use Rattle.std.specs.Str.{bytes_eq}
use Rattle.std.specs.Str.Parse.{AllDigits, digits_value}
use Rattle.addr4.specs.Blocks.{masked_to, width, size_of_length}
use Rattle.addr4.specs.Prefixes.{AddressPrefix}
use Rattle.addr4.specs.Texts.{is_numeral, value_below, number_below, parts, id_from_octets, id_from_parts, addr_of, dotted, addr_text, address_prefix_of, prefix_from_parts, prefix_of, prefix_text, id_of, id_text}
use Rattle.addr4.proofs.NumberLemmas.{and_left, and_right, digits_of_numeral}
use Rattle.addr4.proofs.PartLemmas.{parts_some}
use Rattle.addr4.specs.Families.{in_front, in_front_back, IsIpv4, IsIpv4Prefix}
use Rattle.addr4.proofs.FrontLemmas.{front_prefix}
use Rattle.addr4.proofs.BlockLemmas.{masked_down, size_pos}
use Rattle.journal_check.specs.Readings.{◌>>=◌, as_printed, printed_prefix}
use Rattle.journal_check.proofs.InkLemmas.{apart_then, apart_alone}
use Rattle.journal_check.proofs.PrefixBack.{addr_back, slashless, slashless_length}

-- ---- numbers

digit_range : (c : ℕ) → is_ascii_digit c ≡ true → (48 ≤ c) × (c ≤ 57)
digit_range c is = grind (arith, nat_tests)

all_digits : (cs : List ℕ) → list_all is_ascii_digit cs ≡ true → AllDigits 10 cs
all_digits [] all = tt
all_digits (c ∷ cs) all =
    let range = digit_range c (and_left _ _ all) in
    let value = digit_value_digit c range in
    (omega (arith, range, value), all_digits cs (and_right _ _ all))

numeral_text : (text : List ℕ) → is_numeral text ≡ true → digits_value 10 text < 2 ^ 64 → decimal (digits_value 10 text) ≡ text
numeral_text text is small =
    let digits = digits_of_numeral text is in
    let first : (nat_eq (length text) 1 || not (nat_eq (get_or text 0 0) 48)) ≡ true = and_right (not (nat_eq (length text) 0)) (nat_eq (length text) 1 || not (nat_eq (get_or text 0 0) 48)) (and_left _ _ is) in
    decimal-digits_value (numerals_by_value (AllDigits 10) tells_digits) text (all_digits text digits.0) digits.1 (λ (zero_first : get_or text 0 0 ≡ 48). grind (arith, nat_tests, first, zero_first)) small

-- the number that a text spells, and the text that the number has
record IsSpelled (bound : ℕ) (text : List ℕ) (n : ℕ) : Type 0 where
  below : n < bound
  printed : decimal n ≡ text

spelled : (bound : ℕ) (text : List ℕ) (n : ℕ) → bound ≤ 2 ^ 32 → number_below bound text ≡ Some n → IsSpelled bound text n
unfolding number_below
spelled bound text n small e = by_numeral (is_numeral text) refl e
  where
    by_numeral : (numeral : Bool) → is_numeral text ≡ numeral → cond numeral (value_below bound text) None ≡ Some n → IsSpelled bound text n
    by_numeral true is e =
        let value : (digits_value 10 text ≡ n) × (n < bound) = grind (arith, nat_tests) in
        record { below = value.1; printed = ap decimal (sym value.0) ∙ numeral_text text is (omega (arith, value.0, value.1)) }
    by_numeral false is e = absurd (cc)

-- ---- addresses

record AreOctets (o p q r : Option ℕ) (a : ℕ) : Type 0 where
  first : ℕ
  second : ℕ
  third : ℕ
  fourth : ℕ
  has_first : o ≡ Some first
  has_second : p ≡ Some second
  has_third : q ≡ Some third
  has_fourth : r ≡ Some fourth
  value : a ≡ from_be_bytes w32 (first ∷ second ∷ third ∷ fourth ∷ [])

are_octets : (o p q r : Option ℕ) (a : ℕ) → id_from_octets o p q r ≡ Some a → AreOctets o p q r a
are_octets (Some b) (Some c) (Some d) (Some e) a is = record { first = b; second = c; third = d; fourth = e; has_first = refl; has_second = refl; has_third = refl; has_fourth = refl; value = cc }
are_octets (Some b) (Some c) (Some d) None a is = absurd (cc)
are_octets (Some b) (Some c) None r a is = absurd (cc)
are_octets (Some b) None q r a is = absurd (cc)
are_octets None p q r a is = absurd (cc)

octets_small : (a b c d : ℕ) → a < 256 → b < 256 → c < 256 → d < 256 → (i : ℕ) → get_or (a ∷ b ∷ c ∷ d ∷ []) i 0 < 256
octets_small a b c d ha hb hc hd zero = ha
octets_small a b c d ha hb hc hd (suc zero) = hb
octets_small a b c d ha hb hc hd (suc (suc zero)) = hc
octets_small a b c d ha hb hc hd (suc (suc (suc zero))) = hd
octets_small a b c d ha hb hc hd (suc (suc (suc (suc i)))) = omega arith

four_parts : (text p q r s : List ℕ) (a : ℕ) → parts 46 text ≡ p ∷ q ∷ r ∷ s ∷ [] → AreOctets (number_below 256 p) (number_below 256 q) (number_below 256 r) (number_below 256 s) a → id_text a ≡ text
unfolding id_text
four_parts text p q r s a parted octets =
    let first = spelled 256 p octets.first (omega arith) octets.has_first in
    let second = spelled 256 q octets.second (omega arith) octets.has_second in
    let third = spelled 256 r octets.third (omega arith) octets.has_third in
    let fourth = spelled 256 s octets.fourth (omega arith) octets.has_fourth in
    let bytes = be_bytes_4 (octets.first ∷ octets.second ∷ octets.third ∷ octets.fourth ∷ []) a refl (octets_small octets.first octets.second octets.third octets.fourth first.below second.below third.below fourth.below) octets.value in
    ap dotted bytes
    ∙ ((λ i. join_with_byte 46 (first.printed i ∷ second.printed i ∷ third.printed i ∷ fourth.printed i ∷ []))
    ∙ (ap (join_with_byte 46) (sym parted) ∙ join_with_byte-slice_split 46 text))

-- an identifier that is read is printed as it was
id_printed : (text : List ℕ) (a : ℕ) → id_of text ≡ Some a → id_text a ≡ text
unfolding id_of
id_printed text a e = by_parts (parts 46 text) refl e
  where
    by_parts : (ps : List (List ℕ)) → parts 46 text ≡ ps → id_from_parts ps ≡ Some a → id_text a ≡ text
    by_parts (p ∷ q ∷ r ∷ s ∷ []) parted is = four_parts text p q r s a parted (are_octets _ _ _ _ a is)
    by_parts [] parted is = absurd (cc)
    by_parts (p ∷ []) parted is = absurd (cc)
    by_parts (p ∷ q ∷ []) parted is = absurd (cc)
    by_parts (p ∷ q ∷ r ∷ []) parted is = absurd (cc)
    by_parts (p ∷ q ∷ r ∷ s ∷ t ∷ ps) parted is = absurd (cc)

-- and so is an address
address_text : (text : List ℕ) (a : ℕ) → addr_of false text ≡ Some a → addr_text false a ≡ text
address_text text a is = by_id (id_of text) refl is
  where
    by_id : (o : Option ℕ) → id_of text ≡ o → option_map in_front o ≡ Some a → addr_text false a ≡ text
    by_id None at e = absurd (cc)
    by_id (Some n) at e =
        let front : in_front n ≡ a = cc in
        ap (λ x. id_text (x / 2 ^ 96)) (sym front) ∙ (ap id_text (in_front_back n) ∙ id_printed text n at)

-- ---- prefixes

abbrev pub masked : ℕ → ℕ → AddressPrefix
masked a n = record { address = masked_to width a n; length = n }

-- the word spells this address and this length
pub record Spells (word : List ℕ) (a n : ℕ) : Type 0 where
  pub address : List ℕ
  pub length : List ℕ
  pub parted : parts 47 word ≡ address ∷ length ∷ []
  pub is_address : addr_of false address ≡ Some a
  pub is_length : number_below 33 length ≡ Some n

spelled_word : (word : List ℕ) (a n : ℕ) → Spells word a n → addr_text false a ++ 47 ∷ decimal n ≡ word
spelled_word word a n s =
    let length = spelled 33 s.length n (omega arith) s.is_length in
    (λ i. address_text s.address a s.is_address i ++ 47 ∷ length.printed i) ∙ (ap (join_with_byte 47) (sym s.parted) ∙ join_with_byte-slice_split 47 word)

read_so : (word : List ℕ) (a n : ℕ) → Spells word a n → printed_prefix false word ≡ as_printed false word (masked a n)
unfolding printed_prefix prefix_of
read_so word a n s = ap (λ (o : Option AddressPrefix). o >>= λ q. as_printed false word q) (ap (prefix_from_parts false) s.parted ∙ (λ i. address_prefix_of (s.is_address i) (s.is_length i)))

pub printed_where_masked : (word : List ℕ) (a n : ℕ) → Spells word a n → masked_to width a n ≡ a → printed_prefix false word ≡ Some (masked a n)
unfolding as_printed prefix_text
printed_where_masked word a n s same =
    let text : word ≡ prefix_text false (masked a n) = sym (spelled_word word a n s) ∙ ap (λ (b : ℕ). addr_text false b ++ 47 ∷ decimal n) (sym same) in
    read_so word a n s ∙ ap (λ (b : Bool). cond b (Some (masked a n)) None) ((bytes_eq-Decides word (prefix_text false (masked a n))).1 text)

parted_text : (a n : ℕ) → n < 33 → parts 47 (prefix_text false (masked a n)) ≡ addr_text false (masked_to width a n) ∷ decimal n ∷ []
unfolding prefix_text
parted_text a n short =
    apart_then 47 (addr_text false (masked_to width a n)) (decimal n) refl (slashless (masked_to width a n))
    ∙ ap (λ ps. addr_text false (masked_to width a n) ∷ ps) (apart_alone 47 (decimal n) (slashless_length n (omega arith)))

pub not_printed : (word : List ℕ) (a n : ℕ) → IsIpv4 a → Spells word a n → (masked_to width a n ≡ a → ⊥) → printed_prefix false word ≡ None
unfolding as_printed
not_printed word a n ipv4 s other = read_so word a n s ∙ by_text (bytes_eq word (prefix_text false (masked a n))) refl
  where
    same_address : word ≡ prefix_text false (masked a n) → masked_to width a n ≡ a
    same_address text =
        let length = spelled 33 s.length n (omega arith) s.is_length in
        let prefix : IsIpv4Prefix (masked a n) = record {
          masked = (omega (arith, length.below), masked_down a (size_of_length width n) (size_pos width n));
          fits = omega (arith, ipv4.0);
          short = omega (arith, length.below);
        } in
        let first : s.address ≡ addr_text false (masked_to width a n) = ap (λ (ps : List (List ℕ)). get_or ps 0 []) (sym s.parted ∙ (ap (parts 47) text ∙ parted_text a n length.below)) in
        let read : Some (masked_to width a n) ≡ Some a = sym (addr_back (masked_to width a n) (front_prefix (masked a n) prefix)) ∙ (ap (addr_of false) (sym first) ∙ s.is_address) in
        cc

    by_text : (same : Bool) → bytes_eq word (prefix_text false (masked a n)) ≡ same → cond same (Some (masked a n)) None ≡ None
    by_text true is = absurd (other (same_address ((bytes_eq-Decides word (prefix_text false (masked a n))).0 is)))
    by_text false is = refl

-- ---- a third part makes no prefix
three_parts : (v6 : Bool) (a b : List ℕ) (more : List (List ℕ)) → 0 < length more → prefix_from_parts v6 (a ∷ b ∷ more) ≡ None
three_parts v6 a b [] some = absurd (omega arith)
three_parts v6 a b (e ∷ more) some = refl

pub no_third_part : (v6 : Bool) (a b r : List ℕ) → prefix_from_parts v6 (a ∷ b ∷ parts 47 r) ≡ None
no_third_part v6 a b r = three_parts v6 a b (parts 47 r) (parts_some 47 r)
