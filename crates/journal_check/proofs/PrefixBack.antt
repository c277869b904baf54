-- A prefix is read back from its text.
use Rattle.std.proofs.Common.{◌≡◌, ℕ, ◌/◌, ◌%◌, ◌^◌, ◌<◌, ◌≤◌, ◌||◌, Bool, true, false, cond, nat_eq, [], ◌∷◌, Option, Some, None, refl, ap, ◌∙◌, arith, option_map}
use Rattle.std.proofs.lemmas.Bool.Decides.{nat_tests}
use Rattle.std.proofs.lemmas.Nat.{mod_below, from_be_bytes-to_be_bytes_4}
use Rattle.std.specs.Char.{is_digit}
use Rattle.std.specs.Int.{w32, to_be_bytes, from_be_bytes}
use Rattle.std.specs.List.{AllByRecursion}
use Rattle.std.specs.Fmt.{decimal}
use Rattle.std.proofs.lemmas.Slice.Eq.{bytes_eq-Decides}
use Rattle.addr4.specs.Blocks.{masked_to, width}
use Rattle.addr4.specs.Prefixes.{AddressPrefix}
use Rattle.addr4.specs.Texts.{number_below, parts, id_from_octets, id_from_parts, addr_of, dotted, addr_text, address_prefix_of, prefix_from_parts, prefix_of, prefix_text, id_of, id_text}
use Rattle.addr4.proofs.NumberBack.{number_back}
use Rattle.addr6.proofs.PrintedLemmas.{addr_bytes, prefix_back as prefix6_back}
use Rattle.addr4.specs.Families.{in_front, IsIpv4, IsIpv4Prefix, IsPrefixOf}
use Rattle.addr4.proofs.FrontLemmas.{front_below, front_again, front_prefix}
use Rattle.journal_check.specs.Readings.{◌>>=◌, as_printed, printed_prefix}
use Rattle.journal_check.proofs.InkLemmas.{AreInk, IsInk, all_append, all_passed, decimal_are, dotted_are, ink_dotted, ink_decimal, apart_then, apart_alone}

-- ---- addresses

low_octet : (n : ℕ) → n % 256 < 256
low_octet n = mod_below n 256 (omega arith)

not_dot : (c : ℕ) → 48 ≤ c → c ≤ 57 → nat_eq c 46 ≡ false
not_dot c low high = grind (arith, nat_tests)

not_slash : (c : ℕ) → 48 ≤ c → c ≤ 57 → nat_eq c 47 ≡ false
not_slash c low high = grind (arith, nat_tests)

dotless : (n : ℕ) → n < 256 → AllByRecursion (λ c. nat_eq c 46 ≡ false) (decimal n)
dotless n small = decimal_are (λ c. nat_eq c 46 ≡ false) not_dot n (omega arith)

octets_parted : (a b c d : ℕ) → a < 256 → b < 256 → c < 256 → d < 256 → parts 46 (dotted (a ∷ b ∷ c ∷ d ∷ [])) ≡ decimal a ∷ decimal b ∷ decimal c ∷ decimal d ∷ []
octets_parted a b c d ha hb hc hd =
    apart_then 46 (decimal a) (dotted (b ∷ c ∷ d ∷ [])) refl (dotless a ha)
    ∙ ap (λ ps. decimal a ∷ ps) (apart_then 46 (decimal b) (dotted (c ∷ d ∷ [])) refl (dotless b hb)
    ∙ ap (λ ps. decimal b ∷ ps) (apart_then 46 (decimal c) (dotted (d ∷ [])) refl (dotless c hc)
    ∙ ap (λ ps. decimal c ∷ ps) (apart_alone 46 (decimal d) (dotless d hd))))

octet_back : (n : ℕ) → n < 256 → number_below 256 (decimal n) ≡ Some n
octet_back n small = number_back 256 n small (omega arith)

octets_back : (a b c d : ℕ) → a < 256 → b < 256 → c < 256 → d < 256 → id_from_parts (decimal a ∷ decimal b ∷ decimal c ∷ decimal d ∷ []) ≡ Some (from_be_bytes w32 (a ∷ b ∷ c ∷ d ∷ []))
octets_back a b c d ha hb hc hd = λ i. id_from_octets (octet_back a ha i) (octet_back b hb i) (octet_back c hc i) (octet_back d hd i)

pub id_back : (a : ℕ) → a < 2 ^ 32 → id_of (id_text a) ≡ Some a
unfolding id_of id_text
id_back a small =
    let first = low_octet (a / 16777216) in
    let second = low_octet (a / 65536) in
    let third = low_octet (a / 256) in
    let fourth = low_octet a in
    ap id_from_parts (octets_parted (a / 16777216 % 256) (a / 65536 % 256) (a / 256 % 256) (a % 256) first second third fourth)
    ∙ (octets_back (a / 16777216 % 256) (a / 65536 % 256) (a / 256 % 256) (a % 256) first second third fourth
    ∙ ap Some (from_be_bytes-to_be_bytes_4 a small))

pub addr_back : (a : ℕ) → IsIpv4 a → addr_of false (addr_text false a) ≡ Some a
addr_back a is = ap (option_map in_front) (id_back (a / 2 ^ 96) (front_below a is.0)) ∙ ap Some (front_again a is.1)

number_octet : (n : ℕ) → n % 256 < 2 ^ 32
number_octet n = let small = low_octet n in omega arith

octets_are : (a : ℕ) → AllByRecursion (λ n. n < 2 ^ 32) (to_be_bytes w32 a)
octets_are a = (number_octet (a / 16777216), (number_octet (a / 65536), (number_octet (a / 256), (number_octet a, tt))))

pub ink_id : (a : ℕ) → AreInk (id_text a)
unfolding id_text
ink_id a = ink_dotted (to_be_bytes w32 a) (octets_are a)

hex_or_colon_ink : (c : ℕ) → (is_digit c 16 || nat_eq c 58) ≡ true → IsInk c
hex_or_colon_ink c passes = (grind (arith, nat_tests), grind (arith, nat_tests))

pub ink_addr : (v6 : Bool) (a : ℕ) → AreInk (addr_text v6 a)
ink_addr false a = ink_id (a / 2 ^ 96)
ink_addr true a = all_passed (λ c. is_digit c 16 || nat_eq c 58) IsInk hex_or_colon_ink (addr_text true a) (addr_bytes a)

pub slashless_id : (a : ℕ) → AllByRecursion (λ c. nat_eq c 47 ≡ false) (id_text a)
unfolding id_text
slashless_id a = dotted_are (λ c. nat_eq c 47 ≡ false) not_slash refl (to_be_bytes w32 a) (octets_are a)

pub slashless : (a : ℕ) → AllByRecursion (λ c. nat_eq c 47 ≡ false) (addr_text false a)
slashless a = slashless_id (a / 2 ^ 96)

-- ---- prefixes

pub slashless_length : (n : ℕ) → n ≤ 32 → AllByRecursion (λ c. nat_eq c 47 ≡ false) (decimal n)
slashless_length n small = decimal_are (λ c. nat_eq c 47 ≡ false) not_slash n (omega arith)

pub ink_prefix : (v6 : Bool) (p : AddressPrefix) → IsPrefixOf v6 p → AreInk (prefix_text v6 p)
unfolding prefix_text
ink_prefix v6 p h =
    let short = h.masked.0 in
    all_append IsInk (addr_text v6 p.address) (47 ∷ decimal p.length) (ink_addr v6 p.address) ((omega arith, omega arith), ink_decimal p.length (omega arith))

masked_itself : (p : AddressPrefix) → IsIpv4Prefix p → masked_to width p.address p.length ≡ p.address
masked_itself p h = let rest = h.masked.1 in omega arith

prefix_back : (v6 : Bool) (p : AddressPrefix) → IsPrefixOf v6 p → prefix_of v6 (prefix_text v6 p) ≡ Some p
unfolding prefix_of prefix_text
prefix_back false p h =
    let short = h.short in
    ap (prefix_from_parts false) (apart_then 47 (addr_text false p.address) (decimal p.length) refl (slashless p.address) ∙ ap (λ ps. addr_text false p.address ∷ ps) (apart_alone 47 (decimal p.length) (slashless_length p.length short)))
    ∙ ((λ i. address_prefix_of (addr_back p.address (front_prefix p h) i) (number_back 33 p.length (omega arith) (omega arith) i))
    ∙ ap (λ (a : ℕ). Some (record { address = a; length = p.length })) (masked_itself p h))
prefix_back true p h = prefix6_back p h.masked h.fits

as_itself : (v6 : Bool) (p : AddressPrefix) → as_printed v6 (prefix_text v6 p) p ≡ Some p
unfolding as_printed
as_itself v6 p = ap (λ b. cond b (Some p) None) ((bytes_eq-Decides (prefix_text v6 p) (prefix_text v6 p)).1 refl)

pub printed_back : (v6 : Bool) (p : AddressPrefix) → IsPrefixOf v6 p → printed_prefix v6 (prefix_text v6 p) ≡ Some p
unfolding printed_prefix
printed_back v6 p h = ap (λ (o : Option AddressPrefix). o >>= λ q. as_printed v6 (prefix_text v6 p) q) (prefix_back v6 p h) ∙ as_itself v6 p
