-- What is printed is read back.
use Rattle.std.proofs.Common.{◌≡◌, ℕ, zero, suc, ◌+◌, ◌*◌, ◌/◌, ◌%◌, ◌^◌, ◌<◌, ◌≤◌, Bool, true, false, true≢false, cond, not, ◌&&◌, ◌||◌, nat_eq, List, [], ◌∷◌, ◌++◌, length, get_or, flat_map, Some, None, decimal, refl, sym, ap, ap₂, ◌∙◌, arith, inl, inr, le-leb, lt-ltb, length-append}
use Rattle.std.proofs.lemmas.Bool.{cases_lt, lt-leb, and_from, or_left}
use Rattle.std.proofs.lemmas.Bool.Decides.{nat_tests}
use Rattle.std.proofs.lemmas.Fmt.{decimal_is_IsNumeral, first_decimal, decimal_digit}
use Rattle.std.proofs.lemmas.List.Splits.{slice_split_at, slice_split_none}
use Rattle.std.proofs.lemmas.List.Sums.{AllPass-from_list_all}
use Rattle.std.specs.Char.{digit_value, digit_char, is_digit, is_ascii_digit}
use Rattle.std.specs.List.{list_all, All, AllByRecursion}
use Rattle.std.specs.Str.Parse.{AllDigits, digits_value}
use Rattle.std.specs.Net.Grammar.{IsGroup, IsGroupsAfter, IsGroups}
use Rattle.std.specs.Net.Text.{hex, groups_text}
use Rattle.addr4.specs.Blocks.{width, masked_to}
use Rattle.addr4.specs.Prefixes.{AddressPrefix, IsMasked}
use Rattle.addr4.specs.Texts.{parts, address_prefix_of, groups_of, addr6_text, addr6_of, prefix_text, prefix_from_parts, prefix_of}
use Rattle.addr4.proofs.NumberBack.{decimals_pass, number_back}
use Rattle.addr6.proofs.GroupLemmas.{groups_pass}
use Rattle.addr6.proofs.AddrLemmas.{full_told, value_back}

-- ---- addresses
digit_back : (d : ℕ) → d < 16 → digit_value (digit_char d) ≡ d
digit_back d h = grind (arith, nat_tests)

hex_is_group : (n : ℕ) → n < 65536 → IsGroup (hex n) n
unfolding hex
hex_is_group n fits =
    let a = digit_back (n / 0x1000) (omega arith) in
    let b = digit_back (n / 0x100 % 16) (omega arith) in
    let c = digit_back (n / 0x10 % 16) (omega arith) in
    let d = digit_back (n % 16) (omega arith) in
    elim (cases_lt n 0x1000) [
      | inr four ↦ rw (le-leb _ n four) (omega arith)
      | inl h₃ ↦ elim (cases_lt n 0x100) [
        | inr three ↦ rw (lt-leb _ n h₃, le-leb _ n three) (omega arith)
        | inl h₂ ↦ elim (cases_lt n 0x10) [
          | inr two ↦ rw (lt-leb _ n h₃, lt-leb _ n h₂, le-leb _ n two) (omega arith)
          | inl h₁ ↦ rw (lt-leb _ n h₃, lt-leb _ n h₂, lt-leb _ n h₁) (omega arith)
        ]
      ]
    ]

more_printed : (groups : List ℕ) → AllByRecursion (λ g. g < 65536) groups → IsGroupsAfter false (58 ∷ []) (flat_map (λ t. 58 ∷ hex t) groups) groups
more_printed [] h = refl
more_printed (g ∷ groups) h = inl (hex g, flat_map (λ t. 58 ∷ hex t) groups, refl, hex_is_group g h.0, more_printed groups h.1)

printed_groups : (groups : List ℕ) → AllByRecursion (λ g. g < 65536) groups → IsGroups false (groups_text groups) groups
printed_groups [] h = refl
printed_groups (g ∷ groups) h = inl (hex g, flat_map (λ t. 58 ∷ hex t) groups, refl, hex_is_group g h.0, more_printed groups h.1)

text_groups : (a : ℕ) → IsGroups false (addr6_text a) (groups_of a)
unfolding addr6_text
text_groups a = printed_groups (groups_of a) (omega arith)

-- an address that was printed is read back
pub addr_back : (a : ℕ) → a < 2 ^ 128 → addr6_of (addr6_text a) ≡ Some a
addr_back a fits = full_told (addr6_text a) (groups_of a) (text_groups a) refl ∙ ap Some (value_back a fits)

-- ---- the bytes of an address
hex_or_colon : (c : ℕ) → digit_value c < 16 → (is_digit c 16 || nat_eq c 58) ≡ true
hex_or_colon c h = or_left _ _ (lt-ltb (digit_value c) 16 h)

pub addr_bytes : (a : ℕ) → list_all (λ b. is_digit b 16 || nat_eq b 58) (addr6_text a) ≡ true
addr_bytes a = groups_pass (λ b. is_digit b 16 || nat_eq b 58) hex_or_colon refl [] (addr6_text a) (groups_of a) refl (text_groups a)

short_groups : (lead text : List ℕ) (g : ℕ) (groups : List ℕ) → IsGroupsAfter false lead text (g ∷ groups) → length text ≤ length lead + 4 + 5 * length groups
short_groups lead text g [] (inl h) = omega (arith, ap length h.2, length-append (lead ++ h.0) h.1, length-append lead h.0, h.3.1, ap length h.4)
short_groups lead text g (next ∷ groups) (inl h) = omega (arith, ap length h.2, length-append (lead ++ h.0) h.1, length-append lead h.0, h.3.1, short_groups (58 ∷ []) h.1 next groups h.4)
short_groups lead text g groups (inr h) = absurd (true≢false (sym h.2))

pub addr_short : (a : ℕ) → length (addr6_text a) ≤ 39
addr_short a = short_groups [] (addr6_text a) _ _ (text_groups a)

-- ---- prefixes
no_slash : (c : ℕ) → digit_value c < 16 → not (nat_eq c 47) ≡ true
no_slash c h = grind (arith, nat_tests)

no_slash_10 : (c : ℕ) → digit_value c < 10 → not (nat_eq c 47) ≡ true
no_slash_10 c h = no_slash c (omega (arith, h))

is_not : (b : Bool) → not b ≡ true → b ≡ false
is_not true h = absurd (cc)
is_not false h = refl

slashless : (text : List ℕ) → list_all (λ b. not (nat_eq b 47)) text ≡ true → All (λ b. nat_eq b 47 ≡ false) text
slashless text h k d below = is_not _ (AllPass-from_list_all (λ b. not (nat_eq b 47)) text h k d below)

prefix_parts : (p : AddressPrefix) → p.length ≤ 128 → parts 47 (prefix_text true p) ≡ addr6_text p.address ∷ decimal p.length ∷ []
unfolding prefix_text
prefix_parts p short =
    let front = groups_pass (λ b. not (nat_eq b 47)) no_slash refl [] (addr6_text p.address) (groups_of p.address) refl (text_groups p.address) in
    let back = decimals_pass (λ b. not (nat_eq b 47)) no_slash_10 (decimal p.length) (decimal_is_IsNumeral p.length (omega arith)).0.1 in
    slice_split_at (λ b. nat_eq b 47) (addr6_text p.address) 47 (decimal p.length) (slashless _ front) refl
    ∙ ap (λ ps. addr6_text p.address ∷ ps) (slice_split_none (λ b. nat_eq b 47) (decimal p.length) (slashless _ back))

-- a prefix that was printed is read back
pub prefix_back : (p : AddressPrefix) → IsMasked width p → p.address < 2 ^ 128 → prefix_of true (prefix_text true p) ≡ Some p
unfolding prefix_of
prefix_back p masked fits =
    let itself : masked_to width p.address p.length ≡ p.address = omega (arith, masked.1) in
    ap (prefix_from_parts true) (prefix_parts p masked.0) ∙ ap₂ address_prefix_of (addr_back p.address fits) (number_back 129 p.length (omega (arith, masked.0)) (omega (arith, masked.0)))
    ∙ ap (λ (a : ℕ). Some (record { address = a; length = p.length })) itself
