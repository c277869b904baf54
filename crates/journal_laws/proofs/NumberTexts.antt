-- Numbers, addresses and octets are told by their texts.
use Rattle.std.proofs.Common.{◌≡◌, ℕ, zero, suc, ◌/◌, ◌%◌, ◌^◌, ◌<◌, ◌≤◌, ◌||◌, Bool, true, false, nat_eq, List, [], ◌∷◌, ◌++◌, length, map, get_or, Some, Ok, Result, refl, sym, ap, ◌∙◌, arith, append_assoc}
use Rattle.std.proofs.lemmas.Bool.Decides.{nat_tests}
use Rattle.std.proofs.lemmas.List.{append-nil}
use Rattle.std.proofs.lemmas.Fmt.{decimal_is_IsNumeral, decimal_injective}
use Rattle.std.specs.Char.{is_digit, is_ascii_digit}
use Rattle.std.specs.Fmt.{decimal}
use Rattle.std.specs.Int.{w32, to_be_bytes}
use Rattle.std.specs.List.{AllByRecursion, join_with_byte}
use Rattle.hex.specs.Hex.{IsBytes, encode_lower, encode_with, lower_digits, is_hex_digit, decode_of}
use Rattle.hex.proofs.HexLemmas.{decode_of-encode_lower}
use Rattle.addr4.specs.Texts.{dotted, addr_text, addr_of, id_text, id_of}
use Rattle.addr4.specs.Families.{IsAddress}
use Rattle.addr6.proofs.PrintedLemmas.{addr_back as addr6_back, addr_bytes}
use Rattle.journal_text.specs.Texts.{addresses_text}
use Rattle.journal_check.specs.Laws.{AreOctets}
use Rattle.journal_check.proofs.InkLemmas.{all_passed, decimal_are, dotted_are}
use Rattle.journal_check.proofs.PrefixBack.{addr_back, id_back}
use Rattle.journal_laws.proofs.Spans.{begins, Pass, clash, rest_same, some_same, spans, pass_more, begins_less}

-- ---- numbers

pub digit_passes : (c : ℕ) → 48 ≤ c → c ≤ 57 → is_ascii_digit c ≡ true
digit_passes c low high = grind (arith, nat_tests)

pub digits_pass : (n : ℕ) → n < 2 ^ 64 → Pass is_ascii_digit (decimal n)
digits_pass n small = decimal_are (λ c. is_ascii_digit c ≡ true) digit_passes n small

begins_by : (test : ℕ → Bool) (cs t : List ℕ) → 0 < length cs → Pass test cs → begins test (cs ++ t) ≡ true
begins_by test [] t some p = absurd (omega arith)
begins_by test (c ∷ cs) t some p = p.0

pub decimal_begins : (n : ℕ) (t : List ℕ) → n < 2 ^ 64 → begins is_ascii_digit (decimal n ++ t) ≡ true
decimal_begins n t small = begins_by is_ascii_digit (decimal n) t (decimal_is_IsNumeral n small).0.0 (digits_pass n small)

-- a number behind which no digit stands
pub number_told : (m n : ℕ) (s t : List ℕ) → m < 2 ^ 64 → n < 2 ^ 64 → begins is_ascii_digit s ≡ false → begins is_ascii_digit t ≡ false → decimal m ++ s ≡ decimal n ++ t → (m ≡ n) × (s ≡ t)
number_told m n s t hm hn f g e =
    let parted = spans is_ascii_digit (decimal m) (decimal n) s t (digits_pass m hm) (digits_pass n hn) f g e in
    (decimal_injective m n hm hn parted.0, parted.1)

-- ---- numbers with a byte between their texts

-- Behind each text stands nothing that passes the first test, as the byte doesn't; and the byte passes the second test, as what
-- passes the first one does.
record ArePartedBy (byte : ℕ) (text : ℕ → List ℕ) (test either : ℕ → Bool) : Type 0 where
  told : (m n : ℕ) (s t : List ℕ) → m < 2 ^ 32 → n < 2 ^ 32 → begins test s ≡ false → begins test t ≡ false → text m ++ s ≡ text n ++ t → (m ≡ n) × (s ≡ t)
  fails : test byte ≡ false
  passes : either byte ≡ true
  weaker : (c : ℕ) → test c ≡ true → either c ≡ true

-- texts with the byte before each
abbrev behind : ℕ → (ℕ → List ℕ) → List ℕ → List ℕ
behind byte text [] = []
behind byte text (n ∷ ns) = byte ∷ text n ++ behind byte text ns

abbrev joined : ℕ → (ℕ → List ℕ) → List ℕ → List ℕ
joined byte text ns = join_with_byte byte (map text ns)

joined_by : (byte : ℕ) (text : ℕ → List ℕ) (n : ℕ) (ns : List ℕ) → joined byte text (n ∷ ns) ≡ text n ++ behind byte text ns
joined_by byte text n [] = sym (append-nil (text n))
joined_by byte text n (m ∷ ns) = ap (λ t. text n ++ byte ∷ t) (joined_by byte text m ns)

abbrev pub AreSmall : List ℕ → Type 0
AreSmall ns = AllByRecursion (λ n. n < 2 ^ 32) ns

fails_behind : (byte : ℕ) (text : ℕ → List ℕ) (test either : ℕ → Bool) → ArePartedBy byte text test either → (ns s : List ℕ) → begins either s ≡ false → begins test (behind byte text ns ++ s) ≡ false
fails_behind byte text test either are [] s f = begins_less test either are.weaker s f
fails_behind byte text test either are (n ∷ ns) s f = are.fails

behind_told : (byte : ℕ) (text : ℕ → List ℕ) (test either : ℕ → Bool) → ArePartedBy byte text test either → (ms ns s t : List ℕ) → AreSmall ms → AreSmall ns → begins either s ≡ false → begins either t ≡ false
    → behind byte text ms ++ s ≡ behind byte text ns ++ t → (ms ≡ ns) × (s ≡ t)
behind_told byte text test either are [] [] s t hm hn f g e = (refl, e)
behind_told byte text test either are [] (n ∷ ns) s t hm hn f g e = absurd (clash (begins either s) f (ap (begins either) e ∙ are.passes))
behind_told byte text test either are (m ∷ ms) [] s t hm hn f g e = absurd (clash (begins either t) g (ap (begins either) (sym e) ∙ are.passes))
behind_told byte text test either are (m ∷ ms) (n ∷ ns) s t hm hn f g e =
    let whole : text m ++ (behind byte text ms ++ s) ≡ text n ++ (behind byte text ns ++ t) =
    sym (append_assoc (text m) (behind byte text ms) s) ∙ (rest_same byte byte ((text m ++ behind byte text ms) ++ s) ((text n ++ behind byte text ns) ++ t) e ∙ append_assoc (text n) (behind byte text ns) t) in
    let first = are.told m n (behind byte text ms ++ s) (behind byte text ns ++ t) hm.0 hn.0 (fails_behind byte text test either are ms s f) (fails_behind byte text test either are ns t g) whole in
    let later = behind_told byte text test either are ms ns s t hm.1 hn.1 f g first.1 in
    ((λ i. first.0 i ∷ later.0 i), later.1)

-- one number at least, behind which nothing stands that passes the second test
joined_told : (byte : ℕ) (text : ℕ → List ℕ) (test either : ℕ → Bool) → ArePartedBy byte text test either → (m n : ℕ) (ms ns s t : List ℕ) → AreSmall (m ∷ ms) → AreSmall (n ∷ ns) → begins either s ≡ false → begins either t ≡ false
    → joined byte text (m ∷ ms) ++ s ≡ joined byte text (n ∷ ns) ++ t → (m ∷ ms ≡ n ∷ ns) × (s ≡ t)
joined_told byte text test either are m n ms ns s t hm hn f g e =
    let whole : text m ++ (behind byte text ms ++ s) ≡ text n ++ (behind byte text ns ++ t) =
    sym (append_assoc (text m) (behind byte text ms) s)
    ∙ (ap (λ d. d ++ s) (sym (joined_by byte text m ms)) ∙ (e ∙ (ap (λ d. d ++ t) (joined_by byte text n ns) ∙ append_assoc (text n) (behind byte text ns) t))) in
    let first = are.told m n (behind byte text ms ++ s) (behind byte text ns ++ t) hm.0 hn.0 (fails_behind byte text test either are ms s f) (fails_behind byte text test either are ns t g) whole in
    let later = behind_told byte text test either are ms ns s t hm.1 hn.1 f g first.1 in
    ((λ i. first.0 i ∷ later.0 i), later.1)

-- ---- numbers with dots between them

abbrev pub is_dotted : ℕ → Bool
is_dotted c = is_ascii_digit c || nat_eq c 46

or_left : (a b : Bool) → a ≡ true → (a || b) ≡ true
or_left a b e = cc

pub digit_is_dotted : (c : ℕ) → is_ascii_digit c ≡ true → is_dotted c ≡ true
digit_is_dotted c e = or_left (is_ascii_digit c) (nat_eq c 46) e

parted_by_dots : ArePartedBy 46 decimal is_ascii_digit is_dotted
parted_by_dots = record {
  told = λ m n s t hm hn f g e. number_told m n s t (omega (arith, hm)) (omega (arith, hn)) f g e;
  fails = refl;
  passes = refl;
  weaker = digit_is_dotted;
}

begins_dotted : (n : ℕ) (ns t : List ℕ) → n < 2 ^ 64 → begins is_dotted (dotted (n ∷ ns) ++ t) ≡ true
begins_dotted n ns t small =
    ap (λ d. begins is_dotted (d ++ t)) (joined_by 46 decimal n ns)
    ∙ (ap (begins is_dotted) (append_assoc (decimal n) (behind 46 decimal ns) t)
    ∙ begins_by is_dotted (decimal n) (behind 46 decimal ns ++ t) (decimal_is_IsNumeral n small).0.0 (pass_more is_ascii_digit is_dotted digit_is_dotted (decimal n) (digits_pass n small)))

-- numbers behind which neither a digit nor a dot stands
pub dotted_told : (ms ns s t : List ℕ) → AreSmall ms → AreSmall ns → begins is_dotted s ≡ false → begins is_dotted t ≡ false → dotted ms ++ s ≡ dotted ns ++ t → (ms ≡ ns) × (s ≡ t)
dotted_told [] [] s t hm hn f g e = (refl, e)
dotted_told [] (n ∷ ns) s t hm hn f g e =
    let small = hn.0 in
    absurd (clash (begins is_dotted s) f (ap (begins is_dotted) e ∙ begins_dotted n ns t (omega arith)))
dotted_told (m ∷ ms) [] s t hm hn f g e =
    let small = hm.0 in
    absurd (clash (begins is_dotted t) g (ap (begins is_dotted) (sym e) ∙ begins_dotted m ms s (omega arith)))
dotted_told (m ∷ ms) (n ∷ ns) s t hm hn f g e = joined_told 46 decimal is_ascii_digit is_dotted parted_by_dots m n ms ns s t hm hn f g e

-- ---- addresses

id_same : (a b : ℕ) → a < 2 ^ 32 → b < 2 ^ 32 → id_text a ≡ id_text b → a ≡ b
id_same a b ha hb e = some_same a b (sym (id_back a ha) ∙ (ap id_of e ∙ id_back b hb))

-- an address is read back from its text
pub addr_told_back : (v6 : Bool) (a : ℕ) → IsAddress v6 a → addr_of v6 (addr_text v6 a) ≡ Some a
addr_told_back false a h = addr_back a h
addr_told_back true a h = addr6_back a h

pub addr_same : (v6 : Bool) (a b : ℕ) → IsAddress v6 a → IsAddress v6 b → addr_text v6 a ≡ addr_text v6 b → a ≡ b
addr_same v6 a b ha hb e = some_same a b (sym (addr_told_back v6 a ha) ∙ (ap (addr_of v6) e ∙ addr_told_back v6 b hb))

dotted_passes : (ns : List ℕ) → AreSmall ns → Pass is_dotted (dotted ns)
dotted_passes ns small = dotted_are (λ c. is_dotted c ≡ true) (λ c low high. digit_is_dotted c (digit_passes c low high)) refl ns small

octet_small : (n : ℕ) → n % 256 < 2 ^ 32
octet_small n = omega arith

octets_small : (a : ℕ) → AreSmall (to_be_bytes w32 a)
octets_small a = (octet_small (a / 16777216), (octet_small (a / 65536), (octet_small (a / 256), (octet_small a, tt))))

id_passes : (a : ℕ) → Pass is_dotted (id_text a)
unfolding id_text
id_passes a = dotted_passes (to_be_bytes w32 a) (octets_small a)

-- an identifier behind which neither a digit nor a dot stands
pub id_told : (a b : ℕ) (s t : List ℕ) → a < 2 ^ 32 → b < 2 ^ 32 → begins is_dotted s ≡ false → begins is_dotted t ≡ false → id_text a ++ s ≡ id_text b ++ t → (a ≡ b) × (s ≡ t)
id_told a b s t ha hb f g e =
    let parted = spans is_dotted (id_text a) (id_text b) s t (id_passes a) (id_passes b) f g e in
    (id_same a b ha hb parted.0, parted.1)

-- the bytes of an address of the family: digits and dots, or hex digits and colons
abbrev pub is_addr_byte : Bool → ℕ → Bool
is_addr_byte false c = is_dotted c
is_addr_byte true c = is_digit c 16 || nat_eq c 58

addr_passes : (v6 : Bool) (a : ℕ) → Pass (is_addr_byte v6) (addr_text v6 a)
addr_passes false a = id_passes (a / 2 ^ 96)
addr_passes true a = all_passed (is_addr_byte true) (λ c. is_addr_byte true c ≡ true) (λ c e. e) (addr_text true a) (addr_bytes a)

-- an address behind which no byte of one stands
pub addr_told : (v6 : Bool) (a b : ℕ) (s t : List ℕ) → IsAddress v6 a → IsAddress v6 b → begins (is_addr_byte v6) s ≡ false → begins (is_addr_byte v6) t ≡ false → addr_text v6 a ++ s ≡ addr_text v6 b ++ t → (a ≡ b) × (s ≡ t)
addr_told v6 a b s t ha hb f g e =
    let parted = spans (is_addr_byte v6) (addr_text v6 a) (addr_text v6 b) s t (addr_passes v6 a) (addr_passes v6 b) f g e in
    (addr_same v6 a b ha hb parted.0, parted.1)

abbrev pub is_listed : ℕ → Bool
is_listed c = is_dotted c || nat_eq c 59

parted_by_semicolons : ArePartedBy 59 id_text is_dotted is_listed
parted_by_semicolons = record {
  told = λ m n s t hm hn f g e. id_told m n s t hm hn f g e;
  fails = refl;
  passes = refl;
  weaker = λ c e. or_left (is_dotted c) (nat_eq c 59) e;
}

-- one address at least, behind which neither a digit, nor a dot, nor a semicolon stands
pub addresses_told : (m n : ℕ) (ms ns s t : List ℕ) → AreSmall (m ∷ ms) → AreSmall (n ∷ ns) → begins is_listed s ≡ false → begins is_listed t ≡ false
    → addresses_text (m ∷ ms) ++ s ≡ addresses_text (n ∷ ns) ++ t → (m ∷ ms ≡ n ∷ ns) × (s ≡ t)
addresses_told m n ms ns s t hm hn f g e = joined_told 59 id_text is_dotted is_listed parted_by_semicolons m n ms ns s t hm hn f g e

not_colon : (c : ℕ) → 48 ≤ c → c ≤ 57 → nat_eq c 58 ≡ false
not_colon c low high = grind (arith, nat_tests)

id_colonless : (a : ℕ) → AllByRecursion (λ c. nat_eq c 58 ≡ false) (id_text a)
unfolding id_text
id_colonless a = dotted_are (λ c. nat_eq c 58 ≡ false) not_colon refl (to_be_bytes w32 a) (octets_small a)

pub addr_colonless : (a : ℕ) → AllByRecursion (λ c. nat_eq c 58 ≡ false) (addr_text false a)
addr_colonless a = id_colonless (a / 2 ^ 96)

-- ---- octets in hex

hex_digit_at : (ds : List ℕ) (k : ℕ) → Pass is_hex_digit ds → k < length ds → is_hex_digit (get_or ds k 0) ≡ true
hex_digit_at [] k p below = absurd (omega arith)
hex_digit_at (d ∷ ds) zero p below = p.0
hex_digit_at (d ∷ ds) (suc k) p below = hex_digit_at ds k p.1 (omega arith)

hex_passes : (octets : List ℕ) → AreOctets octets → Pass is_hex_digit (encode_lower octets)
unfolding encode_with
hex_passes [] small = tt
hex_passes (b ∷ octets) small =
    let low = small.0 in
    let digits : Pass is_hex_digit lower_digits = (refl, (refl, (refl, (refl, (refl, (refl, (refl, (refl, (refl, (refl, (refl, (refl, (refl, (refl, (refl, (refl, tt)))))))))))))))) in
    (hex_digit_at lower_digits (b / 16) digits (omega arith), (hex_digit_at lower_digits (b % 16) digits (omega arith), hex_passes octets small.1))

ok_same : {E : Type 0} (a b : List ℕ) → ◌≡◌ {A = Result (List ℕ) E} (Ok a) (Ok b) → a ≡ b
ok_same a b e = cc

bytes : (octets : List ℕ) → AreOctets octets → IsBytes octets
bytes [] small i = omega arith
bytes (b ∷ octets) small zero = let low = small.0 in omega arith
bytes (b ∷ octets) small (suc i) = bytes octets small.1 i

-- octets behind which no hex digit stands
pub hex_told : (xs ys s t : List ℕ) → AreOctets xs → AreOctets ys → begins is_hex_digit s ≡ false → begins is_hex_digit t ≡ false → encode_lower xs ++ s ≡ encode_lower ys ++ t → (xs ≡ ys) × (s ≡ t)
hex_told xs ys s t hx hy f g e =
    let parted = spans is_hex_digit (encode_lower xs) (encode_lower ys) s t (hex_passes xs hx) (hex_passes ys hy) f g e in
    (ok_same xs ys (sym (decode_of-encode_lower xs (bytes xs hx)) ∙ (ap decode_of parted.0 ∙ decode_of-encode_lower ys (bytes ys hy))), parted.1)
