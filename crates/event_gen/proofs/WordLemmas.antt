-- Lines of plain words are read as those words are.
use Rattle.std.proofs.Common.{◌≡◌, ℕ, ◌*◌, ◌/◌, ◌%◌, ◌^◌, ◌<◌, ◌≤◌, ◌&&◌, not, Bool, true, false, cond, nat_le, nat_eq, nat_lt, List, [], ◌∷◌, length, Err, refl, ap, ◌∙◌, arith}
use Rattle.std.proofs.lemmas.Bool.Decides.{nat_tests}
use Rattle.std.proofs.lemmas.List.{length-append}
use Rattle.std.proofs.lemmas.Fmt.{length-decimal-le, decimal_nonempty}
use Rattle.std.specs.Fmt.{decimal}
use Rattle.std.specs.List.{AllByRecursion, list_all, join_with_byte}
use Rattle.hex.specs.Hex.{encode_lower, lower_digits}
use Rattle.hex.proofs.HexLemmas.{length-encode_with}
use Rattle.addr4.specs.Prefixes.{AddressPrefix}
use Rattle.addr4.specs.Texts.{dotted, addr_text, prefix_text, id_text}
use Rattle.policy_rules.specs.Words.{is_word, words_among, words}
use Rattle.journal_text.specs.declared.line.Code.TheVariants.{E1}
use Rattle.addr4.specs.Families.{IsIpv4Prefix}
use Rattle.journal_check.proofs.InkLemmas.{AreInk, inky, both_true, ink_by, ink_decimal, ink_hex, words_parted, line_passes, printable}
use Rattle.journal_check.proofs.PrefixBack.{ink_prefix}
use Rattle.event_text.specs.Words.{is_clean}
use Rattle.event_text.specs.Events.{event_of, in_grammar, read_event}
use Rattle.event_text.specs.Declarations.{plain}
use Rattle.event_gen.proofs.OctetLemmas.{AreOctets}

-- printed bytes, at least one, and not many
pub record IsPlain (word : List ℕ) : Type 0 where
  pub ink : AreInk word
  pub some : 0 < length word
  pub short : length word ≤ 200

abbrev pub is_plain : List ℕ → Bool
is_plain word = list_all inky word && (nat_lt 0 (length word) && nat_le (length word) 200)

-- by a test, as of a word that is written out
pub plain_by : (word : List ℕ) → is_plain word ≡ true → IsPlain word
plain_by word e =
    let t = both_true (list_all inky word) (nat_lt 0 (length word) && nat_le (length word) 200) e in
    let u = both_true (nat_lt 0 (length word)) (nat_le (length word) 200) t.1 in
    let low = u.0 in
    let high = u.1 in
    record { ink = ink_by word t.0; some = grind (arith, nat_tests); short = grind (arith, nat_tests) }

pub plain_decimal : (n : ℕ) → n < 2 ^ 32 → IsPlain (decimal n)
plain_decimal n small =
    let long = length-decimal-le 10 n (omega arith) (omega arith) (omega arith) in
    record { ink = ink_decimal n (omega arith); some = decimal_nonempty n (omega arith); short = omega arith }

pub plain_hex : (octets : List ℕ) → AreOctets octets → 0 < length octets → length octets ≤ 100 → IsPlain (encode_lower octets)
plain_hex octets small some few =
    let long = length-encode_with lower_digits octets in
    record { ink = ink_hex octets small; some = omega arith; short = omega arith }

pub octet_short : (n : ℕ) → n < 256 → length (decimal n) ≤ 3
octet_short n small = length-decimal-le 3 n (omega arith) (omega arith) (omega arith)

dotted_short : (a b c d : ℕ) → a < 256 → b < 256 → c < 256 → d < 256 → length (dotted (a ∷ b ∷ c ∷ d ∷ [])) ≤ 15
dotted_short a b c d ha hb hc hd =
    omega (
      arith,
      octet_short a ha,
      octet_short b hb,
      octet_short c hc,
      octet_short d hd,
      length-append (decimal a) (46 ∷ dotted (b ∷ c ∷ d ∷ [])),
      length-append (decimal b) (46 ∷ dotted (c ∷ d ∷ [])),
      length-append (decimal c) (46 ∷ dotted (d ∷ [])),
    )

id_short : (a : ℕ) → length (id_text a) ≤ 15
unfolding id_text
id_short a = dotted_short (a / 16777216 % 256) (a / 65536 % 256) (a / 256 % 256) (a % 256) (omega arith) (omega arith) (omega arith) (omega arith)

addr_short : (a : ℕ) → length (addr_text false a) ≤ 15
addr_short a = id_short (a / 2 ^ 96)

prefix_short : (p : AddressPrefix) → p.length ≤ 32 → length (prefix_text false p) ≤ 200
unfolding prefix_text
prefix_short p short = omega (arith, addr_short p.address, octet_short p.length (omega arith), length-append (addr_text false p.address) (47 ∷ decimal p.length))

prefix_some : (p : AddressPrefix) → 0 < length (prefix_text false p)
unfolding prefix_text
prefix_some p = omega (arith, length-append (addr_text false p.address) (47 ∷ decimal p.length))

pub plain_prefix : (p : AddressPrefix) → IsIpv4Prefix p → IsPlain (prefix_text false p)
plain_prefix p h = record { ink = ink_prefix false p h; some = prefix_some p; short = prefix_short p h.short }

-- ---- lines

inks : (ws : List (List ℕ)) → AllByRecursion IsPlain ws → AllByRecursion AreInk ws
inks [] h = tt
inks (w ∷ ws) h = (h.0.ink, inks ws h.1)

not_empty : (w : List ℕ) → 0 < length w → is_word w ≡ true
not_empty w some = let other : nat_eq (length w) 0 ≡ false = grind (arith, nat_tests) in ap not other

all_words : (ws : List (List ℕ)) → AllByRecursion IsPlain ws → words_among ws ≡ ws
all_words [] h = refl
all_words (w ∷ ws) h = ap (λ b. cond b (w ∷ words_among ws) (words_among ws)) (not_empty w h.0.some) ∙ ap (λ rest. w ∷ rest) (all_words ws h.1)

line_short : (w : List ℕ) (ws : List (List ℕ)) → AllByRecursion IsPlain (w ∷ ws) → length (join_with_byte 32 (w ∷ ws)) ≤ 201 * length (w ∷ ws)
line_short w [] h = omega (arith, h.0.short)
line_short w (next ∷ ws) h = omega (arith, h.0.short, line_short next ws h.1, length-append w (32 ∷ join_with_byte 32 (next ∷ ws)))

clean_by : (a b : Bool) → a ≡ true → b ≡ true → (a && b) ≡ true
clean_by a b ha hb = cc

clean : (w : List ℕ) (ws : List (List ℕ)) → AllByRecursion IsPlain (w ∷ ws) → length (w ∷ ws) ≤ 10 → is_clean (join_with_byte 32 (w ∷ ws)) ≡ true
unfolding is_clean
clean w ws h few =
    let long = line_short w ws h in
    let line = join_with_byte 32 (w ∷ ws) in
    let short : nat_le (length line) 16384 ≡ true = grind (arith, nat_tests) in
    clean_by (nat_le (length line) 16384) (list_all printable line) short (line_passes w ws (inks (w ∷ ws) h))

-- a line is read as its words are
pub line_read : (w : List ℕ) (ws : List (List ℕ)) → AllByRecursion IsPlain (w ∷ ws) → length (w ∷ ws) ≤ 10 → read_event plain (join_with_byte 32 (w ∷ ws)) ≡ in_grammar (event_of plain (w ∷ ws))
unfolding read_event words
line_read w ws h few =
    let line = join_with_byte 32 (w ∷ ws) in
    ap (λ b. cond b (in_grammar (event_of plain (words line))) (Err E1)) (clean w ws h few)
    ∙ ap (λ l. in_grammar (event_of plain l)) (ap words_among (words_parted w ws (inks (w ∷ ws) h)) ∙ all_words (w ∷ ws) h)
