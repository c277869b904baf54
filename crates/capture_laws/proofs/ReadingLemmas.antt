-- Each line is read as the event that it is.
use Rattle.std.proofs.Common.{◌≡◌, ℕ, suc, ◌+◌, ◌/◌, ◌%◌, ◌^◌, ◌<◌, ◌≤◌, Bool, true, false, cond, not, ◌&&◌, ◌||◌, nat_le, nat_eq, List, [], ◌∷◌, length, Some, None, Ok, Err, refl, ap, ◌∙◌, arith, codes, length-append}
use Rattle.std.proofs.lemmas.Bool.Decides.{nat_tests}
use Rattle.std.proofs.lemmas.Fmt.{length-decimal-le, decimal_nonempty}
use Rattle.std.specs.Fmt.{decimal}
use Rattle.std.specs.Result.{result_ok}
use Rattle.std.specs.List.{AllByRecursion, list_all, join_with_byte}
use Rattle.std.proofs.lemmas.Nat.{shr-shr}
use Rattle.hex.specs.Hex.{encode_lower, lower_digits}
use Rattle.hex.proofs.HexLemmas.{decode_of-encode_lower, length-encode_with}
use Rattle.addr4.specs.Texts.{addr_of, addr_text, dotted, id_text, id_of}
use Rattle.addr4.proofs.FrontLemmas.{front_below}
use Rattle.addr4.specs.Hosts.{is_host}
use Rattle.bgp_attr.specs.Speakers.{asn_bound}
use Rattle.bgp_attr.specs.declared.speaker.Profile.{Profile}
use Rattle.policy_rules.specs.Words.{◌>>=◌, is_word, words_among, words}
use Rattle.journal_text.specs.declared.line.Code.TheVariants.{E1}
use Rattle.journal_check.proofs.InkLemmas.{AreInk, inky, both_true, ink_by, ink_decimal, ink_hex, words_parted, line_passes, printable}
use Rattle.journal_check.proofs.PrefixBack.{addr_back, ink_addr, id_back}
use Rattle.addr4.proofs.NumberBack.{number_back}
use Rattle.event_text.specs.declared.event.Event.TheVariants as events
use Rattle.event_text.specs.declared.event.WholeFile.TheVariants.{As4}
use Rattle.event_text.specs.Words.{is_clean, from_one, speaker_by, speaker_of, client_of, octets_of}
use Rattle.event_text.specs.Events.{local_of, peer_of, one_number, bgp_of, profile_event, interior_event, plain_event, named_event, event_of, in_grammar, read_event}
use Rattle.mrt_reader.specs.Records.{AreBytes}
use Rattle.mrt_reader.specs.Lines.{Line, line_words}
use Rattle.mrt_reader.specs.Lines as lines
use Rattle.mrt_reader.specs.Sessions.{Written}
use Rattle.mrt_reader.specs.Order.{IsSpeaker, Asks}
use Rattle.capture_laws.specs.Readings.{line_bytes, event_of_line, speaker}

-- ---- lines of printed words

-- printed bytes, at least one
record IsShown (word : List ℕ) : Type 0 where
  ink : AreInk word
  some : 0 < length word

shown_by : (word : List ℕ) → list_all inky word ≡ true → 0 < length word → IsShown word
shown_by word e some = record { ink = ink_by word e; some = some }

inks : (ws : List (List ℕ)) → AllByRecursion IsShown ws → AllByRecursion AreInk ws
inks [] h = tt
inks (w ∷ ws) h = (h.0.ink, inks ws h.1)

not_empty : (w : List ℕ) → 0 < length w → is_word w ≡ true
not_empty w some = let other : nat_eq (length w) 0 ≡ false = grind (arith, nat_tests) in ap not other

all_words : (ws : List (List ℕ)) → AllByRecursion IsShown ws → words_among ws ≡ ws
all_words [] h = refl
all_words (w ∷ ws) h = ap (λ b. cond b (w ∷ words_among ws) (words_among ws)) (not_empty w h.0.some) ∙ ap (λ rest. w ∷ rest) (all_words ws h.1)

-- the length of further words, each with a space before it
abbrev further : List (List ℕ) → ℕ
further [] = 0
further (w ∷ ws) = 1 + length w + further ws

line_length : (w : List ℕ) (ws : List (List ℕ)) → length (join_with_byte 32 (w ∷ ws)) ≡ length w + further ws
line_length w [] = omega arith
line_length w (next ∷ ws) = omega (arith, line_length next ws, length-append w (32 ∷ join_with_byte 32 (next ∷ ws)))

both_yes : (a b : Bool) → a ≡ true → b ≡ true → (a && b) ≡ true
both_yes a b ha hb = cc

clean : (w : List ℕ) (ws : List (List ℕ)) → AllByRecursion IsShown (w ∷ ws) → length w + further ws ≤ 16384 → is_clean (join_with_byte 32 (w ∷ ws)) ≡ true
unfolding is_clean
clean w ws h few =
    let line = join_with_byte 32 (w ∷ ws) in
    let long : length line ≡ length w + further ws = line_length w ws in
    let short : nat_le (length line) 16384 ≡ true = grind (arith, nat_tests) in
    both_yes (nat_le (length line) 16384) (list_all printable line) short (line_passes w ws (inks (w ∷ ws) h))

-- a line is read as its words are
line_read : (p : Profile) (w : List ℕ) (ws : List (List ℕ)) → AllByRecursion IsShown (w ∷ ws) → length w + further ws ≤ 16384 → read_event p (join_with_byte 32 (w ∷ ws)) ≡ in_grammar (event_of p (w ∷ ws))
unfolding read_event words
line_read p w ws h few =
    let line = join_with_byte 32 (w ∷ ws) in
    ap (λ b. cond b (in_grammar (event_of p (words line))) (Err E1)) (clean w ws h few)
    ∙ ap (λ l. in_grammar (event_of p l)) (ap words_among (words_parted w ws (inks (w ∷ ws) h)) ∙ all_words (w ∷ ws) h)

-- ---- numbers

shown_number : (n : ℕ) → n < 2 ^ 32 → IsShown (decimal n)
shown_number n small = record { ink = ink_decimal n (omega arith); some = decimal_nonempty n (omega arith) }

number_short : (n : ℕ) → n < 2 ^ 32 → length (decimal n) ≤ 10
number_short n small = length-decimal-le 10 n (omega arith) (omega arith) (omega arith)

from_one_told : (k : ℕ) → 0 < k → k < 2 ^ 32 → from_one (decimal k) ≡ Some k
unfolding from_one
from_one_told k some small =
    let other : nat_eq k 0 ≡ false = grind (arith, nat_tests) in
    ap (λ o. o >>= λ n. cond (nat_eq n 0) None (Some n)) (number_back (2 ^ 32) k small (omega arith)) ∙ ap (λ b. cond b None (Some k)) other

-- ---- addresses and speakers

octet_short : (n : ℕ) → n < 256 → length (decimal n) ≤ 3
octet_short n small = length-decimal-le 3 n (omega arith) (omega arith) (omega arith)

dotted_short : (a b c d : ℕ) → a < 256 → b < 256 → c < 256 → d < 256 → length (dotted (a ∷ b ∷ c ∷ d ∷ [])) ≤ 15
dotted_short a b c d ha hb hc hd =
    omega (
      arith,
      octet_short a ha,
      octet_short b hb,
      octet_short c hc,
      octet_short d hd,
      length-append (decimal a) (46 ∷ dotted (b ∷ c ∷ d ∷ [])),
      length-append (decimal b) (46 ∷ dotted (c ∷ d ∷ [])),
      length-append (decimal c) (46 ∷ dotted (d ∷ [])),
    )

id_short : (a : ℕ) → length (id_text a) ≤ 15
unfolding id_text
id_short a = dotted_short (a / 16777216 % 256) (a / 65536 % 256) (a / 256 % 256) (a % 256) (omega arith) (omega arith) (omega arith) (omega arith)

addr_short : (a : ℕ) → length (addr_text false a) ≤ 15
addr_short a = id_short (a / 2 ^ 96)

id_some : (a : ℕ) → 0 < length (id_text a)
unfolding id_text
id_some a = omega (arith, length-append (decimal (a / 16777216 % 256)) (46 ∷ dotted (a / 65536 % 256 ∷ a / 256 % 256 ∷ a % 256 ∷ [])))

shown_addr : (a : ℕ) → IsShown (addr_text false a)
shown_addr a = record { ink = ink_addr false a; some = id_some (a / 2 ^ 96) }

-- a host's first octet is from 1 to 223
host_range : (addr : ℕ) → is_host false addr ≡ true → (1 ≤ addr / 2 ^ 120) × (addr / 2 ^ 120 ≤ 223)
host_range addr e =
    let both = both_true (nat_le 1 (addr / 2 ^ 120) && nat_le (addr / 2 ^ 120) 223) (not (nat_eq (addr / 2 ^ 120) 127)) e in
    let t = both_true (nat_le 1 (addr / 2 ^ 120)) (nat_le (addr / 2 ^ 120) 223) both.0 in
    let low = t.0 in
    let high = t.1 in
    (grind (arith, nat_tests), grind (arith, nat_tests))

host_some : (addr : ℕ) → is_host false addr ≡ true → 0 < addr / 2 ^ 96
host_some addr e = let low = (host_range addr e).0 in let split = shr-shr addr 96 24 in omega (arith, low, split)

asn_fits : (as4 : Bool) (asn addr : ℕ) → IsSpeaker as4 asn addr → asn < asn_bound as4
asn_fits true asn addr s = s.wide
asn_fits false asn addr s = s.narrow refl

speaks : (a i h : Bool) → a ≡ false → i ≡ false → h ≡ true → (a || i || not h) ≡ false
speaks a i h ha hi hh = cc

speaker_told : (as4 : Bool) (asn addr : ℕ) → IsSpeaker as4 asn addr → speaker_by as4 (decimal asn) (addr_text false addr) (addr_text false addr) ≡ Some (speaker asn addr)
unfolding speaker_by
speaker_told as4 asn addr s =
    let id = addr / 2 ^ 96 in
    let some = s.some in
    let least = host_some addr s.host in
    let asn_some : nat_eq asn 0 ≡ false = grind (arith, nat_tests) in
    let id_some : nat_eq id 0 ≡ false = grind (arith, nat_tests) in
    ap (λ o. o >>= λ a. id_of (addr_text false addr) >>= λ i. addr_of false (addr_text false addr) >>= λ h. cond (nat_eq a 0 || nat_eq i 0 || not (is_host false h)) None (Some (record { asn = a; id = i; addr = h }))) (number_back (asn_bound as4) asn (asn_fits as4 asn addr s) (omega (arith, s.wide)))
    ∙ ((λ k. id_back id (front_below addr s.ipv4.0) k >>= λ i. addr_back addr s.ipv4 k >>= λ h. cond (nat_eq asn 0 || nat_eq i 0 || not (is_host false h)) None (Some (record { asn = asn; id = i; addr = h })))
    ∙ ap (λ b. cond b None (Some (speaker asn addr))) (speaks (nat_eq asn 0) (nat_eq id 0) (is_host false addr) asn_some id_some s.host))

-- ---- octets

octets_are : (octets : List ℕ) → AreBytes octets → AllByRecursion (λ b. b < 2 ^ 8) octets
octets_are [] bytes = tt
octets_are (b ∷ octets) bytes = (bytes 0, octets_are octets (λ i. bytes (suc i)))

octets_told : (octets : List ℕ) → AreBytes octets → 0 < length octets → octets_of (encode_lower octets) ≡ Some octets
unfolding octets_of
octets_told octets bytes some =
    let other : nat_eq (length octets) 0 ≡ false = grind (arith, nat_tests) in
    ap (λ r. result_ok r >>= λ os. cond (nat_eq (length os) 0) None (Some os)) (decode_of-encode_lower octets bytes) ∙ ap (λ b. cond b None (Some octets)) other

shown_octets : (octets : List ℕ) → AreBytes octets → 0 < length octets → IsShown (encode_lower octets)
shown_octets octets bytes some =
    let long = length-encode_with lower_digits octets in
    record { ink = ink_hex octets (octets_are octets bytes); some = omega arith }

-- ---- lines

pub as4_read : (p : Profile) → read_event p (line_bytes lines.As4) ≡ Ok (events.Whole As4)
unfolding line_words event_of named_event plain_event interior_event profile_event
as4_read p = line_read p (codes "as4") [] (shown_by (codes "as4") refl (omega arith), tt) (omega arith) ∙ refl

idle_read : (p : Profile) → read_event p (line_bytes lines.Idle) ≡ Ok events.Idle
unfolding line_words event_of named_event plain_event
idle_read p = line_read p (codes "idle") [] (shown_by (codes "idle") refl (omega arith), tt) (omega arith) ∙ refl

pub local_read : (p : Profile) (asn addr : ℕ) → IsSpeaker p.as4 asn addr → read_event p (line_bytes (lines.Local asn addr)) ≡ Ok (events.Local (speaker asn addr))
unfolding line_words event_of named_event local_of speaker_of
local_read p asn addr s =
    line_read p (codes "local") (decimal asn ∷ addr_text false addr ∷ addr_text false addr ∷ [])
    (shown_by (codes "local") refl (omega arith), (shown_number asn s.wide, (shown_addr addr, (shown_addr addr, tt)))) (omega (arith, number_short asn s.wide, addr_short addr))
    ∙ ap in_grammar (ap (λ o. o >>= λ x. Some (events.Local x)) (speaker_told p.as4 asn addr s))

peer_read : (p : Profile) (k asn addr : ℕ) → 0 < k → k < 2 ^ 32 → IsSpeaker p.as4 asn addr → read_event p (line_bytes (lines.Peer k asn addr)) ≡ Ok (events.Peer k (speaker asn addr) false)
unfolding line_words event_of named_event peer_of client_of
peer_read p k asn addr some small s =
    line_read p (codes "peer") (decimal k ∷ decimal asn ∷ addr_text false addr ∷ addr_text false addr ∷ [])
    (shown_by (codes "peer") refl (omega arith), (shown_number k small, (shown_number asn s.wide, (shown_addr addr, (shown_addr addr, tt))))) (omega (arith, number_short k small, number_short asn s.wide, addr_short addr))
    ∙ ap in_grammar (ap (λ o. o >>= λ n. speaker_by p.as4 (decimal asn) (addr_text false addr) (addr_text false addr) >>= λ x. Some (events.Peer n x false)) (from_one_told k some small)
    ∙ ap (λ o. o >>= λ x. Some (events.Peer k x false)) (speaker_told p.as4 asn addr s))

up_read : (p : Profile) (k : ℕ) → 0 < k → k < 2 ^ 32 → read_event p (line_bytes (lines.Up k)) ≡ Ok (events.Up k)
unfolding line_words event_of named_event plain_event one_number
up_read p k some small =
    line_read p (codes "up") (decimal k ∷ []) (shown_by (codes "up") refl (omega arith), (shown_number k small, tt)) (omega (arith, number_short k small))
    ∙ ap in_grammar (ap (λ o. o >>= λ n. Some (events.Up n)) (from_one_told k some small))

down_read : (p : Profile) (k : ℕ) → 0 < k → k < 2 ^ 32 → read_event p (line_bytes (lines.Down k)) ≡ Ok (events.Down k)
unfolding line_words event_of named_event plain_event one_number
down_read p k some small =
    line_read p (codes "down") (decimal k ∷ []) (shown_by (codes "down") refl (omega arith), (shown_number k small, tt)) (omega (arith, number_short k small))
    ∙ ap in_grammar (ap (λ o. o >>= λ n. Some (events.Down n)) (from_one_told k some small))

bgp_read : (p : Profile) (k : ℕ) (octets : List ℕ) → 0 < k → k < 2 ^ 32 → 0 < length octets → length octets ≤ 4096 → AreBytes octets → read_event p (line_bytes (lines.Bgp k octets)) ≡ Ok (events.Bgp k octets)
unfolding line_words event_of named_event bgp_of
bgp_read p k octets some small present short bytes =
    line_read p (codes "bgp") (decimal k ∷ encode_lower octets ∷ [])
    (shown_by (codes "bgp") refl (omega arith), (shown_number k small, (shown_octets octets bytes present, tt))) (omega (arith, number_short k small, length-encode_with lower_digits octets, short))
    ∙ ap in_grammar (ap (λ o. o >>= λ n. octets_of (encode_lower octets) >>= λ os. Some (events.Bgp n os)) (from_one_told k some small)
    ∙ ap (λ o. o >>= λ os. Some (events.Bgp k os)) (octets_told octets bytes present))

-- each line that may stand there
pub reads : (p : Profile) (w : Written) (l : Line) → length w.peers ≤ 64 → Asks p.as4 w l → read_event p (line_bytes l) ≡ Ok (event_of_line l)
reads p w lines.As4 few asks = as4_read p
reads p w (lines.Local asn addr) few asks = local_read p asn addr asks.1
reads p w (lines.Peer k asn addr) few asks = peer_read p k asn addr (omega (arith, asks.0)) (omega (arith, asks.1)) asks.4
reads p w (lines.Up k) few asks = up_read p k asks.0.least (omega (arith, asks.0.most, few))
reads p w (lines.Down k) few asks = down_read p k asks.0.least (omega (arith, asks.0.most, few))
reads p w (lines.Bgp k octets) few asks = bgp_read p k octets asks.0.least (omega (arith, asks.0.most, few)) asks.2 asks.3 asks.4
reads p w lines.Idle few asks = idle_read p
