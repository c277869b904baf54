-- Attributes that a peer said can be printed.
use Rattle.std.proofs.Common.{◌≡◌, ℕ, ◌^◌, ◌<◌, ◌≤◌, Bool, true, false, cond, List, [], ◌∷◌, length, Option, Some, None, refl, sym, ap, subst, ◌∙◌, inl, inr, arith, length-append}
use Rattle.std.specs.Option.{option_map_or}
use Rattle.std.proofs.lemmas.Bool.{le-ltb}
use Rattle.std.specs.List.{AllByRecursion}
use Rattle.addr4.specs.Prefixes.{AddressPrefix}
use Rattle.bgp_attr.specs.declared.attrs.Aggregator.{Aggregator}
use Rattle.bgp_attr.specs.Attributes.{Attrs}
use Rattle.bgp_attr.specs.declared.path.Segment.{Segment}
use Rattle.bgp_attr.specs.declared.speaker.Profile.{Profile}
use Rattle.bgp_attr.specs.declared.unrecognized.Unrecognized.{Unrecognized}
use Rattle.bgp_wire.specs.declared.message.Update.{Update}
use Rattle.bgp_wire.specs.Paths.{width_of}
use Rattle.bgp_wire.specs.Multiprotocol.{HopLength, IsReach, announced_by, hop_by, withdrawn_by}
use Rattle.bgp_wire.specs.Attributes.{Attribute, AreAttributes, IsAttribute, kept_by}
use Rattle.bgp_wire.specs.Routes.{kept_of, hop_of, multiprotocol_of, Says, AreAttrs}
use Rattle.bgp_wire.specs.Said.{Said}
use Rattle.bgp_wire.specs.Spelling.{is_long, spelled, reach_value}
use Rattle.bgp_wire.specs.Lengths.{attributes_length}
use Rattle.bgp_wire.specs.Updates.{Reading}
use Rattle.bgp_wire.specs.Grammar.{IsReading, AreAttrsFor, IsSaidBy, IsUpdateBy}
use Rattle.bgp_wire.specs.Readable.{IsHost, IsReadable, IsReadableSegment, Speaks, reads_reflection, said_of}
use Rattle.bgp_wire.proofs.JudgedTypes.{Verdict, Reach}
use Rattle.bgp_wire.proofs.ReadableLaws.{Every, all_every, Octets, held, each_type, unrecognized_held, attrs_read, first_hop_read, second_announced_read}
use Rattle.bgp_wire.proofs.ReadableMessages.{field_octets}
use Rattle.bgp_wire.proofs.SpelledLengths.{length-spelled, length-reach-value}
use Rattle.wire_laws.proofs.LengthLaws.{least, IsNoLonger, HopNoLonger, first_hop_no_longer, attributes_no_longer}
use Rattle.journal_check.specs.Laws.{IsNumberIfAny, HasNumbers, HasNumber, HasOctets, HasRanges}
use Rattle.journal_laws.proofs.Spans.{some_same, not_some}
use Rattle.journal_laws.specs.Printed.{HasAddress, HasAddresses, HasRoom, IsIdIfAny}
use Rattle.journal_laws.specs.Laws.{ReadIsPrintable}

-- ---- ranges of what can be read

every_more : {A : Type 0} (P Q : A → Type 0) (xs : List A) → ((x : A) → P x → Q x) → Every P xs → AllByRecursion Q xs
every_more P Q [] f every = tt
every_more P Q (x ∷ xs) f every = (f x every.0, every_more P Q xs f every.1)

number_small : (as4 : Bool) (n : ℕ) → n < 256 ^ width_of as4 → n < 2 ^ 32
number_small true n h = omega arith
number_small false n h = omega arith

segment_ranges : (as4 : Bool) (s : Segment) → IsReadableSegment as4 s → HasNumbers s
segment_ranges as4 s h = every_more (λ n. n < 256 ^ width_of as4) (λ n. n < 2 ^ 32) s.numbers (number_small as4) (all_every (λ n. n < 256 ^ width_of as4) s.numbers h.numbers)

number_ranges : (o : Option ℕ) → ((n : ℕ) → o ≡ Some n → n < 2 ^ 32) → IsNumberIfAny o
number_ranges None each = tt
number_ranges (Some n) each = each n refl

aggregator_ranges : (as4 : Bool) (o : Option Aggregator) → ((g : Aggregator) → o ≡ Some g → (g.asn < 256 ^ width_of as4) × (g.addr < 2 ^ 32)) → HasNumber o
aggregator_ranges as4 None each = tt
aggregator_ranges as4 (Some g) each = number_small as4 g.asn (each g refl).0

aggregator_address : (as4 : Bool) (o : Option Aggregator) → ((g : Aggregator) → o ≡ Some g → (g.asn < 256 ^ width_of as4) × (g.addr < 2 ^ 32)) → HasAddress o
aggregator_address as4 None each = tt
aggregator_address as4 (Some g) each = (each g refl).1

originator_address : (reads : Type 0) (o : Option ℕ) → ((n : ℕ) → o ≡ Some n → reads × (n < 2 ^ 32)) → IsIdIfAny o
originator_address reads None each = tt
originator_address reads (Some n) each = (each n refl).1

-- ---- unrecognized attributes are octets as they came

octets_small : (octets : List ℕ) → Octets octets → AllByRecursion (λ b. b < 2 ^ 8) octets
octets_small octets h = every_more (λ b. b < 256) (λ b. b < 2 ^ 8) octets (λ b low. omega arith) h

attribute_small : (a : Attribute) → IsAttribute a → Octets a.octets → (a.kind < 2 ^ 8) × AllByRecursion (λ b. b < 2 ^ 8) a.value
attribute_small a is octets = elim is [
  | inl short ↦ let bytes = subst Octets short.spelled octets in let kind = bytes.1.0 in (omega (arith, kind), octets_small a.value bytes.1.1.1)
  | inr long ↦ let bytes = subst Octets long.spelled octets in let kind = bytes.1.0 in (omega (arith, kind), octets_small a.value bytes.1.1.1.1)
]

unrecognized_small : (u : Unrecognized) (a : Attribute) → a.kind ≡ u.kind → a.value ≡ u.value → (a.kind < 2 ^ 8) × AllByRecursion (λ b. b < 2 ^ 8) a.value → HasOctets u
unrecognized_small u a kind value h = (subst (λ k. k < 2 ^ 8) kind h.0, subst (λ v. AllByRecursion (λ b. b < 2 ^ 8) v) value h.1)

unrecognized_ranges : (p : Profile) (external : Bool) (bytes : List ℕ) (steps : List (Attribute × Verdict)) (runs : Bool) (hop : Option ℕ) (attrs : Attrs) → AreAttributes p external [] bytes steps runs → Octets bytes → AreAttrs p external (kept_by steps runs).0 hop attrs
    → AllByRecursion HasOctets attrs.unrecognized
unrecognized_ranges p external bytes steps runs hop attrs are octets is =
    every_more HasOctets HasOctets attrs.unrecognized (λ u h. h) (each_type HasOctets 0 attrs.unrecognized is.unrecognized.order (λ u e.
    let k = unrecognized_held p external bytes steps runs are octets attrs.unrecognized is.unrecognized u.kind u.value e in
    let h = held p external bytes steps runs are octets u.kind k.1.0 k.1.1 in
    unrecognized_small u k.1.0 h.same k.1.2 (attribute_small k.1.0 h.is h.octets)))

-- ---- all of them

-- what is asked of attributes
record ArePrintable (v6 : Bool) (a : Attrs) : Type 0 where
  ranges : HasRanges a
  addresses : HasAddresses v6 a
  room : HasRoom v6 a

printable_by : (v6 : Bool) (p : Profile) (external : Bool) (a : Attrs) → IsReadable v6 p external a → AllByRecursion HasOctets a.unrecognized → HasRoom v6 a → ArePrintable v6 a
printable_by v6 p external a h octets room = record {
  ranges = record {
    path = every_more (IsReadableSegment p.as4) HasNumbers a.path (segment_ranges p.as4) (all_every (IsReadableSegment p.as4) a.path h.path);
    med = number_ranges a.med h.med;
    local_pref = number_ranges a.local_pref (λ n e. (h.local_pref n e).1);
    aggregator = aggregator_ranges p.as4 a.aggregator h.aggregator;
    unrecognized = octets;
  };
  addresses = record {
    next_hop = h.next_hop.of;
    aggregator = aggregator_address p.as4 a.aggregator h.aggregator;
    originator = originator_address (reads_reflection p external ≡ true) a.reflection.originator h.originator;
    clusters = every_more (λ n. (reads_reflection p external ≡ true) × (n < 2 ^ 32)) (λ n. n < 2 ^ 32) a.reflection.clusters (λ n both. both.1) (all_every (λ n. (reads_reflection p external ≡ true) × (n < 2 ^ 32)) a.reflection.clusters h.clusters);
  };
  room = room;
}

-- ---- next hops

-- MP_REACH_NLRI with its next hop alone is no longer than the one that was read
no_longer_alone : (kept : List Attribute) (a : Attribute) (r : Reach) → kept_of 14 kept ≡ Some a → IsReach a.value r → (hop : ℕ) → IsNoLonger kept (spelled 128 14 (reach_value hop []))
no_longer_alone kept a r found is hop =
    let value = reach_value hop [] in
    let size : length value ≡ 21 = length-reach-value hop [] in
    let short : ◌≡◌ {A = ℕ} (cond (is_long value) 4 3) 3 = ap (λ b. cond b 4 3) (le-ltb 255 (length value) (omega (arith, size))) in
    let longer : 21 ≤ length a.value = omega (arith, ap length is.spelled, length-append is.hop (is.reserved ∷ is.prefixes), sixteen (length is.hop) is.size) in
    omega (arith, ap (λ o. option_map_or least o 0) found, short, size, longer, three (is_long a.value), length-spelled (is_long value) 128 14 value)
  where
    sixteen : (n : ℕ) → HopLength n → 16 ≤ n
    sixteen n size = elim size [
      | inl e ↦ omega (arith, e)
      | inr e ↦ omega (arith, e)
    ]

    three : (b : Bool) → 3 ≤ cond b 4 3
    three true = omega arith
    three false = omega arith

-- what is known of the next hop, by the attributes that are kept
record IsHopOf (v6 : Bool) (p : Profile) (kept : List Attribute) (hop : Option ℕ) : Type 0 where
  speaks : Speaks p v6
  host : (n : ℕ) → hop ≡ Some n → IsHost v6 n
  room : (n : ℕ) → hop ≡ Some n → HopNoLonger v6 kept n []

module _ (p : Profile) (external : Bool) (bytes : List ℕ) (r : Reading) (is : IsReading p external bytes r) (octets : Octets bytes) where
  -- the attributes that are kept
  abbrev kept : List Attribute
  kept = (kept_by is.steps is.runs).0

  first_hop : IsHopOf false p kept (hop_of r.kept)
  first_hop =
      let f = field_octets p external bytes r is octets in
      record {
        speaks = λ e. absurd (cc);
        host = λ n e. first_hop_read p external is.attributes is.steps is.runs is.are f.attributes n (ap hop_of (sym is.kept) ∙ e);
        room = λ n e. first_hop_no_longer p external is.attributes is.steps is.runs is.are f.attributes n [] (ap hop_of (sym is.kept) ∙ e);
      }

  -- MP_REACH_NLRI is there where it announces a prefix
  reach_kept : (v6 : Bool) (o : Option Attribute) (x : Reach) → Says IsReach (cond v6 o None) (Some x) → (v6 ≡ true) × ((a : Attribute) × (o ≡ Some a) × IsReach a.value x)
  reach_kept false o x says = absurd (cc)
  reach_kept true None x says = absurd (cc)
  reach_kept true (Some a) x says = (refl, (a, refl, says))

  says_kept : Says IsReach (multiprotocol_of p 14 kept) r.reach
  says_kept = subst (λ ks. Says IsReach (multiprotocol_of p 14 ks) r.reach) is.kept is.reaches

  second_hop : 0 < length (announced_by r.reach) → IsHopOf true p kept (hop_by r.reach)
  second_hop some = by_reach r.reach refl some
    where
      by_reach : (o : Option Reach) → r.reach ≡ o → 0 < length (announced_by o) → IsHopOf true p kept (hop_by r.reach)
      by_reach None e some = absurd (omega (arith, some))
      by_reach (Some x) e some =
          let f = field_octets p external bytes r is octets in
          let k = reach_kept p.v6 (kept_of 14 kept) x (subst (Says IsReach (multiprotocol_of p 14 kept)) e says_kept) in
          record {
            speaks = λ _. k.0;
            host = (second_announced_read p external is.attributes is.steps is.runs is.are f.attributes r.reach says_kept).1;
            room = λ n _. (tt, (no_longer_alone kept k.1.0 x k.1.1 k.1.2 n, tt));
          }

  -- ---- what is said of a family
  attrs_printable : (v6 : Bool) (hop : Option ℕ) → IsHopOf v6 p kept hop → (a : Attrs) → AreAttrs p external r.kept hop a → ArePrintable v6 a
  unfolding attributes_length
  attrs_printable v6 hop known a are =
      let f = field_octets p external bytes r is octets in
      let own = subst (λ ks. AreAttrs p external ks hop a) is.kept are in
      let readable = attrs_read v6 p external is.attributes is.steps is.runs hop a is.are f.attributes known.host own in
      let whole = f.whole in
      let top = is.frame.top in
      let shorter =
      attributes_no_longer v6 p external is.attributes is.steps is.runs hop a [] is.are f.attributes own readable (omega (arith, whole, top)) (known.room a.next_hop own.next_hop)
      (record { speaks = known.speaks; are = refl; few = omega arith }) in
      printable_by v6 p external a readable (unrecognized_ranges p external is.attributes is.steps is.runs hop a is.are f.attributes own) (p.as4, omega (arith, shorter, whole, top))

  by_prefixes : (v6 : Bool) (hop : Option ℕ) (ns : List AddressPrefix) (attrs : Option Attrs) (a : Attrs) → (0 < length ns → IsHopOf v6 p kept hop) → AreAttrsFor p external r.kept hop ns attrs → attrs ≡ Some a → ArePrintable v6 a
  by_prefixes v6 hop [] attrs a known are e = absurd (not_some a (sym are ∙ e))
  by_prefixes v6 hop (n ∷ ns) None a known are e = absurd are
  by_prefixes v6 hop (n ∷ ns) (Some b) a known are e = subst (ArePrintable v6) (some_same b a e) (attrs_printable v6 hop (known (omega arith)) b are)

  by_withdraw : (v6 withdraw : Bool) (hop : Option ℕ) (ws ns : List AddressPrefix) (s : Said) (a : Attrs) → (0 < length ns → IsHopOf v6 p kept hop) → IsSaidBy p external r.kept withdraw hop ws ns s → s.attrs ≡ Some a → ArePrintable v6 a
  by_withdraw v6 true hop ws ns s a known by e = absurd (not_some a (sym by.attrs ∙ e))
  by_withdraw v6 false hop ws ns s a known by e = by_prefixes v6 hop ns s.attrs a known by.attrs e

  by_family : (v6 : Bool) (u : Update) (a : Attrs) → IsUpdateBy p external r r.withdraw u → (said_of v6 u).attrs ≡ Some a → ArePrintable v6 a
  by_family false u a by e = by_withdraw false r.withdraw (hop_of r.kept) r.withdrawn r.announced u.first a (λ _. first_hop) by.first e
  by_family true u a by e = by_withdraw true r.withdraw (hop_by r.reach) (withdrawn_by r.unreach) (announced_by r.reach) u.second a second_hop by.second e

pub read_printable : ReadIsPrintable
read_printable printing p external bytes u a octets reads e =
    let h = by_family p external bytes reads.0 reads.1 (all_every (λ b. b < 256) bytes octets) printing.v6 u a reads.2 e in
    record { well_told = record { ranges = h.ranges; told = h.addresses }; short = h.room }
