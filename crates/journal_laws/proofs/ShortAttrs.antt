-- The text of attributes has at most six bytes for each octet of a message that holds them.
use Rattle.std.proofs.Common.{◌≡◌, ℕ, ◌+◌, ◌*◌, ◌≤◌, Bool, true, false, cond, List, [], ◌∷◌, ◌++◌, ◌/◌, ◌^◌, length, map, Option, Some, None, arith, codes}
use Rattle.std.specs.List.{AllByRecursion, flat_map}
use Rattle.std.specs.Fmt.{decimal}
use Rattle.std.proofs.lemmas.List.{length-append}
use Rattle.byteorder.specs.Endian.{big_bytes}
use Rattle.byteorder.specs.Numbers.{length-bytes_high_first}
use Rattle.hex.specs.Hex.{encode_lower, lower_digits}
use Rattle.hex.proofs.HexLemmas.{length-encode_with}
use Rattle.addr4.specs.Texts.{dotted, addr_text, id_text}
use Rattle.bgp_attr.specs.declared.path.SegmentKind.{SegmentKind}
use Rattle.bgp_attr.specs.declared.path.SegmentKind.TheVariants.{Set, Sequence}
use Rattle.bgp_attr.specs.declared.path.Segment.{Segment}
use Rattle.bgp_attr.specs.declared.attrs.Origin.{Origin}
use Rattle.bgp_attr.specs.declared.attrs.Origin.TheVariants.{Igp, Egp, Incomplete}
use Rattle.bgp_attr.specs.declared.attrs.Aggregator.{Aggregator}
use Rattle.bgp_attr.specs.Attributes.{Attrs}
use Rattle.bgp_attr.specs.declared.unrecognized.Unrecognized.{Unrecognized}
use Rattle.bgp_attr.specs.Reflections.{Reflected}
use Rattle.bgp_wire.specs.Attributes.{Attribute}
use Rattle.bgp_wire.specs.Paths.{width_of}
use Rattle.bgp_wire.specs.Routes.{code_of_origin}
use Rattle.bgp_wire.specs.Spelling.{segment_octets, path_octets, is_long, spelled_octets, spelled, optional, aggregator_value, aggregator_flags, unrecognized_attribute, clusters_attributes, reflection_attributes, hop_attributes, reach_attributes, mandatory_attributes, further_attributes, octets_of}
use Rattle.bgp_wire.specs.Lengths.{attributes_length}
use Rattle.bgp_wire.proofs.SpelledLengths.{length-numbers, length-spelled, length-first, length-octets-append, length-four, length-reach, length-sent}
use Rattle.journal_text.specs.Texts.{origin_number, bracketed, segment_text, path_text, lettered, aggregator_text, originator_text, clusters_text, reflection_text, unrecognized_text, required_text, optional_text, attrs_text}
use Rattle.journal_check.specs.Laws.{IsNumberIfAny, HasNumbers, HasNumber, HasOctets, HasRanges}
use Rattle.journal_laws.proofs.ShortNumbers.{short_number, short_octet, short_dotted, short_addr, short_addresses, short_id}

-- ---- paths

bracket_length : (kind : SegmentKind) (text : List ℕ) → length (bracketed kind text) ≡ length text + 2
bracket_length Sequence text = omega (arith, length-append text (41 ∷ []))
bracket_length Set text = omega (arith, length-append text (125 ∷ []))

-- an AS number has two octets or four
by_width : (as4 : Bool) (n : ℕ) → 2 * n ≤ n * width_of as4
by_width true n = omega arith
by_width false n = omega arith

short_segment : (as4 : Bool) (s : Segment) → HasNumbers s → length (segment_text s) ≤ 6 * length (segment_octets (width_of as4) s)
unfolding segment_text
short_segment as4 s h =
    let numbers = length-numbers (width_of as4) s.numbers in
    omega (arith, bracket_length s.kind (dotted s.numbers), short_dotted s.numbers h, by_width as4 (length s.numbers), numbers)

short_path : (as4 : Bool) (path : List Segment) → AllByRecursion HasNumbers path → length (path_text path) ≤ 6 * length (path_octets (width_of as4) path)
unfolding path_text
short_path as4 [] h = omega arith
short_path as4 (s ∷ path) h =
    omega (
      arith,
      short_segment as4 s h.0,
      short_path as4 path h.1,
      length-append (segment_text s) (path_text path),
      length-append (segment_octets (width_of as4) s) (path_octets (width_of as4) path),
    )

-- ---- attributes one by one

-- of an attribute's octets three are before its value at least
pub head_at_least : (flags kind : ℕ) (value : List ℕ) → 3 + length value ≤ length (spelled_octets (is_long value) flags kind value)
head_at_least flags kind value = omega (arith, length-spelled (is_long value) flags kind value, three (is_long value))
  where
    three : (long : Bool) → 3 ≤ cond long 4 3
    three true = omega arith
    three false = omega arith

one_of : (a : Attribute) → length (octets_of (a ∷ [])) ≡ length a.octets
one_of a = omega (arith, length-first a [])

short_unrecognized : (u : Unrecognized) → HasOctets u → length (unrecognized_text u) ≤ 6 * length (spelled_octets (is_long u.value) 224 u.kind u.value)
unfolding unrecognized_text
short_unrecognized u h =
    let kind = h.0 in
    omega (
      arith,
      short_octet u.kind (omega arith),
      length-encode_with lower_digits u.value,
      head_at_least 224 u.kind u.value,
      length-append (44 ∷ 120 ∷ decimal u.kind) (58 ∷ encode_lower u.value),
    )

short_all : (us : List Unrecognized) → AllByRecursion HasOctets us → length (flat_map unrecognized_text us) ≤ 6 * length (octets_of (map unrecognized_attribute us))
short_all [] h = omega arith
short_all (u ∷ us) h =
    omega (
      arith,
      short_unrecognized u h.0,
      short_all us h.1,
      length-append (unrecognized_text u) (flat_map unrecognized_text us),
      length-first (unrecognized_attribute u) (map unrecognized_attribute us),
    )

short_lettered : (letter flags kind : ℕ) (o : Option ℕ) → IsNumberIfAny o → length (lettered letter o) ≤ 6 * length (octets_of (optional (λ n. spelled flags kind (big_bytes 4 n)) o))
short_lettered letter flags kind None h = omega arith
short_lettered letter flags kind (Some n) h = omega (arith, short_number n h, head_at_least flags kind (big_bytes 4 n), one_of (spelled flags kind (big_bytes 4 n)))

short_atomic : (b : Bool) → length (cond b (codes ",a") []) ≤ 6 * length (octets_of (cond b (spelled 64 6 [] ∷ []) []))
short_atomic true = omega (arith, head_at_least 64 6 [], one_of (spelled 64 6 []))
short_atomic false = omega arith

short_partial : (b : Bool) → length {A = ℕ} (cond b (33 ∷ []) []) ≤ 1
short_partial true = omega arith
short_partial false = omega arith

some_width : (as4 : Bool) → 2 ≤ width_of as4
some_width true = omega arith
some_width false = omega arith

aggregator_octets : (as4 : Bool) (g : Aggregator) → 6 ≤ length (aggregator_value as4 g)
aggregator_octets as4 g = omega (arith, length-append (big_bytes (width_of as4) g.asn) (big_bytes 4 g.addr), length-bytes_high_first (width_of as4) g.asn, some_width as4)

short_aggregator : (as4 : Bool) (o : Option Aggregator) → HasNumber o → length (aggregator_text o) ≤ 6 * length (octets_of (optional (λ g. spelled (aggregator_flags g.partial) 7 (aggregator_value as4 g)) o))
unfolding aggregator_text
short_aggregator as4 None h = omega arith
short_aggregator as4 (Some g) h =
    let value = aggregator_value as4 g in
    omega (
      arith,
      short_number g.asn h,
      short_id g.addr,
      short_partial g.partial,
      aggregator_octets as4 g,
      head_at_least (aggregator_flags g.partial) 7 (aggregator_value as4 g),
      one_of (spelled (aggregator_flags g.partial) 7 (aggregator_value as4 g)),
      length-append (44 ∷ 103 ∷ decimal g.asn) (47 ∷ id_text g.addr),
      length-append (44 ∷ 103 ∷ decimal g.asn ++ 47 ∷ id_text g.addr) (cond g.partial (33 ∷ []) []),
    )

-- ---- what reflectors added

short_originator : (o : Option ℕ) → length (originator_text o) ≤ 6 * length (octets_of (optional (λ n. spelled 128 9 (big_bytes 4 n)) o))
unfolding originator_text
short_originator None = omega arith
short_originator (Some n) = omega (arith, short_id n, head_at_least 128 9 (big_bytes 4 n), one_of (spelled 128 9 (big_bytes 4 n)))

short_clusters : (cs : List ℕ) → length (clusters_text cs) ≤ 6 * length (octets_of (clusters_attributes cs))
unfolding clusters_text
short_clusters [] = omega arith
short_clusters (c ∷ cs) =
    let value = flat_map (big_bytes 4) (c ∷ cs) in
    omega (arith, short_addresses (c ∷ cs), length-numbers 4 (c ∷ cs), head_at_least 128 10 value, one_of (spelled 128 10 value))

short_reflection : (r : Reflected) → length (reflection_text r) ≤ 6 * length (octets_of (reflection_attributes r))
short_reflection r =
    omega (
      arith,
      short_originator r.originator,
      short_clusters r.clusters,
      length-append (originator_text r.originator) (clusters_text r.clusters),
      length-octets-append (optional (λ n. spelled 128 9 (big_bytes 4 n)) r.originator) (clusters_attributes r.clusters),
    )

-- ---- all of them

short_origin : (o : Origin) → length (decimal (origin_number o)) ≤ 3
short_origin Igp = short_octet 0 (omega arith)
short_origin Egp = short_octet 1 (omega arith)
short_origin Incomplete = short_octet 2 (omega arith)

-- the next hop, in NEXT_HOP or in MP_REACH_NLRI
hop_octets : (v6 : Bool) (hop : ℕ) → 7 ≤ length (octets_of (hop_attributes v6 hop)) + length (octets_of (reach_attributes v6 hop []))
hop_octets false hop =
    let h = spelled 64 3 (big_bytes 4 (hop / 2 ^ 96)) in
    omega (arith, one_of h, head_at_least 64 3 (big_bytes 4 (hop / 2 ^ 96)))
hop_octets true hop = omega (arith, length-reach hop [] (omega arith))

-- ORIGIN, AS_PATH and the next hop
mandatory_octets : (v6 as4 : Bool) (a : Attrs) → 14 + length (path_octets (width_of as4) a.path) ≤ length (octets_of (mandatory_attributes v6 as4 a)) + length (octets_of (reach_attributes v6 a.next_hop []))
mandatory_octets v6 as4 a =
    let o = spelled 64 1 (code_of_origin a.origin ∷ []) in
    let s = spelled 64 2 (path_octets (width_of as4) a.path) in
    let hops = hop_attributes v6 a.next_hop in
    omega (
      arith,
      length-first o (s ∷ hops),
      length-first s hops,
      hop_octets v6 a.next_hop,
      head_at_least 64 1 (code_of_origin a.origin ∷ []),
      head_at_least 64 2 (path_octets (width_of as4) a.path),
    )

required_length : (v6 : Bool) (a : Attrs) → length (required_text v6 a) ≤ 47 + length (path_text a.path)
unfolding required_text
required_length v6 a =
    let o = codes "o" ++ decimal (origin_number a.origin) in
    let p = path_text a.path in
    let h = addr_text v6 a.next_hop in
    omega (
      arith,
      short_origin a.origin,
      short_addr v6 a.next_hop,
      length-append o (codes ",p"),
      length-append (o ++ codes ",p") p,
      length-append (o ++ codes ",p" ++ p) (codes ",n"),
      length-append (o ++ codes ",p" ++ p ++ codes ",n") h,
    )

short_required : (v6 as4 : Bool) (a : Attrs) → HasRanges a → length (required_text v6 a) ≤ 6 * (length (octets_of (mandatory_attributes v6 as4 a)) + length (octets_of (reach_attributes v6 a.next_hop [])))
short_required v6 as4 a h = omega (arith, required_length v6 a, short_path as4 a.path h.path, mandatory_octets v6 as4 a)

short_optional : (as4 : Bool) (a : Attrs) → HasRanges a → length (optional_text a) ≤ 6 * length (octets_of (further_attributes as4 a))
unfolding optional_text
short_optional as4 a h =
    let m = lettered 109 a.med in
    let l = lettered 108 a.local_pref in
    let c = cond a.atomic (codes ",a") [] in
    omega (
      arith,
      short_lettered 109 128 4 a.med h.med,
      short_lettered 108 64 5 a.local_pref h.local_pref,
      short_atomic a.atomic,
      short_aggregator as4 a.aggregator h.aggregator,
      length-append m l,
      length-append (m ++ l) c,
      length-append (m ++ l ++ c) (aggregator_text a.aggregator),
      length-four (optional (λ n. spelled 128 4 (big_bytes 4 n)) a.med) (optional (λ n. spelled 64 5 (big_bytes 4 n)) a.local_pref) (cond a.atomic (spelled 64 6 [] ∷ []) []) (optional (λ g. spelled (aggregator_flags g.partial) 7 (aggregator_value as4 g)) a.aggregator),
    )

pub short_attrs : (v6 as4 : Bool) (a : Attrs) → HasRanges a → length (attrs_text v6 a) ≤ 6 * attributes_length v6 as4 a
unfolding attrs_text attributes_length
short_attrs v6 as4 a h =
    omega (
      arith,
      short_required v6 as4 a h,
      short_optional as4 a h,
      short_reflection a.reflection,
      short_all a.unrecognized h.unrecognized,
      length-append (required_text v6 a) (optional_text a),
      length-append (required_text v6 a ++ optional_text a) (reflection_text a.reflection),
      length-append (required_text v6 a ++ optional_text a ++ reflection_text a.reflection) (flat_map unrecognized_text a.unrecognized),
      length-sent v6 as4 a [],
    )
