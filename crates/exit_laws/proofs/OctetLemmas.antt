-- The octets of an UPDATE of one prefix are octets, whatever its family.
use Rattle.std.proofs.Common.{◌≡◌, ℕ, zero, suc, ◌+◌, ◌/◌, ◌^◌, ◌<◌, ◌≤◌, Bool, true, false, cond, nat_lt, List, [], ◌∷◌, ◌++◌, length, take, Option, Some, None, refl, arith}
use Rattle.std.specs.Prelude.{replicate, map, filter, All}
use Rattle.std.proofs.lemmas.Bool.Decides.{nat_tests}
use Rattle.std.proofs.lemmas.Nat.{mod_below}
use Rattle.std.specs.Int.{byte_at, bytes_high_first}
use Rattle.std.specs.List.{AllByRecursion, flat_map}
use Rattle.std.specs.Option.{ForSome}
use Rattle.addr4.specs.Prefixes.{AddressPrefix}
use Rattle.bgp_attr.specs.declared.attrs.Aggregator.{Aggregator}
use Rattle.bgp_attr.specs.Attributes.{Attrs}
use Rattle.bgp_attr.specs.declared.attrs.Origin.{Origin}
use Rattle.bgp_attr.specs.declared.attrs.Origin.TheVariants.{Igp, Egp, Incomplete}
use Rattle.bgp_attr.specs.declared.path.Segment.{Segment}
use Rattle.bgp_attr.specs.declared.path.SegmentKind.{SegmentKind}
use Rattle.bgp_attr.specs.declared.path.SegmentKind.TheVariants.{Set, Sequence}
use Rattle.bgp_attr.specs.declared.unrecognized.Unrecognized.{Unrecognized}
use Rattle.bgp_attr.specs.Reflections.{Reflected}
use Rattle.bgp_wire.proofs.JudgedTypes.{Place, first, middle, inner, last}
use Rattle.bgp_wire.specs.Attributes.{Attribute}
use Rattle.bgp_wire.specs.Paths.{width_of, code_of}
use Rattle.bgp_wire.specs.Prefixes.{octets_for}
use Rattle.bgp_wire.specs.Said.{Said}
use Rattle.bgp_wire.specs.Routes.{code_of_origin}
use Rattle.bgp_wire.specs.Spelling.{prefix_octets, segment_octets, path_octets, is_long, spelled_octets, spelled, optional, aggregator_value, aggregator_flags, stands_in, clusters_attributes, reflection_attributes, unrecognized_attribute, unrecognized_attributes, hop_attributes, reach_value, reach_attributes, mandatory_attributes, further_attributes, leading_attributes, sent_attributes, attrs_octets, unreach_value, unreach_octets, own_octets, prefixes_octets, framed, fields_octets, update_octets}
use Rattle.journal_check.proofs.InkLemmas.{all_append, all_flat}

abbrev pub AreSmall : List ℕ → Type 0
AreSmall octets = AllByRecursion (λ b. b < 2 ^ 8) octets

-- as `bgp_wire` says it
pub each_small : (octets : List ℕ) → AreSmall octets → All (λ b. b < 256) octets
each_small [] small k d lt = absurd (omega arith)
each_small (b ∷ octets) small zero d lt = let low = small.0 in omega (arith, low)
each_small (b ∷ octets) small (suc k) d lt = each_small octets small.1 k d (omega arith)

both : (xs ys : List ℕ) → AreSmall xs → AreSmall ys → AreSmall (xs ++ ys)
both xs ys g h = all_append (λ b. b < 2 ^ 8) xs ys g h

front : (n : ℕ) (xs : List ℕ) → AreSmall xs → AreSmall (take n xs)
front zero xs small = tt
front (suc n) [] small = tt
front (suc n) (x ∷ xs) small = (small.0, front n xs small.1)

low : (b : ℕ) → nat_lt b 256 ≡ true → b < 2 ^ 8
low b e = grind (arith, nat_tests)

ones : (n : ℕ) → AreSmall (replicate n 255)
ones zero = tt
ones (suc n) = (omega arith, ones n)

octet : (k n : ℕ) → byte_at k n < 2 ^ 8
octet zero n = let small = mod_below n 256 (omega arith) in omega arith
octet (suc k) n = let small = mod_below (n / 256 ^ suc k) 256 (omega arith) in omega arith

number : (k n : ℕ) → AreSmall (bytes_high_first k n)
number zero n = tt
number (suc k) n = (octet k n, number k n)

numbers : (width : ℕ) (ns : List ℕ) → AreSmall (flat_map (bytes_high_first width) ns)
numbers width [] = tt
numbers width (n ∷ ns) = both (bytes_high_first width n) (flat_map (bytes_high_first width) ns) (number width n) (numbers width ns)

-- ---- the parts of a message
-- a length in bits has its octet
abbrev pub HasShortLength : AddressPrefix → Type 0
HasShortLength p = p.length < 2 ^ 8

prefix : (p : AddressPrefix) → HasShortLength p → AreSmall (prefix_octets p)
prefix p few = (few, front (octets_for p.length) (bytes_high_first 16 p.address) (number 16 p.address))

prefixes : (ps : List AddressPrefix) → AllByRecursion HasShortLength ps → AreSmall (prefixes_octets ps)
prefixes ps few = all_flat HasShortLength (λ b. b < 2 ^ 8) prefix_octets prefix ps few

kind_small : (kind : SegmentKind) → code_of kind < 2 ^ 8
kind_small Set = omega arith
kind_small Sequence = omega arith

segment : (width : ℕ) (s : Segment) → length s.numbers ≤ 255 → AreSmall (segment_octets width s)
segment width s few = (kind_small s.kind, (omega (arith, few), numbers width s.numbers))

abbrev pub HasFewNumbers : Segment → Type 0
HasFewNumbers s = length s.numbers ≤ 255

path : (width : ℕ) (ss : List Segment) → AllByRecursion HasFewNumbers ss → AreSmall (path_octets width ss)
path width ss few = all_flat HasFewNumbers (λ b. b < 2 ^ 8) (segment_octets width) (segment width) ss few

short : (n : ℕ) → nat_lt 255 n ≡ false → n < 2 ^ 8
short n e = grind (arith, nat_tests)

spelled_small : (flags kind : ℕ) (value : List ℕ) → flags < 240 → kind < 2 ^ 8 → AreSmall value → AreSmall (spelled flags kind value).octets
spelled_small flags kind value high small each = by_length (is_long value) refl
  where
    by_length : (long : Bool) → is_long value ≡ long → AreSmall (spelled_octets long flags kind value)
    by_length false e = (omega (arith, high), (small, (short (length value) e, each)))
    by_length true e = (omega (arith, high), (small, both (bytes_high_first 2 (length value)) value (number 2 (length value)) each))

-- ---- attributes
abbrev pub IsSmall : Attribute → Type 0
IsSmall a = AreSmall a.octets

origin : (o : Origin) → code_of_origin o < 2 ^ 8
origin Igp = omega arith
origin Egp = omega arith
origin Incomplete = omega arith

hop : (v6 : Bool) (n : ℕ) → AllByRecursion IsSmall (hop_attributes v6 n)
hop false n = (spelled_small 64 3 (bytes_high_first 4 (n / 2 ^ 96)) (omega arith) (omega arith) (number 4 (n / 2 ^ 96)), tt)
hop true n = tt

mandatory : (v6 as4 : Bool) (a : Attrs) → AllByRecursion HasFewNumbers a.path → AllByRecursion IsSmall (mandatory_attributes v6 as4 a)
mandatory v6 as4 a few = (
  spelled_small 64 1 (code_of_origin a.origin ∷ []) (omega arith) (omega arith) (origin a.origin, tt),
  (spelled_small 64 2 (path_octets (width_of as4) a.path) (omega arith) (omega arith) (path (width_of as4) a.path few), hop v6 a.next_hop),
)

reach : (v6 : Bool) (n : ℕ) (ps : List AddressPrefix) → AreSmall (prefixes_octets ps) → AllByRecursion IsSmall (reach_attributes v6 n ps)
reach false n ps each = tt
reach true n ps each = (
  spelled_small 128 14 (reach_value n ps) (omega arith) (omega arith)
      (omega arith, (omega arith, (omega arith, (omega arith, both (bytes_high_first 16 n) (0 ∷ prefixes_octets ps) (number 16 n) (omega arith, each))))),
  tt,
)

optional_small : {A : Type 0} (f : A → Attribute) (o : Option A) → ((x : A) → IsSmall (f x)) → AllByRecursion IsSmall (optional f o)
optional_small f None each = tt
optional_small f (Some x) each = (each x, tt)

flags_low : (partial : Bool) → aggregator_flags partial < 240
flags_low true = omega arith
flags_low false = omega arith

atomic_small : (atomic : Bool) → AllByRecursion IsSmall (cond atomic (spelled 64 6 [] ∷ []) [])
atomic_small true = (spelled_small 64 6 [] (omega arith) (omega arith) tt, tt)
atomic_small false = tt

further : (as4 : Bool) (a : Attrs) → AllByRecursion IsSmall (further_attributes as4 a)
further as4 a =
    let med = optional (λ n. spelled 128 4 (bytes_high_first 4 n)) a.med in
    let pref = optional (λ n. spelled 64 5 (bytes_high_first 4 n)) a.local_pref in
    let atomic : List Attribute = cond a.atomic (spelled 64 6 [] ∷ []) [] in
    let aggregator = optional (λ (g : Aggregator). spelled (aggregator_flags g.partial) 7 (aggregator_value as4 g)) a.aggregator in
    all_append IsSmall ((med ++ pref) ++ atomic) aggregator
    (all_append IsSmall (med ++ pref) atomic
    (all_append IsSmall med pref (optional_small _ a.med (λ n. spelled_small 128 4 (bytes_high_first 4 n) (omega arith) (omega arith) (number 4 n)))
    (optional_small _ a.local_pref (λ n. spelled_small 64 5 (bytes_high_first 4 n) (omega arith) (omega arith) (number 4 n))))
    (atomic_small a.atomic))
    (optional_small _ a.aggregator (λ (g : Aggregator). spelled_small (aggregator_flags g.partial) 7 (aggregator_value as4 g) (flags_low g.partial) (omega arith)
    (both (bytes_high_first (width_of as4) g.asn) (bytes_high_first 4 g.addr) (number (width_of as4) g.asn) (number 4 g.addr))))

abbrev pub IsKnown : Unrecognized → Type 0
IsKnown u = (u.kind < 2 ^ 8) × AreSmall u.value

unrecognized : (place : Place) (us : List Unrecognized) → AllByRecursion IsKnown us → AllByRecursion IsSmall (unrecognized_attributes place us)
unrecognized place [] known = tt
unrecognized place (u ∷ us) known =
    let rest = unrecognized place us known.1 in
    elim (stands_in place u.kind) as (λ (b : Bool). AllByRecursion IsSmall (map unrecognized_attribute (cond b (u ∷ filter (λ w. stands_in place w.kind) us) (filter (λ w. stands_in place w.kind) us)))) [
      | true ↦ (spelled_small 224 u.kind u.value (omega arith) known.0.0 known.0.1, rest)
      | false ↦ rest
    ]

clusters : (cs : List ℕ) → AllByRecursion IsSmall (clusters_attributes cs)
clusters [] = tt
clusters (c ∷ cs) = (spelled_small 128 10 (flat_map (bytes_high_first 4) (c ∷ cs)) (omega arith) (omega arith) (numbers 4 (c ∷ cs)), tt)

reflection : (r : Reflected) → AllByRecursion IsSmall (reflection_attributes r)
reflection r =
    all_append IsSmall (optional (λ n. spelled 128 9 (bytes_high_first 4 n)) r.originator) (clusters_attributes r.clusters)
    (optional_small _ r.originator (λ n. spelled_small 128 9 (bytes_high_first 4 n) (omega arith) (omega arith) (number 4 n)))
    (clusters r.clusters)

-- the numbers of the segments have their count, and the unrecognized attributes are octets
pub record CanBeSpelled (a : Attrs) : Type 0 where
  pub path : AllByRecursion HasFewNumbers a.path
  pub unrecognized : AllByRecursion IsKnown a.unrecognized

leading : (v6 as4 : Bool) (a : Attrs) → CanBeSpelled a → AllByRecursion IsSmall (leading_attributes v6 as4 a)
leading v6 as4 a can =
    let us : (place : Place) → AllByRecursion IsSmall (unrecognized_attributes place a.unrecognized) = λ place. unrecognized place a.unrecognized can.unrecognized in
    let before = unrecognized_attributes first a.unrecognized in
    let own = before ++ mandatory_attributes v6 as4 a in
    let more = own ++ further_attributes as4 a in
    let between = more ++ unrecognized_attributes middle a.unrecognized in
    all_append IsSmall between (reflection_attributes a.reflection)
    (all_append IsSmall more (unrecognized_attributes middle a.unrecognized)
    (all_append IsSmall own (further_attributes as4 a)
    (all_append IsSmall before (mandatory_attributes v6 as4 a) (us first) (mandatory v6 as4 a can.path)) (further as4 a))
    (us middle)) (reflection a.reflection)

attributes : (v6 as4 : Bool) (a : Attrs) (ps : List AddressPrefix) → CanBeSpelled a → AreSmall (prefixes_octets ps) → AreSmall (attrs_octets v6 as4 (Some a) ps)
attributes v6 as4 a ps can each =
    let us : (place : Place) → AllByRecursion IsSmall (unrecognized_attributes place a.unrecognized) = λ place. unrecognized place a.unrecognized can.unrecognized in
    let first_ones = leading_attributes v6 as4 a in
    let before = first_ones ++ unrecognized_attributes inner a.unrecognized in
    let reached = before ++ reach_attributes v6 a.next_hop ps in
    all_flat IsSmall (λ b. b < 2 ^ 8) (λ (x : Attribute). x.octets) (λ x is. is) (sent_attributes v6 as4 a ps)
    (all_append IsSmall reached (unrecognized_attributes last a.unrecognized)
    (all_append IsSmall before (reach_attributes v6 a.next_hop ps)
    (all_append IsSmall first_ones (unrecognized_attributes inner a.unrecognized) (leading v6 as4 a can) (us inner))
    (reach v6 a.next_hop ps each)) (us last))

-- ---- messages
frame : (body : List ℕ) → AreSmall body → AreSmall (framed 2 body)
frame body each = both (replicate 16 255) (bytes_high_first 2 (19 + length body) ++ 2 ∷ body) (ones 16) (both (bytes_high_first 2 (19 + length body)) (2 ∷ body) (number 2 (19 + length body)) (omega arith, each))

fields : (w a p : List ℕ) → AreSmall w → AreSmall a → AreSmall p → AreSmall (fields_octets w a p)
fields w a p hw ha hp =
    let lw = bytes_high_first 2 (length w) in
    let la = bytes_high_first 2 (length a) in
    both (((lw ++ w) ++ la) ++ a) p
    (both ((lw ++ w) ++ la) a (both (lw ++ w) la (both lw w (number 2 (length w)) hw) (number 2 (length a))) ha) hp

unreach : (v6 : Bool) (ps : List AddressPrefix) → AreSmall (prefixes_octets ps) → AreSmall (unreach_octets v6 ps)
unreach false ps each = tt
unreach true [] each = tt
unreach true (p ∷ ps) each = spelled_small 128 15 (unreach_value (p ∷ ps)) (omega arith) (omega arith) (omega arith, (omega arith, (omega arith, each)))

own_small : (v6 : Bool) (ps : List AddressPrefix) → AreSmall (prefixes_octets ps) → AreSmall (own_octets v6 ps)
own_small false ps each = each
own_small true ps each = tt

attributes_if : (v6 as4 : Bool) (attrs : Option Attrs) (ps : List AddressPrefix) → ForSome attrs CanBeSpelled → AreSmall (prefixes_octets ps) → AreSmall (attrs_octets v6 as4 attrs ps)
attributes_if v6 as4 None ps can each = tt
attributes_if v6 as4 (Some a) ps can each = attributes v6 as4 a ps (can a refl) each

pub update_small : (v6 as4 : Bool) (s : Said) → AllByRecursion HasShortLength s.withdrawn → AllByRecursion HasShortLength s.announced → ForSome s.attrs CanBeSpelled
    → AreSmall (update_octets v6 as4 s)
update_small v6 as4 s withdrawn announced can =
    let w = prefixes s.withdrawn withdrawn in
    let n = prefixes s.announced announced in
    let attrs = unreach_octets v6 s.withdrawn ++ attrs_octets v6 as4 s.attrs s.announced in
    let attrs_are : AreSmall attrs = both (unreach_octets v6 s.withdrawn) (attrs_octets v6 as4 s.attrs s.announced) (unreach v6 s.withdrawn w) (attributes_if v6 as4 s.attrs s.announced can n) in
    frame (fields_octets (own_octets v6 s.withdrawn) attrs (own_octets v6 s.announced))
    (fields (own_octets v6 s.withdrawn) attrs (own_octets v6 s.announced) (own_small v6 s.withdrawn w) attrs_are (own_small v6 s.announced n))
