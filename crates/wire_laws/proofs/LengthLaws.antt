-- What is written of what a peer said isn't longer than what it said.
use Rattle.std.proofs.Common.{◌≡◌, ℕ, zero, suc, ◌+◌, ◌*◌, ◌/◌, ◌%◌, ◌≤◌, ◌<◌, Bool, true, false, cond, eqb, ltb, not, ◌||◌, map, get_or, List, [], ◌∷◌, ◌++◌, length, drop, Option, Some, None, refl, sym, ap, subst, ◌∙◌, ◌^◌, inl, inr, arith}
use Rattle.std.specs.Prelude.{filter, is_some}
use Rattle.std.specs.List.{flat_map}
use Rattle.std.specs.Option.{option_map_or}
use Rattle.std.proofs.lemmas.Bool.{le-ltb, eqb-true}
use Rattle.std.proofs.lemmas.List.{length-append, length-take}
use Rattle.byteorder.specs.Endian.{big_number, big_bytes}
use Rattle.byteorder.specs.Numbers.{length-bytes_high_first}
use Rattle.addr4.specs.Prefixes.{AddressPrefix}
use Rattle.bgp_wire.specs.Prefixes.{octets_for, ArePrefixes}
use Rattle.bgp_wire.specs.Multiprotocol.{HopLength, IsReach}
use Rattle.bgp_attr.specs.declared.attrs.Aggregator.{Aggregator}
use Rattle.bgp_attr.specs.Attributes.{Attrs}
use Rattle.bgp_attr.specs.declared.path.Segment.{Segment}
use Rattle.bgp_attr.specs.declared.speaker.Profile.{Profile}
use Rattle.bgp_attr.specs.declared.unrecognized.Unrecognized.{Unrecognized}
use Rattle.bgp_wire.proofs.JudgedTypes.{TypeRule, Verdict, each_verdict, fixed, fours, Place, first, middle, inner, last, Reach}
use Rattle.bgp_wire.specs.Paths.{width_of, numbers_at, IsPath}
use Rattle.bgp_wire.specs.Attributes.{Attribute, IsAttribute, AreAttributes, hop_at, kept_by, rule_of, has_wrong_size}
use Rattle.bgp_wire.specs.Routes.{kept_of, hop_of, number_of, code_of_origin, aggregator_of, clusters_at, clusters_of, AreAttrs}
use Rattle.bgp_wire.specs.Spelling.{segment_octets, path_octets, is_long, spelled, optional, aggregator_value, aggregator_flags, stands_in, unrecognized_attribute, unrecognized_attributes, hop_attributes, reach_value, reach_attributes, mandatory_attributes, further_attributes, clusters_attributes, reflection_attributes, sent_attributes, octets_of, prefix_octets, prefixes_octets}
use Rattle.bgp_wire.specs.Readable.{reads_reflection, IsReadable}
use Rattle.bgp_wire.proofs.TestLemmas.{unequal, not_false, or_false_right}
use Rattle.bgp_wire.proofs.SpelledLengths.{length-numbers, length-spelled, length-reach-value, few_octets}
use Rattle.wire_laws.proofs.SpelledAttributes.{AreSound, FitLengths, IsSpoken, rule_at_9, rule_at_10, sound_sent}
use Rattle.bgp_wire.proofs.ReadableLaws.{Every, every_all, every_append, Octets, held, good, right_size, found_from, some_in, each_type, unrecognized_held}

-- the fewest octets that an attribute has
abbrev pub least : Attribute → ℕ
least a = cond (is_long a.value) 4 3 + length a.value

abbrev pub total : List Attribute → ℕ
total [] = 0
total (a ∷ rest) = least a + total rest

-- of the attribute of a type, if there is one
abbrev pub weight : ℕ → List Attribute → ℕ
weight kind kept = option_map_or least (kept_of kind kept) 0

abbrev pub weights : List Attribute → List Attribute → ℕ
weights [] kept = 0
weights (x ∷ xs) kept = weight x.kind kept + weights xs kept

-- types that ascend
abbrev pub Ascend : ℕ → List Attribute → Type 0
Ascend n [] = Unit {0}
Ascend n (x ∷ xs) = (n ≤ x.kind) × Ascend (suc x.kind) xs

ascends : (p : Profile) (external : Bool) (from end : ℕ) (xs : List Attribute) → AreSound p external from end xs → Ascend from xs
ascends p external from end [] sound = tt
ascends p external from end (x ∷ xs) sound = (sound.0, ascends p external (suc x.kind) end xs sound.2)

-- one prefix
pub one_length : (n : AddressPrefix) → n.length ≤ 128 → length (prefixes_octets (n ∷ [])) ≡ 1 + octets_for n.length
one_length n short = omega (arith, length-append (prefix_octets n) [], length-take (octets_for n.length) (big_bytes 16 n.address), length-bytes_high_first 16 n.address)

pub one_announced : (v6 : Bool) (bytes : List ℕ) (n : AddressPrefix) → ArePrefixes v6 bytes (n ∷ []) → length bytes ≡ 1 + octets_for n.length
one_announced v6 bytes n are = omega (arith, ap length are.2, length-append are.0 are.1, ap length are.3.spelled, are.3.fewest, ap length are.4)

-- later types have the weights that they had
same_weights : (n : ℕ) (xs : List Attribute) (b : Attribute) (kept : List Attribute) → Ascend n xs → b.kind < n → weights xs (b ∷ kept) ≡ weights xs kept
same_weights n [] b kept order lt = refl
same_weights n (x ∷ xs) b kept order lt =
    let apart : eqb b.kind x.kind ≡ false = unequal b.kind x.kind (λ e. absurd (omega (arith, order.0))) in
    let here : weight x.kind (b ∷ kept) ≡ weight x.kind kept = ap (λ t. option_map_or least (cond t (Some b) (kept_of x.kind kept)) 0) apart in
    omega (arith, here, same_weights (suc x.kind) xs b kept order.1 (omega (arith, order.0)))

one_more : (n : ℕ) (xs : List Attribute) (b : Attribute) (kept : List Attribute) → Ascend n xs → weights xs (b ∷ kept) ≤ least b + weights xs kept
one_more n [] b kept order = omega arith
one_more n (x ∷ xs) b kept order = by_test (eqb b.kind x.kind) refl (one_more (suc x.kind) xs b kept order.1)
  where
    by_test : (t : Bool) → eqb b.kind x.kind ≡ t → weights xs (b ∷ kept) ≤ least b + weights xs kept → option_map_or least (cond t (Some b) (kept_of x.kind kept)) 0 + weights xs (b ∷ kept) ≤ least b + (weight x.kind kept + weights xs kept)
    by_test true is later = omega (arith, same_weights (suc x.kind) xs b kept order.1 (omega (arith, eqb-true _ _ is)))
    by_test false is later = omega arith

no_weights : (xs : List Attribute) → weights xs [] ≡ 0
no_weights [] = refl
no_weights (x ∷ xs) = omega (arith, no_weights xs)

within_total : (n : ℕ) (xs kept : List Attribute) → Ascend n xs → weights xs kept ≤ total kept
within_total n xs [] order = omega (arith, no_weights xs)
within_total n xs (b ∷ kept) order = omega (arith, one_more n xs b kept order, within_total n xs kept order)

weight_within : (kind : ℕ) (kept : List Attribute) (a : Attribute) → kept_of kind kept ≡ Some a → least a ≤ total kept
weight_within kind [] a e = absurd (cc)
weight_within kind (b ∷ kept) a e = by_test (eqb b.kind kind) e (weight_within kind kept a)
  where
    by_test : (t : Bool) → cond t (Some b) (kept_of kind kept) ≡ Some a → (kept_of kind kept ≡ Some a → least a ≤ total kept) → least a ≤ least b + total kept
    by_test true e later = let same : b ≡ a = cc in omega (arith, ap least same)
    by_test false e later = omega (arith, later e)

-- ---- what was read has at least the fewest octets

least_read : (a : Attribute) → IsAttribute a → Octets a.octets → least a ≤ length a.octets
least_read a is octets = elim is [
  | inl short ↦
      let few : length a.value < 256 = (subst Octets short.spelled octets).1.1.0 in
      let plain : is_long a.value ≡ false = le-ltb _ _ (omega arith) in
      omega (arith, ap length short.spelled, ap (λ b. cond b 4 3 + length a.value) plain)
  | inr long ↦ omega (arith, ap length long.spelled, at_most (is_long a.value))
]
  where
    at_most : (b : Bool) → cond b 4 3 ≤ 4
    at_most true = omega arith
    at_most false = omega arith

every_octet : (xs ys : List ℕ) → Octets (xs ++ ys) → Octets xs × Octets ys
every_octet [] ys octets = (tt, octets)
every_octet (x ∷ xs) ys octets = let later = every_octet xs ys octets.1 in ((octets.0, later.0), later.1)

total_read : (p : Profile) (external : Bool) (seen bytes : List ℕ) (steps : List (Attribute × Verdict)) (runs : Bool) → AreAttributes p external seen bytes steps runs → Octets bytes → total (kept_by steps runs).0 ≤ length bytes
total_read p external seen bytes [] runs are octets = omega arith
total_read p external seen bytes ((b, v) ∷ steps) runs are octets =
    let parts = every_octet b.octets are.0 (subst Octets are.1 octets) in
    let later = total_read p external (seen ++ b.kind ∷ []) are.0 steps runs are.4 parts.1 in
    let all : least b + total (kept_by steps runs).0 ≤ length bytes = omega (arith, least_read b are.2 parts.0, later, ap length are.1, length-append b.octets are.0) in
    each_verdict (λ v. total (kept_by ((b, v) ∷ steps) runs).0 ≤ length bytes) all (omega arith) (omega arith) v

-- ---- what is sent has the lengths of what was read

-- it has at most the octets of the kept one of its type
abbrev pub IsNoLonger : List Attribute → Attribute → Type 0
IsNoLonger kept x = length x.octets ≤ weight x.kind kept

no_longer : (xs kept : List Attribute) → Every (IsNoLonger kept) xs → length (octets_of xs) ≤ weights xs kept
no_longer [] kept every = omega arith
no_longer (x ∷ xs) kept every = omega (arith, length-append x.octets (octets_of xs), every.0, no_longer xs kept every.1)

by_value : (kept : List Attribute) (flags kind : ℕ) (value : List ℕ) (a : Attribute) → kept_of kind kept ≡ Some a → length a.value ≡ length value → IsNoLonger kept (spelled flags kind value)
by_value kept flags kind value a found same =
    let weighs : weight kind kept ≡ least a = ap (λ o. option_map_or least o 0) found in
    let alike : least a ≡ cond (is_long value) 4 3 + length value = ap (λ n. cond (ltb 255 n) 4 3 + n) same in
    omega (arith, weighs, alike, length-spelled (is_long value) flags kind value)

every_optional : {A : Type 0} (P : Attribute → Type 0) (f : A → Attribute) (o : Option A) → ((x : A) → o ≡ Some x → P (f x)) → Every P (optional f o)
every_optional P f None each = tt
every_optional P f (Some x) each = (each x refl, tt)

every_if : (P : Attribute → Type 0) (a : Attribute) (b : Bool) → (b ≡ true → P a) → Every P (cond b (a ∷ []) [])
every_if P a true each = (each refl, tt)
every_if P a false each = tt

length-path : (as4 : Bool) (bytes : List ℕ) (path : List Segment) → IsPath (width_of as4) bytes path → length bytes ≡ length (path_octets (width_of as4) path)
length-path as4 bytes [] is = ap length is
length-path as4 bytes (s ∷ path) is =
    let width = width_of as4 in
    let here : length is.0 ≡ length (segment_octets width s) = omega (arith, ap length is.3.spelled, is.3.size, length-numbers width s.numbers) in
    omega (arith, here, ap length is.2, length-append is.0 is.1, length-append (segment_octets width s) (path_octets width path), length-path as4 is.1 path is.4)

unrecognized_no_longer : (place : Place) (kept : List Attribute) (us : List Unrecognized) → Every (λ (u : Unrecognized). IsNoLonger kept (unrecognized_attribute u)) us → Every (IsNoLonger kept) (unrecognized_attributes place us)
unrecognized_no_longer place kept [] every = tt
unrecognized_no_longer place kept (u ∷ us) every = by_place (stands_in place u.kind) (unrecognized_no_longer place kept us every.1)
  where
    later : List Unrecognized
    later = filter (λ u. stands_in place u.kind) us

    by_place : (b : Bool) → Every (IsNoLonger kept) (map unrecognized_attribute later) → Every (IsNoLonger kept) (map unrecognized_attribute (cond b (u ∷ later) later))
    by_place true rest = (every.0, rest)
    by_place false rest = rest

if_reflects : {A : Type 0} (reflect : Bool) (o : Option A) (x : A) → cond reflect o None ≡ Some x → o ≡ Some x
if_reflects true o x e = e
if_reflects false o x e = absurd (cc)

length-identifiers : (count : ℕ) (octets : List ℕ) → length (numbers_at 4 count octets) ≡ count
length-identifiers zero octets = refl
length-identifiers (suc count) octets = ap suc (length-identifiers count (drop 4 octets))

-- the clusters have the octets that they were read from
length-clusters_read : (value : List ℕ) → has_wrong_size fours value ≡ false → length value ≡ length (flat_map (big_bytes 4) (clusters_at value))
length-clusters_read value right =
    let even : length value % 4 ≡ 0 = eqb-true _ _ (not_false _ (or_false_right (eqb (length value) 0) (not (eqb (length value % 4) 0)) right)) in
    omega (arith, even, length-numbers 4 (clusters_at value), length-identifiers (length value / 4) value)

clusters_held : (v6 : Bool) (p : Profile) (external : Bool) (bytes : List ℕ) (steps : List (Attribute × Verdict)) (runs : Bool) (hop : Option ℕ) (attrs : Attrs) → AreAttributes p external [] bytes steps runs → Octets bytes → AreAttrs p external (kept_by steps runs).0 hop attrs → IsReadable v6 p external attrs
    → (c : ℕ) (cs : List ℕ) → attrs.reflection.clusters ≡ c ∷ cs → (a : Attribute) × (kept_of 10 (kept_by steps runs).0 ≡ Some a) × (length a.value ≡ length (flat_map (big_bytes 4) (c ∷ cs)))
clusters_held v6 p external bytes steps runs hop attrs are octets is readable c cs e = by_reflect p.reflect (sym e ∙ is.clusters)
  where
    reads : reads_reflection p external ≡ true
    reads = (readable.clusters 0 c (omega (arith, ap length e))).0

    by_kept : (o : Option Attribute) → kept_of 10 (kept_by steps runs).0 ≡ o → c ∷ cs ≡ clusters_of o → (a : Attribute) × (kept_of 10 (kept_by steps runs).0 ≡ Some a) × (length a.value ≡ length (flat_map (big_bytes 4) (c ∷ cs)))
    by_kept None at same = absurd (omega (arith, ap length same))
    by_kept (Some a) at same =
        let g = good p external 10 a (record { optional = true; transitive = false; size = fours }) (rule_at_10 p external reads) (held p external bytes steps runs are octets 10 a at) in
        (a, at, length-clusters_read a.value g.size ∙ ap (λ ns. length (flat_map (big_bytes 4) ns)) (sym same))

    by_reflect : (b : Bool) → c ∷ cs ≡ cond b (clusters_of (kept_of 10 (kept_by steps runs).0)) [] → (a : Attribute) × (kept_of 10 (kept_by steps runs).0 ≡ Some a) × (length a.value ≡ length (flat_map (big_bytes 4) (c ∷ cs)))
    by_reflect true same = by_kept (kept_of 10 (kept_by steps runs).0) refl same
    by_reflect false same = absurd (omega (arith, ap length same))

-- what is said of the next hop and of the prefixes beside it: its attribute isn't shorter
abbrev pub HopNoLonger : Bool → List Attribute → ℕ → List AddressPrefix → Type 0
HopNoLonger v6 kept hop ps = Every (IsNoLonger kept) (hop_attributes v6 hop) × Every (IsNoLonger kept) (reach_attributes v6 hop ps)

sent_no_longer : (v6 : Bool) (p : Profile) (external : Bool) (bytes : List ℕ) (steps : List (Attribute × Verdict)) (runs : Bool) (hop : Option ℕ) (attrs : Attrs) (ps : List AddressPrefix) → AreAttributes p external [] bytes steps runs → Octets bytes
    → AreAttrs p external (kept_by steps runs).0 hop attrs → IsReadable v6 p external attrs → HopNoLonger v6 (kept_by steps runs).0 attrs.next_hop ps
    → Every (IsNoLonger (kept_by steps runs).0) (sent_attributes v6 p.as4 attrs ps)
unfolding rule_of
sent_no_longer v6 p external bytes steps runs hop attrs ps are octets is readable hops =
    let P = IsNoLonger kept in
    let u = unrecognized_attributes first attrs.unrecognized in
    let m = mandatory_attributes v6 p.as4 attrs in
    let f = further_attributes p.as4 attrs in
    let v = unrecognized_attributes middle attrs.unrecognized in
    let r = reflection_attributes attrs.reflection in
    let o = unrecognized_attributes inner attrs.unrecognized in
    let x = reach_attributes v6 attrs.next_hop ps in
    let w = unrecognized_attributes last attrs.unrecognized in
    let placed : (place : Place) → Every P (unrecognized_attributes place attrs.unrecognized) = λ place. unrecognized_no_longer place kept attrs.unrecognized unrecognized in
    every_append P (u ++ m ++ f ++ v ++ r ++ o ++ x) w
    (every_append P (u ++ m ++ f ++ v ++ r ++ o) x
    (every_append P (u ++ m ++ f ++ v ++ r) o
    (every_append P (u ++ m ++ f ++ v) r
    (every_append P (u ++ m ++ f) v (every_append P (u ++ m) f (every_append P u m (placed first) (origin, (path, hops.0))) further) (placed middle))
    (every_append P (optional (λ n. spelled 128 9 (big_bytes 4 n)) attrs.reflection.originator) (clusters_attributes attrs.reflection.clusters) (every_optional P (λ n. spelled 128 9 (big_bytes 4 n)) attrs.reflection.originator originator) (clusters attrs.reflection.clusters refl)))
    (placed inner))
    hops.1)
    (placed last)
  where
    kept : List Attribute
    kept = (kept_by steps runs).0

    sized : (kind n : ℕ) (optional transitive : Bool) → rule_of p external kind ≡ Some (record { optional = optional; transitive = transitive; size = fixed n }) → (a : Attribute) → kept_of kind (kept_by steps runs).0 ≡ Some a → length a.value ≡ n
    sized kind n optional transitive ruled a e =
        let r : TypeRule = record { optional = optional; transitive = transitive; size = fixed n } in
        right_size p.as4 r a n refl (good p external kind a r ruled (held p external bytes steps runs are octets kind a e))

    four : (kind flags n : ℕ) (optional transitive : Bool) → rule_of p external kind ≡ Some (record { optional = optional; transitive = transitive; size = fixed 4 }) → number_of kind (kept_by steps runs).0 ≡ Some n
        → IsNoLonger (kept_by steps runs).0 (spelled flags kind (big_bytes 4 n))
    four kind flags n optional transitive ruled e =
        let a = found_from (λ (a : Attribute). big_number 4 a.value) (kept_of kind (kept_by steps runs).0) n e in
        by_value (kept_by steps runs).0 flags kind (big_bytes 4 n) a.0 a.1 (sized kind 4 optional transitive ruled a.0 a.1)

    origin : IsNoLonger (kept_by steps runs).0 (spelled 64 1 (code_of_origin attrs.origin ∷ []))
    origin =
        let a = found_from (λ (a : Attribute). get_or a.value 0 0) (kept_of 1 (kept_by steps runs).0) (code_of_origin attrs.origin) is.origin in
        by_value (kept_by steps runs).0 64 1 (code_of_origin attrs.origin ∷ []) a.0 a.1 (sized 1 1 false true refl a.0 a.1)

    path : IsNoLonger (kept_by steps runs).0 (spelled 64 2 (path_octets (width_of p.as4) attrs.path))
    path =
        let a = some_in (kept_of 2 (kept_by steps runs).0) (λ a. IsPath (width_of p.as4) a.value attrs.path) is.path in
        by_value (kept_by steps runs).0 64 2 (path_octets (width_of p.as4) attrs.path) a.0 a.1 (length-path p.as4 a.0.value attrs.path a.2)

    local_pref : (b : Bool) (o : Option ℕ) (n : ℕ) → cond b None o ≡ Some n → o ≡ Some n
    local_pref true o n e = absurd (cc)
    local_pref false o n e = e

    atomic : attrs.atomic ≡ true → IsNoLonger (kept_by steps runs).0 (spelled 64 6 [])
    atomic e = there (kept_of 6 (kept_by steps runs).0) refl (sym is.atomic ∙ e)
      where
        there : (o : Option Attribute) → kept_of 6 (kept_by steps runs).0 ≡ o → is_some o ≡ true → IsNoLonger (kept_by steps runs).0 (spelled 64 6 [])
        there None at e = absurd (cc)
        there (Some a) at e = by_value (kept_by steps runs).0 64 6 [] a at (sized 6 0 false true refl a at)

    aggregator : (g : Aggregator) → attrs.aggregator ≡ Some g → IsNoLonger (kept_by steps runs).0 (spelled (aggregator_flags g.partial) 7 (aggregator_value p.as4 g))
    aggregator g e =
        let a = found_from (aggregator_of p.as4) (kept_of 7 (kept_by steps runs).0) g (sym is.aggregator ∙ e) in
        let size = sized 7 (cond p.as4 8 6) true true refl a.0 a.1 in
        let front = big_bytes (width_of p.as4) g.asn in
        let whole : length (aggregator_value p.as4 g) ≡ width_of p.as4 + 4 = omega (arith, length-append front (big_bytes 4 g.addr), length-bytes_high_first (width_of p.as4) g.asn) in
        by_value (kept_by steps runs).0 (aggregator_flags g.partial) 7 (aggregator_value p.as4 g) a.0 a.1 (size ∙ widths p.as4 ∙ sym whole)
      where
        widths : (b : Bool) → cond b 8 6 ≡ width_of b + 4
        widths true = refl
        widths false = refl

    originator : (n : ℕ) → attrs.reflection.originator ≡ Some n → IsNoLonger (kept_by steps runs).0 (spelled 128 9 (big_bytes 4 n))
    originator n e = four 9 128 n true false (rule_at_9 p external (readable.originator n e).0) (if_reflects p.reflect (number_of 9 (kept_by steps runs).0) n (sym is.originator ∙ e))

    clusters : (cs : List ℕ) → attrs.reflection.clusters ≡ cs → Every (IsNoLonger (kept_by steps runs).0) (clusters_attributes cs)
    clusters [] e = tt
    clusters (c ∷ cs) e = let h = clusters_held v6 p external bytes steps runs hop attrs are octets is readable c cs e in (by_value (kept_by steps runs).0 128 10 (flat_map (big_bytes 4) (c ∷ cs)) h.0 h.1 h.2, tt)

    unrecognized : Every (λ (u : Unrecognized). IsNoLonger (kept_by steps runs).0 (unrecognized_attribute u)) attrs.unrecognized
    unrecognized = each_type (λ (u : Unrecognized). IsNoLonger (kept_by steps runs).0 (unrecognized_attribute u)) 0 attrs.unrecognized is.unrecognized.order (λ u e.
        let k = unrecognized_held p external bytes steps runs are octets attrs.unrecognized is.unrecognized u.kind u.value e in
        by_value (kept_by steps runs).0 224 u.kind u.value k.1.0 k.1.1 (ap length k.1.2))

    further : Every (IsNoLonger (kept_by steps runs).0) (further_attributes p.as4 attrs)
    further =
        let P = IsNoLonger (kept_by steps runs).0 in
        every_append P _ _
        (every_append P _ _
        (every_append P _ _
        (every_optional P (λ n. spelled 128 4 (big_bytes 4 n)) attrs.med (λ n e. four 4 128 n true false refl (sym is.med ∙ e)))
        (every_optional P (λ n. spelled 64 5 (big_bytes 4 n)) attrs.local_pref (λ n e. four 5 64 n false true refl (local_pref external (number_of 5 (kept_by steps runs).0) n (sym is.local_pref ∙ e)))))
        (every_if P (spelled 64 6 []) attrs.atomic atomic))
        (every_optional P (λ g. spelled (aggregator_flags g.partial) 7 (aggregator_value p.as4 g)) attrs.aggregator aggregator)

value_within : (long : Bool) (n : ℕ) → n ≤ cond long 4 3 + n
value_within long n = omega arith

-- what was read fits the fields of the lengths
lengths_fit : (v6 : Bool) (p : Profile) (external : Bool) (bytes : List ℕ) (steps : List (Attribute × Verdict)) (runs : Bool) (hop : Option ℕ) (attrs : Attrs) → AreAttributes p external [] bytes steps runs → Octets bytes → AreAttrs p external (kept_by steps runs).0 hop attrs
    → IsReadable v6 p external attrs → length bytes < 65536 → FitLengths p.as4 attrs
lengths_fit v6 p external bytes steps runs hop attrs are octets is readable fits =
    let kept = (kept_by steps runs).0 in
    let whole = total_read p external [] bytes steps runs are octets in
    let s = some_in (kept_of 2 kept) (λ a. IsPath (width_of p.as4) a.value attrs.path) is.path in
    let path = weight_within 2 kept s.0 s.1 in
    record {
      path = omega (arith, length-path p.as4 s.0.value attrs.path s.2, path, value_within (is_long s.0.value) (length s.0.value));
      clusters = clusters attrs.reflection.clusters refl whole;
      unrecognized = every_all (λ (u : Unrecognized). length u.value < 65536) attrs.unrecognized (each_type (λ (u : Unrecognized). length u.value < 65536) 0 attrs.unrecognized is.unrecognized.order (λ u e.
          let k = unrecognized_held p external bytes steps runs are octets attrs.unrecognized is.unrecognized u.kind u.value e in
          omega (arith, weight_within u.kind kept k.1.0 k.1.1, value_within (is_long k.1.0.value) (length k.1.0.value), ap length k.1.2, whole, fits)));
    }
  where
    clusters : (cs : List ℕ) → attrs.reflection.clusters ≡ cs → total (kept_by steps runs).0 ≤ length bytes → length (flat_map (big_bytes 4) cs) < 65536
    clusters [] e whole = omega arith
    clusters (c ∷ cs) e whole =
        let h = clusters_held v6 p external bytes steps runs hop attrs are octets is readable c cs e in
        omega (arith, weight_within 10 (kept_by steps runs).0 h.0 h.1, value_within (is_long h.0.value) (length h.0.value), h.2, whole, fits)

-- NEXT_HOP has four octets as it was read, and MP_REACH_NLRI a next hop and a prefix
pub first_hop_no_longer : (p : Profile) (external : Bool) (bytes : List ℕ) (steps : List (Attribute × Verdict)) (runs : Bool) → AreAttributes p external [] bytes steps runs → Octets bytes → (n : ℕ) (ps : List AddressPrefix) → hop_of (kept_by steps runs).0 ≡ Some n → HopNoLonger false (kept_by steps runs).0 n ps
unfolding rule_of
first_hop_no_longer p external bytes steps runs are octets n ps e =
    let kept = (kept_by steps runs).0 in
    let r : TypeRule = record { optional = false; transitive = true; size = fixed 4 } in
    let a = found_from (λ (a : Attribute). hop_at a.value) (kept_of 3 kept) n e in
    let size = right_size p.as4 r a.0 4 refl (good p external 3 a.0 r refl (held p external bytes steps runs are octets 3 a.0 a.1)) in
    ((by_value kept 64 3 (big_bytes 4 (n / 2 ^ 96)) a.0 a.1 size, tt), tt)

-- an attribute whose value has at least so many octets
by_longer : (kept : List Attribute) (flags kind : ℕ) (value : List ℕ) (a : Attribute) → kept_of kind kept ≡ Some a → length value ≤ length a.value → length value ≤ 255 → IsNoLonger kept (spelled flags kind value)
by_longer kept flags kind value a found more few =
    let weighs : weight kind kept ≡ least a = ap (λ o. option_map_or least o 0) found in
    let short : ◌≡◌ {A = ℕ} (cond (is_long value) 4 3) 3 = ap (λ b. cond b 4 3) (le-ltb 255 (length value) few) in
    omega (arith, weighs, short, three (is_long a.value), length-spelled (is_long value) flags kind value)
  where
    three : (b : Bool) → 3 ≤ cond b 4 3
    three true = omega arith
    three false = omega arith

pub second_hop_no_longer : (kept : List Attribute) (a : Attribute) (r : Reach) (p : AddressPrefix) → kept_of 14 kept ≡ Some a → IsReach a.value r → r.announced ≡ p ∷ [] → HopNoLonger true kept r.next_hop (p ∷ [])
second_hop_no_longer kept a r p found is one =
    let are = subst (ArePrefixes true is.prefixes) one is.announces in
    let prefix : length is.prefixes ≡ 1 + octets_for p.length = one_announced true is.prefixes p are in
    let sent : length (prefixes_octets (p ∷ [])) ≡ 1 + octets_for p.length = one_length p (omega (arith, are.3.short)) in
    let whole = length-reach-value r.next_hop (p ∷ []) in
    let few : length (prefixes_octets (p ∷ [])) ≤ 17 = few_octets (p ∷ []) (omega arith) in
    (tt, (by_longer kept 128 14 (reach_value r.next_hop (p ∷ [])) a found (omega (arith, whole, sent, prefix, ap length is.spelled, length-append is.hop (is.reserved ∷ is.prefixes), sixteen (length is.hop) is.size)) (omega (arith, whole, few)), tt))
  where
    sixteen : (n : ℕ) → HopLength n → 16 ≤ n
    sixteen n size = elim size [
      | inl e ↦ omega (arith, e)
      | inr e ↦ omega (arith, e)
    ]

-- the attributes that are sent are no longer than those that were read
pub attributes_no_longer : (v6 : Bool) (p : Profile) (external : Bool) (bytes : List ℕ) (steps : List (Attribute × Verdict)) (runs : Bool) (hop : Option ℕ) (attrs : Attrs) (ps : List AddressPrefix) → AreAttributes p external [] bytes steps runs → Octets bytes
    → AreAttrs p external (kept_by steps runs).0 hop attrs → IsReadable v6 p external attrs → length bytes < 65536 → HopNoLonger v6 (kept_by steps runs).0 attrs.next_hop ps → IsSpoken p v6 ps
    → length (octets_of (sent_attributes v6 p.as4 attrs ps)) ≤ length bytes
attributes_no_longer v6 p external bytes steps runs hop attrs ps are octets is readable fits hops spoken =
    let kept = (kept_by steps runs).0 in
    let sent = sent_attributes v6 p.as4 attrs ps in
    let sound = sound_sent p external v6 attrs readable (lengths_fit v6 p external bytes steps runs hop attrs are octets is readable fits) ps spoken in
    omega (
      arith,
      no_longer sent kept (sent_no_longer v6 p external bytes steps runs hop attrs ps are octets is readable hops),
      within_total 0 sent kept (ascends p external 0 sound.0 sent sound.1),
      total_read p external [] bytes steps runs are octets,
    )
