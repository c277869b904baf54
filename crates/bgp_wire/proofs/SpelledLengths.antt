-- How long the octets are that are sent, piece by piece.
use Rattle.std.proofs.Common.{◌≡◌, ℕ, ◌+◌, ◌*◌, ◌/◌, ◌%◌, ◌<◌, ◌≤◌, Bool, true, false, cond, eqb, ltb, not, ◌||◌, ◌&&◌, List, [], ◌∷◌, ◌++◌, length, take, map, refl, ap, ◌∙◌, append_assoc, arith}
use Rattle.std.specs.Prelude.{filter}
use Rattle.std.specs.List.{flat_map}
use Rattle.std.proofs.lemmas.Bool.{eqb-true, le-ltb}
use Rattle.std.proofs.lemmas.List.{length-append, length-take}
use Rattle.std.proofs.lemmas.Grind.{flat_map-append}
use Rattle.byteorder.specs.Endian.{big_bytes}
use Rattle.byteorder.specs.Numbers.{length-bytes_high_first}
use Rattle.addr4.specs.Prefixes.{AddressPrefix}
use Rattle.bgp_attr.specs.Attributes.{Attrs}
use Rattle.bgp_attr.specs.declared.path.Segment.{Segment}
use Rattle.bgp_attr.specs.declared.unrecognized.Unrecognized.{Unrecognized}
use Rattle.bgp_wire.specs.declared.writing.attributes.Place.TheVariants.{First, Middle, Inner, Last}
use Rattle.bgp_wire.specs.Prefixes.{octets_for}
use Rattle.bgp_wire.specs.Attributes.{Attribute}
use Rattle.bgp_wire.specs.Spelling.{segment_octets, is_long, spelled_octets, spelled, unrecognized_attribute, unrecognized_attributes, mandatory_attributes, further_attributes, clusters_attributes, reflection_attributes, reach_value, reach_attributes, sent_attributes, octets_of, framed, fields_octets, prefix_octets, prefixes_octets, unreach_value, unreach_octets}
use Rattle.bgp_wire.specs.Lengths.{spelled_length, attributes_length, announcement_length}

pub length-numbers : (width : ℕ) (ns : List ℕ) → length (flat_map (big_bytes width) ns) ≡ length ns * width
length-numbers width [] = omega arith
length-numbers width (n ∷ ns) = omega (arith, length-append (big_bytes width n) (flat_map (big_bytes width) ns), length-bytes_high_first width n, length-numbers width ns)

pub length-segment : (width : ℕ) (s : Segment) (count : ℕ) → count ≡ length s.numbers → 2 + count * width ≡ length (segment_octets width s)
length-segment width s count e = rw e (omega (arith, length-numbers width s.numbers))

pub octets-append : (xs ys : List Attribute) → octets_of (xs ++ ys) ≡ octets_of xs ++ octets_of ys
octets-append xs ys = flat_map-append (λ (a : Attribute). a.octets) xs ys

pub length-octets-append : (xs ys : List Attribute) → length (octets_of (xs ++ ys)) ≡ length (octets_of xs) + length (octets_of ys)
length-octets-append xs ys = ap length (octets-append xs ys) ∙ length-append (octets_of xs) (octets_of ys)

-- four lists of attributes one after the other, as further_attributes is
pub length-four : (a b c d : List Attribute) → length (octets_of (a ++ b ++ c ++ d)) ≡ length (octets_of a) + length (octets_of b) + length (octets_of c) + length (octets_of d)
length-four a b c d = omega (arith, length-octets-append (a ++ b ++ c) d, length-octets-append (a ++ b) c, length-octets-append a b)

-- ---- attributes

pub length-spelled : (long : Bool) (flags kind : ℕ) (value : List ℕ) → length (spelled_octets long flags kind value) ≡ cond long 4 3 + length value
length-spelled true flags kind value = omega (arith, length-append (big_bytes 2 (length value)) value)
length-spelled false flags kind value = omega arith

pub length-first : (a : Attribute) (rest : List Attribute) → length (octets_of (a ∷ rest)) ≡ length a.octets + length (octets_of rest)
length-first a rest = length-append a.octets (octets_of rest)

spelled_size : (long : Bool) (n : ℕ) → cond long (n + 4) (n + 3) ≡ cond long 4 3 + n
spelled_size true n = omega arith
spelled_size false n = omega arith

pub length-clusters : (cs : List ℕ) (size : ℕ) → size ≡ 4 * length cs → 0 < size → spelled_length size ≡ length (octets_of (clusters_attributes cs))
length-clusters [] size e some = absurd (omega arith)
length-clusters (c ∷ cs) size e some =
    let value = flat_map (big_bytes 4) (c ∷ cs) in
    let all : size ≡ length value = omega (arith, length-numbers 4 (c ∷ cs)) in
    ap spelled_length all
    ∙ omega (arith, spelled_size (is_long value) (length value), length-spelled (is_long value) 128 10 value, length-first (spelled 128 10 value) [])

-- each unrecognized attribute stands in one place
pub length-places : (us : List Unrecognized)
    → length (octets_of (unrecognized_attributes First us)) + length (octets_of (unrecognized_attributes Middle us)) + length (octets_of (unrecognized_attributes Inner us)) + length (octets_of (unrecognized_attributes Last us)) ≡ length (octets_of (map unrecognized_attribute us))
length-places [] = refl
length-places (u ∷ us) = by_tests (eqb u.kind 0) refl (eqb u.kind 8) refl (ltb u.kind 14) (length-places us)
  where
    all : List Attribute
    all = map unrecognized_attribute us

    in_place : Bool → List Unrecognized → ℕ
    in_place here others = length (octets_of (map unrecognized_attribute (cond here (u ∷ others) others)))

    put : (others : List Unrecognized) → in_place true others ≡ length (unrecognized_attribute u).octets + length (octets_of (map unrecognized_attribute others))
    put others = length-first (unrecognized_attribute u) (map unrecognized_attribute others)

    firsts : List Unrecognized
    firsts = filter (λ u. eqb u.kind 0) us

    middles : List Unrecognized
    middles = filter (λ u. eqb u.kind 8) us

    inners : List Unrecognized
    inners = filter (λ u. not (eqb u.kind 0 || eqb u.kind 8) && ltb u.kind 14) us

    lasts : List Unrecognized
    lasts = filter (λ u. not (eqb u.kind 0 || eqb u.kind 8) && not (ltb u.kind 14)) us

    by_tests : (a : Bool) → eqb u.kind 0 ≡ a → (b : Bool) → eqb u.kind 8 ≡ b → (c : Bool)
        → length (octets_of (unrecognized_attributes First us)) + length (octets_of (unrecognized_attributes Middle us)) + length (octets_of (unrecognized_attributes Inner us)) + length (octets_of (unrecognized_attributes Last us)) ≡ length (octets_of (map unrecognized_attribute us))
        → in_place a firsts + in_place b middles + in_place (not (a || b) && c) inners + in_place (not (a || b) && not c) lasts ≡ length (octets_of (map unrecognized_attribute (u ∷ us)))
    by_tests true e true f c later = absurd (omega (arith, eqb-true _ _ e, eqb-true _ _ f))
    by_tests true e false f c later = omega (arith, put firsts, length-first (unrecognized_attribute u) all, later)
    by_tests false e true f c later = omega (arith, put middles, length-first (unrecognized_attribute u) all, later)
    by_tests false e false f true later = omega (arith, put inners, length-first (unrecognized_attribute u) all, later)
    by_tests false e false f false later = omega (arith, put lasts, length-first (unrecognized_attribute u) all, later)

pub length-sent : (v6 as4 : Bool) (a : Attrs) (ps : List AddressPrefix) → length (octets_of (sent_attributes v6 as4 a ps))
    ≡ length (octets_of (map unrecognized_attribute a.unrecognized)) + length (octets_of (mandatory_attributes v6 as4 a)) + length (octets_of (further_attributes as4 a)) + length (octets_of (reflection_attributes a.reflection)) + length (octets_of (reach_attributes v6 a.next_hop ps))
length-sent v6 as4 a ps =
    let u = unrecognized_attributes First a.unrecognized in
    let m = mandatory_attributes v6 as4 a in
    let f = further_attributes as4 a in
    let v = unrecognized_attributes Middle a.unrecognized in
    let r = reflection_attributes a.reflection in
    let i = unrecognized_attributes Inner a.unrecognized in
    let x = reach_attributes v6 a.next_hop ps in
    let w = unrecognized_attributes Last a.unrecognized in
    omega (
      arith,
      length-octets-append (u ++ m ++ f ++ v ++ r ++ i ++ x) w,
      length-octets-append (u ++ m ++ f ++ v ++ r ++ i) x,
      length-octets-append (u ++ m ++ f ++ v ++ r) i,
      length-octets-append (u ++ m ++ f ++ v) r,
      length-octets-append (u ++ m ++ f) v,
      length-octets-append (u ++ m) f,
      length-octets-append u m,
      length-places a.unrecognized,
    )

-- ---- prefixes

short_prefix : (p : AddressPrefix) → length (take (octets_for p.length) (big_bytes 16 p.address)) ≤ 16
short_prefix p = omega (arith, length-take (octets_for p.length) (big_bytes 16 p.address), length-bytes_high_first 16 p.address)

pub alone : (p : AddressPrefix) → length (prefix_octets p ++ []) ≤ 17
alone p = omega (arith, length-append (prefix_octets p) [], short_prefix p)

-- of one prefix at most
pub few_octets : (ps : List AddressPrefix) → length ps ≤ 1 → length (prefixes_octets ps) ≤ 17
few_octets [] few = omega arith
few_octets (p ∷ []) few = alone p
few_octets (p ∷ q ∷ ps) few = absurd (omega arith)

length-short : (kind : ℕ) (value : List ℕ) → length value ≤ 255 → length (spelled 128 kind value).octets ≡ 3 + length value
length-short kind value few = length-spelled (is_long value) 128 kind value ∙ ap (λ b. cond b 4 3 + length value) (le-ltb 255 (length value) few)

pub length-reach-value : (hop : ℕ) (ps : List AddressPrefix) → length (reach_value hop ps) ≡ 21 + length (prefixes_octets ps)
length-reach-value hop ps = omega (arith, length-append (big_bytes 16 hop) (0 ∷ prefixes_octets ps), length-bytes_high_first 16 hop)

-- MP_REACH_NLRI with one prefix at most
pub length-reach : (hop : ℕ) (ps : List AddressPrefix) → length ps ≤ 1 → length (octets_of (reach_attributes true hop ps)) ≡ 24 + length (prefixes_octets ps)
length-reach hop ps few =
    let value = reach_value hop ps in
    let size = length-reach-value hop ps in
    omega (arith, length-first (spelled 128 14 value) [], length-short 14 value (omega (arith, size, few_octets ps few)), size)

-- and MP_UNREACH_NLRI
pub length-unreach : (p : AddressPrefix) → length (unreach_octets true (p ∷ [])) ≡ 6 + length (prefixes_octets (p ∷ []))
length-unreach p = omega (arith, length-short 15 (unreach_value (p ∷ [])) (omega (arith, alone p)))

-- what a prefix adds to the attributes
pub length-sent-with : (v6 as4 : Bool) (a : Attrs) (ps : List AddressPrefix) → length ps ≤ 1 → length (octets_of (sent_attributes v6 as4 a ps)) ≡ length (octets_of (sent_attributes v6 as4 a [])) + cond v6 (length (prefixes_octets ps)) 0
length-sent-with false as4 a ps few = omega arith
length-sent-with true as4 a ps few = omega (arith, length-sent true as4 a ps, length-sent true as4 a [], length-reach a.next_hop ps few, length-reach a.next_hop [] (omega arith))

-- ---- messages

pub length-framed : (kind : ℕ) (body : List ℕ) → length (framed kind body) ≡ 19 + length body
length-framed kind body = omega arith

pub fields_parts : (w a n : List ℕ) → fields_octets w a n ≡ (length w / 256 % 256) ∷ (length w % 256) ∷ (w ++ ((length a / 256 % 256) ∷ (length a % 256) ∷ (a ++ n)))
fields_parts w a n = simp append_assoc

pub length-fields : (w a n : List ℕ) → length (fields_octets w a n) ≡ 4 + length w + length a + length n
length-fields w a n = omega (arith, ap length (fields_parts w a n), length-append w ((length a / 256 % 256) ∷ (length a % 256) ∷ (a ++ n)), length-append a n)

pub length-announcement : (v6 as4 : Bool) (n : AddressPrefix) (a : Attrs) → announcement_length v6 as4 n a ≡ 23 + length (prefix_octets n) + attributes_length v6 as4 a
unfolding announcement_length attributes_length
length-announcement false as4 n a =
    let octets = octets_of (sent_attributes false as4 a []) in
    omega (arith, length-framed 2 (fields_octets [] octets (prefixes_octets (n ∷ []))), length-fields [] octets (prefixes_octets (n ∷ [])), length-append (prefix_octets n) [])
length-announcement true as4 n a =
    let octets = octets_of (sent_attributes true as4 a (n ∷ [])) in
    omega (arith, length-framed 2 (fields_octets [] octets []), length-fields [] octets [], length-append (prefix_octets n) [], length-sent-with true as4 a (n ∷ []) (omega arith))
