-- What is written of a route's attributes says of the route what they are.
use Rattle.std.proofs.Common.{◌≡◌, ℕ, ◌+◌, ◌/◌, ◌%◌, ◌^◌, ◌<◌, Bool, true, false, cond, eqb, ltb, not, ◌||◌, ◌&&◌, List, [], ◌∷◌, ◌++◌, length, drop, map, get_or, Option, Some, None, refl, sym, ap, subst, ◌∙◌, arith}
use Rattle.std.specs.Prelude.{All, filter, is_some, option_map, IsSomeAnd}
use Rattle.std.specs.List.{flat_map}
use Rattle.std.specs.Option.{ForSome}
use Rattle.std.proofs.lemmas.Bool.{eqb-true}
use Rattle.std.proofs.lemmas.List.{drop_at}
use Rattle.byteorder.specs.Endian.{big_number, big_bytes}
use Rattle.byteorder.specs.Numbers.{big_number-reads_back, length-bytes_high_first}
use Rattle.addr4.specs.Prefixes.{AddressPrefix}
use Rattle.bgp_attr.specs.declared.attrs.Aggregator.{Aggregator}
use Rattle.bgp_attr.specs.Attributes.{Attrs}
use Rattle.bgp_attr.specs.declared.speaker.Profile.{Profile}
use Rattle.bgp_attr.specs.declared.unrecognized.Unrecognized.{Unrecognized}
use Rattle.bgp_attr.specs.Reflections.{Reflected}
use Rattle.bgp_wire.proofs.JudgedTypes.{Place, first, middle, inner, last}
use Rattle.bgp_wire.specs.Paths.{width_of, numbers_at, IsPath}
use Rattle.bgp_wire.specs.Attributes.{Attribute, hop_at, is_reflection}
use Rattle.bgp_wire.specs.Routes.{kept_of, hop_of, code_of_origin, aggregator_of, clusters_of, is_unrecognized, value_of, AreUnrecognized, AreAttrs}
use Rattle.bgp_wire.specs.Updates.{has_kind}
use Rattle.bgp_wire.specs.Spelling.{path_octets, is_long, spelled, optional, aggregator_value, aggregator_flags, stands_in, unrecognized_attribute, unrecognized_attributes, mandatory_attributes, further_attributes, clusters_attributes, reflection_attributes, hop_attributes, reach_value, reach_attributes, sent_attributes}
use Rattle.bgp_wire.specs.Readable.{IsReadable, Speaks}
use Rattle.bgp_wire.proofs.TestLemmas.{unequal, not_both}
use Rattle.wire_laws.proofs.SpelledNumbers.{all_first, all_later, numbers_again, spelled_path}
use Rattle.wire_laws.proofs.SpelledAttributes.{hop_back, not_spoken, nothing_added, nothing_reflected}
use Rattle.bgp_wire.proofs.SpelledLengths.{length-numbers}
use Rattle.bgp_wire.proofs.TypeLaws.{GoodType, other_type}

-- the first that is there
abbrev pub first_some : {A : Type 0} → Option A → Option A → Option A
first_some None o = o
first_some (Some x) o = Some x

none_right : {A : Type 0} (o : Option A) → first_some o None ≡ o
none_right None = refl
none_right (Some x) = refl

kept_append : (kind : ℕ) (xs ys : List Attribute) → kept_of kind (xs ++ ys) ≡ first_some (kept_of kind xs) (kept_of kind ys)
kept_append kind [] ys = refl
kept_append kind (x ∷ xs) ys = elim (eqb x.kind kind) as (λ b. cond b (Some x) (kept_of kind (xs ++ ys)) ≡ first_some (cond b (Some x) (kept_of kind xs)) (kept_of kind ys)) [
  | true ↦ refl
  | false ↦ kept_append kind xs ys
]

-- what the other part has nothing of
skip_left : (kind : ℕ) (xs ys : List Attribute) → kept_of kind xs ≡ None → kept_of kind (xs ++ ys) ≡ kept_of kind ys
skip_left kind xs ys none = kept_append kind xs ys ∙ ap (λ o. first_some o (kept_of kind ys)) none

skip_right : (kind : ℕ) (xs ys : List Attribute) → kept_of kind ys ≡ None → kept_of kind (xs ++ ys) ≡ kept_of kind xs
skip_right kind xs ys none = kept_append kind xs ys ∙ ap (first_some (kept_of kind xs)) none ∙ none_right (kept_of kind xs)

skip_both : (kind : ℕ) (xs ys : List Attribute) → kept_of kind xs ≡ None → kept_of kind ys ≡ None → kept_of kind (xs ++ ys) ≡ None
skip_both kind xs ys none also = skip_left kind xs ys none ∙ also

-- the first of four
abbrev pub Pieces : Option Attribute → Option Attribute → Option Attribute → Option Attribute → Option Attribute
Pieces a b c d = first_some (first_some (first_some a b) c) d

only_first : (a b c d : Option Attribute) → b ≡ None → c ≡ None → d ≡ None → Pieces a b c d ≡ a
only_first a b c d eb ec ed = ap (λ o. Pieces a o c d) eb ∙ ap (λ o. Pieces a None o d) ec ∙ ap (λ o. Pieces a None None o) ed ∙ none_right _ ∙ none_right _ ∙ none_right _

only_second : (a b c d : Option Attribute) → a ≡ None → c ≡ None → d ≡ None → Pieces a b c d ≡ b
only_second a b c d ea ec ed = ap (λ o. Pieces o b c d) ea ∙ ap (λ o. Pieces None b o d) ec ∙ ap (λ o. Pieces None b None o) ed ∙ none_right _ ∙ none_right _

only_third : (a b c d : Option Attribute) → a ≡ None → b ≡ None → d ≡ None → Pieces a b c d ≡ c
only_third a b c d ea eb ed = ap (λ o. Pieces o b c d) ea ∙ ap (λ o. Pieces None o c d) eb ∙ ap (λ o. Pieces None None c o) ed ∙ none_right _

only_fourth : (a b c d : Option Attribute) → a ≡ None → b ≡ None → c ≡ None → Pieces a b c d ≡ d
only_fourth a b c d ea eb ec = ap (λ o. Pieces o b c d) ea ∙ ap (λ o. Pieces None o c d) eb ∙ ap (λ o. Pieces None None o d) ec

-- ---- the unrecognized ones

-- where no attribute of a place is of the type
not_in_place : (place : Place) (kind : ℕ) (us : List Unrecognized) → All (λ (u : Unrecognized). stands_in place u.kind ≡ true → eqb u.kind kind ≡ false) us → kept_of kind (unrecognized_attributes place us) ≡ None
not_in_place place kind [] others = refl
not_in_place place kind (u ∷ us) others =
    by_place (stands_in place u.kind) refl (not_in_place place kind us (all_later (λ (u : Unrecognized). stands_in place u.kind ≡ true → eqb u.kind kind ≡ false) u us others))
  where
    later : List Unrecognized
    later = filter (λ u. stands_in place u.kind) us

    by_place : (b : Bool) → stands_in place u.kind ≡ b → kept_of kind (map unrecognized_attribute later) ≡ None → kept_of kind (map unrecognized_attribute (cond b (u ∷ later) later)) ≡ None
    by_place true here none =
        ap (λ b. cond b (Some (unrecognized_attribute u)) (kept_of kind (map unrecognized_attribute later))) (all_first (λ (u : Unrecognized). stands_in place u.kind ≡ true → eqb u.kind kind ≡ false) u us others here) ∙ none
    by_place false here none = none

-- they are of no recognized type
no_recognized : (p : Profile) (place : Place) (kind : ℕ) (us : List Unrecognized) → All (GoodType p) us → is_unrecognized p kind ≡ false → kept_of kind (unrecognized_attributes place us) ≡ None
no_recognized p place kind us good known = not_in_place place kind us (λ k d lt here. other_type p _ kind (good k d lt).0 known)

-- a type stands in one place
other_place : (place : Place) (kind : ℕ) (us : List Unrecognized) → stands_in place kind ≡ false → kept_of kind (unrecognized_attributes place us) ≡ None
other_place place kind us elsewhere = not_in_place place kind us (λ k d lt here. unequal _ kind (λ e. not_both (stands_in place kind) (ap (stands_in place) (sym e) ∙ here) elsewhere))

same_place : (place : Place) (kind : ℕ) (us : List Unrecognized) → stands_in place kind ≡ true → option_map (λ a. a.value) (kept_of kind (unrecognized_attributes place us)) ≡ value_of kind us
same_place place kind [] here = refl
same_place place kind (u ∷ us) here = by_place (stands_in place u.kind) refl (same_place place kind us here)
  where
    later : List Unrecognized
    later = filter (λ u. stands_in place u.kind) us

    by_kind : (b : Bool) → option_map (λ a. a.value) (kept_of kind (map unrecognized_attribute later)) ≡ value_of kind us
        → option_map (λ a. a.value) (cond b (Some (unrecognized_attribute u)) (kept_of kind (map unrecognized_attribute later))) ≡ cond b (Some u.value) (value_of kind us)
    by_kind true same = refl
    by_kind false same = same

    by_place : (b : Bool) → stands_in place u.kind ≡ b → option_map (λ a. a.value) (kept_of kind (map unrecognized_attribute later)) ≡ value_of kind us
        → option_map (λ a. a.value) (kept_of kind (map unrecognized_attribute (cond b (u ∷ later) later))) ≡ value_of kind (u ∷ us)
    by_place true stands same = by_kind (eqb u.kind kind) same
    by_place false stands same =
        let apart = unequal u.kind kind (λ e. not_both (stands_in place u.kind) (ap (stands_in place) e ∙ here) stands) in
        same ∙ sym (ap (λ b. cond b (Some u.value) (value_of kind us)) apart)

-- what the places have of a type
abbrev pub in_places : ℕ → List Unrecognized → Option Attribute
in_places kind us =
    Pieces (kept_of kind (unrecognized_attributes first us)) (kept_of kind (unrecognized_attributes middle us)) (kept_of kind (unrecognized_attributes inner us)) (kept_of kind (unrecognized_attributes last us))

-- the value of a type, in whichever place it stands
one_place : (kind : ℕ) (us : List Unrecognized) → option_map (λ a. a.value) (in_places kind us) ≡ value_of kind us
one_place kind us = by_tests (eqb kind 0) refl (eqb kind 8) refl (ltb kind 14) refl
  where
    value : Option Attribute → Option (List ℕ)
    value o = option_map (λ a. a.value) o

    others : (b c : Bool) → (eqb kind 0 || eqb kind 8) ≡ b → ltb kind 14 ≡ c → (stands_in inner kind ≡ (not b && c)) × (stands_in last kind ≡ (not b && not c))
    others b c e f = (λ i. not (e i) && f i, λ i. not (e i) && not (f i))

    by_tests : (a : Bool) → eqb kind 0 ≡ a → (b : Bool) → eqb kind 8 ≡ b → (c : Bool) → ltb kind 14 ≡ c → value (in_places kind us) ≡ value_of kind us
    by_tests true e true g c h = absurd (omega (arith, eqb-true _ _ e, eqb-true _ _ g))
    by_tests true e false g c h =
        let o = others true c (λ i. e i || g i) h in
        ap value (only_first _ _ _ _ (other_place middle kind us g) (other_place inner kind us o.0) (other_place last kind us o.1)) ∙ same_place first kind us e
    by_tests false e true g c h =
        let o = others true c (λ i. e i || g i) h in
        ap value (only_second _ _ _ _ (other_place first kind us e) (other_place inner kind us o.0) (other_place last kind us o.1)) ∙ same_place middle kind us g
    by_tests false e false g true h =
        let o = others false true (λ i. e i || g i) h in
        ap value (only_third _ _ _ _ (other_place first kind us e) (other_place middle kind us g) (other_place last kind us o.1)) ∙ same_place inner kind us o.0
    by_tests false e false g false h =
        let o = others false false (λ i. e i || g i) h in
        ap value (only_fourth _ _ _ _ (other_place first kind us e) (other_place middle kind us g) (other_place inner kind us o.0)) ∙ same_place last kind us o.1

-- ---- the recognized ones

kept_optional : {A : Type 0} (kind : ℕ) (f : A → Attribute) (o : Option A) → ((x : A) → eqb (f x).kind kind ≡ true) → kept_of kind (optional f o) ≡ option_map f o
kept_optional kind f None same = refl
kept_optional kind f (Some x) same = ap (λ b. cond b (Some (f x)) None) (same x)

no_optional : {A : Type 0} (kind : ℕ) (f : A → Attribute) (o : Option A) → ((x : A) → eqb (f x).kind kind ≡ false) → kept_of kind (optional f o) ≡ None
no_optional kind f None other = refl
no_optional kind f (Some x) other = ap (λ b. cond b (Some (f x)) None) (other x)

no_if : (kind : ℕ) (a : Attribute) (b : Bool) → eqb a.kind kind ≡ false → kept_of kind (cond b (a ∷ []) []) ≡ None
no_if kind a true other = ap (λ b. cond b (Some a) None) other
no_if kind a false other = refl

abbrev pub med_of : ℕ → Attribute
med_of n = spelled 128 4 (big_bytes 4 n)

abbrev pub local_pref_of : ℕ → Attribute
local_pref_of n = spelled 64 5 (big_bytes 4 n)

abbrev pub atomic_one : Attribute
atomic_one = spelled 64 6 []

abbrev pub aggregator_by : Bool → Aggregator → Attribute
aggregator_by as4 g = spelled (aggregator_flags g.partial) 7 (aggregator_value as4 g)

further_pieces : (as4 : Bool) (kind : ℕ) (a : Attrs) → kept_of kind (further_attributes as4 a)
    ≡ Pieces (kept_of kind (optional med_of a.med)) (kept_of kind (optional local_pref_of a.local_pref)) (kept_of kind (cond a.atomic (atomic_one ∷ []) [])) (kept_of kind (optional (aggregator_by as4) a.aggregator))
further_pieces as4 kind a =
    let m = optional med_of a.med in
    let l = optional local_pref_of a.local_pref in
    let t : List Attribute = cond a.atomic (atomic_one ∷ []) [] in
    let g = optional (aggregator_by as4) a.aggregator in
    kept_append kind ((m ++ l) ++ t) g
    ∙ ap (λ o. first_some o (kept_of kind g)) (kept_append kind (m ++ l) t ∙ ap (λ o. first_some o (kept_of kind t)) (kept_append kind m l))

further_4 : (as4 : Bool) (a : Attrs) → kept_of 4 (further_attributes as4 a) ≡ option_map med_of a.med
further_4 as4 a =
    further_pieces as4 4 a
    ∙ only_first _ _ _ _ (no_optional 4 local_pref_of a.local_pref (λ x. refl)) (no_if 4 atomic_one a.atomic refl) (no_optional 4 (aggregator_by as4) a.aggregator (λ x. refl))
    ∙ kept_optional 4 med_of a.med (λ x. refl)

further_5 : (as4 : Bool) (a : Attrs) → kept_of 5 (further_attributes as4 a) ≡ option_map local_pref_of a.local_pref
further_5 as4 a =
    further_pieces as4 5 a
    ∙ only_second _ _ _ _ (no_optional 5 med_of a.med (λ x. refl)) (no_if 5 atomic_one a.atomic refl) (no_optional 5 (aggregator_by as4) a.aggregator (λ x. refl))
    ∙ kept_optional 5 local_pref_of a.local_pref (λ x. refl)

further_6 : (as4 : Bool) (a : Attrs) → is_some (kept_of 6 (further_attributes as4 a)) ≡ a.atomic
further_6 as4 a =
    ap is_some (further_pieces as4 6 a
    ∙ only_third _ _ _ _ (no_optional 6 med_of a.med (λ x. refl)) (no_optional 6 local_pref_of a.local_pref (λ x. refl)) (no_optional 6 (aggregator_by as4) a.aggregator (λ x. refl)))
    ∙ there a.atomic
  where
    there : (b : Bool) → is_some (kept_of 6 (cond b (atomic_one ∷ []) [])) ≡ b
    there true = refl
    there false = refl

further_7 : (as4 : Bool) (a : Attrs) → kept_of 7 (further_attributes as4 a) ≡ option_map (aggregator_by as4) a.aggregator
further_7 as4 a =
    further_pieces as4 7 a
    ∙ only_fourth _ _ _ _ (no_optional 7 med_of a.med (λ x. refl)) (no_optional 7 local_pref_of a.local_pref (λ x. refl)) (no_if 7 atomic_one a.atomic refl)
    ∙ kept_optional 7 (aggregator_by as4) a.aggregator (λ x. refl)

-- what reflectors added

abbrev pub originator_of : ℕ → Attribute
originator_of n = spelled 128 9 (big_bytes 4 n)

no_clusters : (kind : ℕ) (cs : List ℕ) → eqb 10 kind ≡ false → kept_of kind (clusters_attributes cs) ≡ None
no_clusters kind [] other = refl
no_clusters kind (c ∷ cs) other = ap (λ b. cond b (Some (spelled 128 10 (flat_map (big_bytes 4) (c ∷ cs)))) None) other

no_reflected : (kind : ℕ) (r : Reflected) → eqb 9 kind ≡ false → eqb 10 kind ≡ false → kept_of kind (reflection_attributes r) ≡ None
no_reflected kind r nine ten = skip_both kind (optional originator_of r.originator) (clusters_attributes r.clusters) (no_optional kind originator_of r.originator (λ x. nine)) (no_clusters kind r.clusters ten)

reflected_9 : (r : Reflected) → kept_of 9 (reflection_attributes r) ≡ option_map originator_of r.originator
reflected_9 r = skip_right 9 (optional originator_of r.originator) (clusters_attributes r.clusters) (no_clusters 9 r.clusters refl) ∙ kept_optional 9 originator_of r.originator (λ x. refl)

reflected_10 : (r : Reflected) → kept_of 10 (reflection_attributes r) ≡ kept_of 10 (clusters_attributes r.clusters)
reflected_10 r = skip_left 10 (optional originator_of r.originator) (clusters_attributes r.clusters) (no_optional 10 originator_of r.originator (λ x. refl))

-- ---- the parts of all

-- what has the next hop
no_hop : (v6 : Bool) (kind hop : ℕ) → eqb 3 kind ≡ false → kept_of kind (hop_attributes v6 hop) ≡ None
no_hop true kind hop other = refl
no_hop false kind hop other = ap (λ b. cond b (Some (spelled 64 3 (big_bytes 4 (hop / 2 ^ 96)))) None) other

no_reach : (v6 : Bool) (kind hop : ℕ) (ps : List AddressPrefix) → eqb 14 kind ≡ false → kept_of kind (reach_attributes v6 hop ps) ≡ None
no_reach false kind hop ps other = refl
no_reach true kind hop ps other = ap (λ b. cond b (Some (spelled 128 14 (reach_value hop ps))) None) other

-- those of a recognized type, but for what reflectors added, and MP_REACH_NLRI
recognized_at : (p : Profile) (v6 : Bool) (kind : ℕ) (a : Attrs) (ps : List AddressPrefix) → All (GoodType p) a.unrecognized → is_unrecognized p kind ≡ false → eqb 9 kind ≡ false → eqb 10 kind ≡ false → eqb 14 kind ≡ false
    → kept_of kind (sent_attributes v6 p.as4 a ps) ≡ first_some (kept_of kind (mandatory_attributes v6 p.as4 a)) (kept_of kind (further_attributes p.as4 a))
recognized_at p v6 kind a ps good known nine ten fourteen =
    let u = unrecognized_attributes first a.unrecognized in
    let m = mandatory_attributes v6 p.as4 a in
    let f = further_attributes p.as4 a in
    let v = unrecognized_attributes middle a.unrecognized in
    let r = reflection_attributes a.reflection in
    let o = unrecognized_attributes inner a.unrecognized in
    let x = reach_attributes v6 a.next_hop ps in
    let w = unrecognized_attributes last a.unrecognized in
    let none : (place : Place) → kept_of kind (unrecognized_attributes place a.unrecognized) ≡ None = λ place. no_recognized p place kind a.unrecognized good known in
    skip_right kind (u ++ m ++ f ++ v ++ r ++ o ++ x) w (none last)
    ∙ skip_right kind (u ++ m ++ f ++ v ++ r ++ o) x (no_reach v6 kind a.next_hop ps fourteen)
    ∙ skip_right kind (u ++ m ++ f ++ v ++ r) o (none inner)
    ∙ skip_right kind (u ++ m ++ f ++ v) r (no_reflected kind a.reflection nine ten)
    ∙ skip_right kind (u ++ m ++ f) v (none middle)
    ∙ kept_append kind (u ++ m) f
    ∙ ap (λ o. first_some o (kept_of kind f)) (skip_left kind u m (none first))

-- and what these added, where it is recognized
reflected_at : (p : Profile) (v6 : Bool) (kind : ℕ) (a : Attrs) (ps : List AddressPrefix) → All (GoodType p) a.unrecognized → is_unrecognized p kind ≡ false → eqb 14 kind ≡ false → kept_of kind (mandatory_attributes v6 p.as4 a) ≡ None → kept_of kind (further_attributes p.as4 a) ≡ None
    → kept_of kind (sent_attributes v6 p.as4 a ps) ≡ kept_of kind (reflection_attributes a.reflection)
reflected_at p v6 kind a ps good known fourteen no_first no_more =
    let u = unrecognized_attributes first a.unrecognized in
    let m = mandatory_attributes v6 p.as4 a in
    let f = further_attributes p.as4 a in
    let v = unrecognized_attributes middle a.unrecognized in
    let r = reflection_attributes a.reflection in
    let o = unrecognized_attributes inner a.unrecognized in
    let x = reach_attributes v6 a.next_hop ps in
    let w = unrecognized_attributes last a.unrecognized in
    let none : (place : Place) → kept_of kind (unrecognized_attributes place a.unrecognized) ≡ None = λ place. no_recognized p place kind a.unrecognized good known in
    skip_right kind (u ++ m ++ f ++ v ++ r ++ o ++ x) w (none last)
    ∙ skip_right kind (u ++ m ++ f ++ v ++ r ++ o) x (no_reach v6 kind a.next_hop ps fourteen)
    ∙ skip_right kind (u ++ m ++ f ++ v ++ r) o (none inner)
    ∙ skip_left kind (u ++ m ++ f ++ v) r (skip_both kind (u ++ m ++ f) v (skip_both kind (u ++ m) f (skip_both kind u m (none first) no_first) no_more) (none middle))

-- and MP_REACH_NLRI and MP_UNREACH_NLRI, where they are recognized
spoken_at : (p : Profile) (v6 : Bool) (kind : ℕ) (a : Attrs) (ps : List AddressPrefix) → All (GoodType p) a.unrecognized → is_unrecognized p kind ≡ false → eqb 9 kind ≡ false → eqb 10 kind ≡ false → kept_of kind (mandatory_attributes v6 p.as4 a) ≡ None → kept_of kind (further_attributes p.as4 a) ≡ None
    → kept_of kind (sent_attributes v6 p.as4 a ps) ≡ kept_of kind (reach_attributes v6 a.next_hop ps)
spoken_at p v6 kind a ps good known nine ten no_first no_more =
    let u = unrecognized_attributes first a.unrecognized in
    let m = mandatory_attributes v6 p.as4 a in
    let f = further_attributes p.as4 a in
    let v = unrecognized_attributes middle a.unrecognized in
    let r = reflection_attributes a.reflection in
    let o = unrecognized_attributes inner a.unrecognized in
    let x = reach_attributes v6 a.next_hop ps in
    let w = unrecognized_attributes last a.unrecognized in
    let none : (place : Place) → kept_of kind (unrecognized_attributes place a.unrecognized) ≡ None = λ place. no_recognized p place kind a.unrecognized good known in
    skip_right kind (u ++ m ++ f ++ v ++ r ++ o ++ x) w (none last)
    ∙ skip_left kind (u ++ m ++ f ++ v ++ r ++ o) x
    (skip_both kind (u ++ m ++ f ++ v ++ r) o
    (skip_both kind (u ++ m ++ f ++ v) r (skip_both kind (u ++ m ++ f) v (skip_both kind (u ++ m) f (skip_both kind u m (none first) no_first) no_more) (none middle)) (no_reflected kind a.reflection nine ten))
    (none inner))

no_further : (as4 : Bool) (kind : ℕ) (a : Attrs) → eqb 4 kind ≡ false → eqb 5 kind ≡ false → eqb 6 kind ≡ false → eqb 7 kind ≡ false → kept_of kind (further_attributes as4 a) ≡ None
no_further as4 kind a four five six seven =
    further_pieces as4 kind a
    ∙ only_first _ _ _ _ (no_optional kind local_pref_of a.local_pref (λ x. five)) (no_if kind atomic_one a.atomic six) (no_optional kind (aggregator_by as4) a.aggregator (λ x. seven))
    ∙ no_optional kind med_of a.med (λ x. four)

-- the types of IPv6 are recognized where it is spoken
known_spoken : (p : Profile) (kind : ℕ) → eqb kind 0 ≡ false → (eqb kind 14 || eqb kind 15) ≡ true → (is_reflection p kind ≡ false) → p.v6 ≡ true → is_unrecognized p kind ≡ false
known_spoken p kind some two plain v6 = (λ i. some i || (ltb 7 kind && not (plain i || (v6 i && two i)))) ∙ none (ltb 7 kind)
  where
    none : (b : Bool) → (b && false) ≡ false
    none true = refl
    none false = refl

known_14 : (p : Profile) → p.v6 ≡ true → is_unrecognized p 14 ≡ false
known_14 p v6 = known_spoken p 14 refl refl (not_spoken p.reflect) v6

known_15 : (p : Profile) → p.v6 ≡ true → is_unrecognized p 15 ≡ false
known_15 p v6 = known_spoken p 15 refl refl (not_spoken p.reflect) v6

-- those of an unrecognized type
unrecognized_at : (p : Profile) (external : Bool) (v6 : Bool) (kind : ℕ) (a : Attrs) (ps : List AddressPrefix) → IsReadable v6 p external a → Speaks p v6 → is_unrecognized p kind ≡ true → kept_of kind (sent_attributes v6 p.as4 a ps) ≡ in_places kind a.unrecognized
unrecognized_at p external v6 kind a ps is speaks unknown =
    let u = unrecognized_attributes first a.unrecognized in
    let m = mandatory_attributes v6 p.as4 a in
    let f = further_attributes p.as4 a in
    let v = unrecognized_attributes middle a.unrecognized in
    let r = reflection_attributes a.reflection in
    let o = unrecognized_attributes inner a.unrecognized in
    let x = reach_attributes v6 a.next_hop ps in
    let w = unrecognized_attributes last a.unrecognized in
    kept_append kind (u ++ m ++ f ++ v ++ r ++ o ++ x) w
    ∙ ap (λ y. first_some y (kept_of kind w)) (skip_right kind (u ++ m ++ f ++ v ++ r ++ o) x (none_reached v6 speaks)
    ∙ kept_append kind (u ++ m ++ f ++ v ++ r) o
    ∙ ap (λ y. first_some y (kept_of kind o)) (skip_right kind (u ++ m ++ f ++ v) r (no_added p.reflect refl)
    ∙ kept_append kind (u ++ m ++ f) v
    ∙ ap (λ y. first_some y (kept_of kind v)) (skip_right kind (u ++ m) f (no_further p.as4 kind a (other 4 refl) (other 5 refl) (other 6 refl) (other 7 refl)) ∙ skip_right kind u m (no_mandatory v6))))
  where
    other : (k : ℕ) → is_unrecognized p k ≡ false → eqb k kind ≡ false
    other k known = unequal k kind (λ e. not_both (is_unrecognized p k) (ap (is_unrecognized p) e ∙ unknown) known)

    none_reached : (v6 : Bool) → Speaks p v6 → kept_of kind (reach_attributes v6 a.next_hop ps) ≡ None
    none_reached false speaks = refl
    none_reached true speaks = no_reach true kind a.next_hop ps (other 14 (known_14 p (speaks refl)))

    no_mandatory : (v6 : Bool) → kept_of kind (mandatory_attributes v6 p.as4 a) ≡ None
    no_mandatory false = rw (other 1 refl, other 2 refl, other 3 refl) refl
    no_mandatory true = rw (other 1 refl, other 2 refl) refl

    no_added : (b : Bool) → p.reflect ≡ b → kept_of kind (reflection_attributes a.reflection) ≡ None
    no_added true e = no_reflected kind a.reflection (other 9 (known_reflected 9 e)) (other 10 (known_reflected 10 e))
      where
        known_reflected : (k : ℕ) → p.reflect ≡ true → not ((p.reflect && true) || (p.v6 && false)) ≡ false
        known_reflected k e = λ i. not ((e i && true) || not_spoken p.v6 i)
    no_added false e = ap (kept_of kind) (nothing_reflected p external v6 a is e)

no_value : (p : Profile) (kind : ℕ) (us : List Unrecognized) → All (GoodType p) us → is_unrecognized p kind ≡ false → value_of kind us ≡ None
no_value p kind us good known =
    let none : (place : Place) → kept_of kind (unrecognized_attributes place us) ≡ None = λ place. no_recognized p place kind us good known in
    sym (one_place kind us) ∙ (λ i. option_map (λ (a : Attribute). a.value) (Pieces (none first i) (none middle i) (none inner i) (none last i)))

pub unrecognized_are : (p : Profile) (external : Bool) (v6 : Bool) (a : Attrs) (ps : List AddressPrefix) → IsReadable v6 p external a → Speaks p v6 → AreUnrecognized p (sent_attributes v6 p.as4 a ps) a.unrecognized
unrecognized_are p external v6 a ps is speaks = record { order = is.order; values = λ kind. by_test kind (is_unrecognized p kind) refl }
  where
    by_test : (kind : ℕ) (b : Bool) → is_unrecognized p kind ≡ b → value_of kind a.unrecognized ≡ cond (is_unrecognized p kind) (option_map (λ a. a.value) (kept_of kind (sent_attributes v6 p.as4 a ps))) None
    by_test kind true unknown =
        sym (one_place kind a.unrecognized) ∙ ap (option_map (λ (a : Attribute). a.value)) (sym (unrecognized_at p external v6 kind a ps is speaks unknown))
        ∙ sym (ap (λ b. cond b (option_map (λ a. a.value) (kept_of kind (sent_attributes v6 p.as4 a ps))) None) unknown)
    by_test kind false known =
        no_value p kind a.unrecognized is.types known ∙ sym (ap (λ b. cond b (option_map (λ a. a.value) (kept_of kind (sent_attributes v6 p.as4 a ps))) None) known)

-- ---- all of the route

some_and : (o : Option Attribute) (a : Attribute) (P : Attribute → Type 0) → o ≡ Some a → P a → IsSomeAnd o P
some_and o a P e h = subst (λ o. IsSomeAnd o P) (sym e) h

four_back : (n : ℕ) → n < 2 ^ 32 → big_number 4 (big_bytes 4 n) ≡ n
four_back n fits = big_number-reads_back 4 n [] fits

number_back : (o : Option ℕ) (f : ℕ → Attribute) → ((n : ℕ) → (f n).value ≡ big_bytes 4 n) → ForSome o (λ n. n < 2 ^ 32) → o ≡ option_map (λ a. big_number 4 a.value) (option_map f o)
number_back None f spells fit = refl
number_back (Some n) f spells fit = ap (λ n. Some n) (sym (ap (big_number 4) (spells n) ∙ four_back n (fit n refl)))

local_pref_back : (external : Bool) (o : Option ℕ) → ForSome o (λ n. (external ≡ false) × (n < 2 ^ 32)) → o ≡ cond external None (option_map (λ a. big_number 4 a.value) (option_map local_pref_of o))
local_pref_back true None fit = refl
local_pref_back false None fit = refl
local_pref_back true (Some n) fit = let e = (fit n refl).0 in absurd (cc)
local_pref_back false (Some n) fit = ap (λ n. Some n) (sym (four_back n (fit n refl).1))

partial_back : (partial long : Bool) → partial ≡ eqb (cond long (aggregator_flags partial + 16) (aggregator_flags partial) / 32 % 2) 1
partial_back true true = refl
partial_back true false = refl
partial_back false true = refl
partial_back false false = refl

aggregator_back : (as4 : Bool) (o : Option Aggregator) → ForSome o (λ g. (g.asn < 256 ^ width_of as4) × (g.addr < 2 ^ 32)) → o ≡ option_map (aggregator_of as4) (option_map (aggregator_by as4) o)
aggregator_back as4 None fit = refl
aggregator_back as4 (Some g) fit =
    let f = fit g refl in
    let width = width_of as4 in
    let front = big_bytes width g.asn in
    let asn : big_number width (front ++ big_bytes 4 g.addr) ≡ g.asn = big_number-reads_back width g.asn (big_bytes 4 g.addr) f.0 in
    let later : drop width (front ++ big_bytes 4 g.addr) ≡ big_bytes 4 g.addr = drop_at front (big_bytes 4 g.addr) width (length-bytes_high_first width g.asn) in
    let addr : big_number 4 (drop width (front ++ big_bytes 4 g.addr)) ≡ g.addr = ap (big_number 4) later ∙ four_back g.addr f.1 in
    λ i. Some (record { asn = sym asn i; addr = sym addr i; partial = partial_back g.partial (is_long (aggregator_value as4 g)) i })

identifiers_back : (cs : List ℕ) → All (λ n. n < 2 ^ 32) cs → cs ≡ clusters_of (kept_of 10 (clusters_attributes cs))
identifiers_back [] fit = refl
identifiers_back (c ∷ cs) fit =
    let value = flat_map (big_bytes 4) (c ∷ cs) in
    let count : length (c ∷ cs) ≡ length value / 4 = omega (arith, length-numbers 4 (c ∷ cs)) in
    numbers_again 4 (c ∷ cs) fit ∙ ap (λ n. numbers_at 4 n value) count

-- what reflectors added is said, where it is read
known_reflected : (p : Profile) → p.reflect ≡ true → not ((p.reflect && true) || (p.v6 && false)) ≡ false
known_reflected p e = λ i. not ((e i && true) || not_spoken p.v6 i)

originator_back : (p : Profile) (external : Bool) (v6 : Bool) (a : Attrs) (ps : List AddressPrefix) → IsReadable v6 p external a → (b : Bool) → p.reflect ≡ b → a.reflection.originator ≡ cond b (option_map (λ a. big_number 4 a.value) (kept_of 9 (sent_attributes v6 p.as4 a ps))) None
originator_back p external v6 a ps is true e =
    let at_9 = reflected_at p v6 9 a ps is.types (known_reflected p e) refl (no_hop v6 9 a.next_hop refl) (no_further p.as4 9 a refl refl refl refl) ∙ reflected_9 a.reflection in
    number_back a.reflection.originator originator_of (λ n. refl) (λ n e. (is.originator n e).1) ∙ ap (option_map (λ (a : Attribute). big_number 4 a.value)) (sym at_9)
originator_back p external v6 a ps is false e = (nothing_added p external v6 a is e).0

clusters_back : (p : Profile) (external : Bool) (v6 : Bool) (a : Attrs) (ps : List AddressPrefix) → IsReadable v6 p external a → (b : Bool) → p.reflect ≡ b → a.reflection.clusters ≡ cond b (clusters_of (kept_of 10 (sent_attributes v6 p.as4 a ps))) []
clusters_back p external v6 a ps is true e =
    let at_10 = reflected_at p v6 10 a ps is.types (known_reflected p e) refl (no_hop v6 10 a.next_hop refl) (no_further p.as4 10 a refl refl refl refl) ∙ reflected_10 a.reflection in
    identifiers_back a.reflection.clusters (λ k d lt. (is.clusters k d lt).1) ∙ ap clusters_of (sym at_10)
clusters_back p external v6 a ps is false e = (nothing_added p external v6 a is e).1

pub attrs_are : (p : Profile) (external : Bool) (v6 : Bool) (a : Attrs) (ps : List AddressPrefix) → IsReadable v6 p external a → Speaks p v6 → (hop : Option ℕ) → hop ≡ Some a.next_hop → AreAttrs p external (sent_attributes v6 p.as4 a ps) hop a
attrs_are p external v6 a ps is speaks hop hop_is =
    let sent = sent_attributes v6 p.as4 a ps in
    let at_1 : kept_of 1 sent ≡ Some (spelled 64 1 (code_of_origin a.origin ∷ [])) = recognized_at p v6 1 a ps is.types refl refl refl refl in
    let at_2 : kept_of 2 sent ≡ Some (spelled 64 2 (path_octets (width_of p.as4) a.path)) = recognized_at p v6 2 a ps is.types refl refl refl refl in
    let at_4 : kept_of 4 sent ≡ option_map med_of a.med = further 4 refl refl refl refl refl refl ∙ further_4 p.as4 a in
    let at_5 : kept_of 5 sent ≡ option_map local_pref_of a.local_pref = further 5 refl refl refl refl refl refl ∙ further_5 p.as4 a in
    let at_6 : is_some (kept_of 6 sent) ≡ a.atomic = ap is_some (further 6 refl refl refl refl refl refl) ∙ further_6 p.as4 a in
    let at_7 : kept_of 7 sent ≡ option_map (aggregator_by p.as4) a.aggregator = further 7 refl refl refl refl refl refl ∙ further_7 p.as4 a in
    record {
      origin = ap (option_map (λ (a : Attribute). get_or a.value 0 0)) at_1;
      path = some_and (kept_of 2 sent) (spelled 64 2 (path_octets (width_of p.as4) a.path)) (λ x. IsPath (width_of p.as4) x.value a.path) at_2 (spelled_path p.as4 a.path is.path);
      next_hop = hop_is;
      med = number_back a.med med_of (λ n. refl) is.med ∙ ap (option_map (λ (a : Attribute). big_number 4 a.value)) (sym at_4);
      local_pref = local_pref_back external a.local_pref is.local_pref ∙ ap (λ o. cond external None (option_map (λ (a : Attribute). big_number 4 a.value) o)) (sym at_5);
      atomic = sym at_6;
      aggregator = aggregator_back p.as4 a.aggregator is.aggregator ∙ ap (option_map (aggregator_of p.as4)) (sym at_7);
      originator = originator_back p external v6 a ps is p.reflect refl;
      clusters = clusters_back p external v6 a ps is p.reflect refl;
      unrecognized = unrecognized_are p external v6 a ps is speaks;
    }
  where
    further : (kind : ℕ) → is_unrecognized p kind ≡ false → eqb 9 kind ≡ false → eqb 10 kind ≡ false → eqb 14 kind ≡ false → kept_of kind (mandatory_attributes v6 p.as4 a) ≡ kept_of kind (hop_attributes v6 a.next_hop) → eqb 3 kind ≡ false
        → kept_of kind (sent_attributes v6 p.as4 a ps) ≡ kept_of kind (further_attributes p.as4 a)
    further kind known nine ten fourteen none three =
        recognized_at p v6 kind a ps is.types known nine ten fourteen ∙ ap (λ o. first_some o (kept_of kind (further_attributes p.as4 a))) (none ∙ no_hop v6 kind a.next_hop three)

-- the next hop of IPv4's routes
pub first_hop_is : (p : Profile) (external : Bool) (a : Attrs) (ps : List AddressPrefix) → IsReadable false p external a → hop_of (sent_attributes false p.as4 a ps) ≡ Some a.next_hop
first_hop_is p external a ps is =
    ap (option_map (λ (a : Attribute). hop_at a.value)) (recognized_at p false 3 a ps is.types refl refl refl refl) ∙ ap (λ n. Some n) (hop_back a.next_hop is.next_hop.of)

-- what is said of IPv6
pub reach_sent : (p : Profile) (external : Bool) (v6 : Bool) (a : Attrs) (ps : List AddressPrefix) → IsReadable v6 p external a → p.v6 ≡ true → kept_of 14 (sent_attributes v6 p.as4 a ps) ≡ kept_of 14 (reach_attributes v6 a.next_hop ps)
reach_sent p external v6 a ps is speaks = spoken_at p v6 14 a ps is.types (known_14 p speaks) refl refl (no_hop v6 14 a.next_hop refl) (no_further p.as4 14 a refl refl refl refl)

pub unreach_sent : (p : Profile) (external : Bool) (v6 : Bool) (a : Attrs) (ps : List AddressPrefix) → IsReadable v6 p external a → p.v6 ≡ true → kept_of 15 (sent_attributes v6 p.as4 a ps) ≡ None
unreach_sent p external v6 a ps is speaks =
    spoken_at p v6 15 a ps is.types (known_15 p speaks) refl refl (no_hop v6 15 a.next_hop refl) (no_further p.as4 15 a refl refl refl refl) ∙ no_reach v6 15 a.next_hop ps refl

-- ORIGIN, AS_PATH and, for prefixes of IPv4, NEXT_HOP are among them
has_from_kept : (kind : ℕ) (xs : List Attribute) (a : Attribute) → kept_of kind xs ≡ Some a → has_kind kind xs ≡ true
has_from_kept kind [] a e = absurd (cc)
has_from_kept kind (x ∷ xs) a e = by_test (eqb x.kind kind) (has_from_kept kind xs a) e
  where
    by_test : (b : Bool) → (kept_of kind xs ≡ Some a → has_kind kind xs ≡ true) → cond b (Some x) (kept_of kind xs) ≡ Some a → (b || has_kind kind xs) ≡ true
    by_test true later e = refl
    by_test false later e = later e

pub has_mandatory : (p : Profile) (external : Bool) (v6 : Bool) (a : Attrs) (ps : List AddressPrefix) → IsReadable v6 p external a
    → (has_kind 1 (sent_attributes v6 p.as4 a ps) ≡ true) × (has_kind 2 (sent_attributes v6 p.as4 a ps) ≡ true) × (v6 ≡ false → has_kind 3 (sent_attributes v6 p.as4 a ps) ≡ true)
has_mandatory p external v6 a ps is = (
  has_from_kept 1 (sent_attributes v6 p.as4 a ps) _ (recognized_at p v6 1 a ps is.types refl refl refl refl),
  has_from_kept 2 (sent_attributes v6 p.as4 a ps) _ (recognized_at p v6 2 a ps is.types refl refl refl refl),
  λ e. has_from_kept 3 (sent_attributes v6 p.as4 a ps) (spelled 64 3 (big_bytes 4 (a.next_hop / 2 ^ 96))) (recognized_at p v6 3 a ps is.types refl refl refl refl ∙ hop_there v6 e),
)
  where
    hop_there : (v6 : Bool) → v6 ≡ false → first_some (kept_of 3 (mandatory_attributes v6 p.as4 a)) (kept_of 3 (further_attributes p.as4 a)) ≡ Some (spelled 64 3 (big_bytes 4 (a.next_hop / 2 ^ 96)))
    hop_there false e = refl
    hop_there true e = absurd (cc)
