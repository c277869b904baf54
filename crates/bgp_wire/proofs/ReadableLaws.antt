-- What a peer said can be said again.
use Rattle.std.proofs.Common.{◌≡◌, ℕ, zero, suc, ◌-◌, ◌*◌, ◌/◌, ◌%◌, ◌^◌, ◌<◌, ◌≤◌, Bool, true, false, cond, eqb, not, ◌||◌, ◌&&◌, List, [], ◌∷◌, ◌++◌, length, drop, Option, Some, None, refl, sym, ap, subst, ◌∙◌, inl, inr, arith}
use Rattle.std.specs.Prelude.{All, filter, option_map, slice_index, IsSomeAnd}
use Rattle.std.proofs.lemmas.Bool.{eqb-true, eq-eqb}
use Rattle.byteorder.specs.Endian.{big_number}
use Rattle.byteorder.specs.Numbers.{big_from-lt}
use Rattle.addr4.specs.Blocks.{size_of_length, masked_to, width}
use Rattle.addr4.specs.Prefixes.{AddressPrefix}
use Rattle.addr4.proofs.BlockLemmas.{size_pos, masked_down}
use Rattle.bgp_attr.specs.declared.attrs.Aggregator.{Aggregator}
use Rattle.bgp_attr.specs.Attributes.{Attrs}
use Rattle.bgp_attr.specs.declared.path.Segment.{Segment}
use Rattle.bgp_attr.specs.declared.speaker.Profile.{Profile}
use Rattle.bgp_attr.specs.declared.unrecognized.Unrecognized.{Unrecognized}
use Rattle.bgp_wire.specs.declared.attributes.Size.TheVariants.{Fixed}
use Rattle.bgp_wire.specs.declared.attributes.TypeRule.{TypeRule}
use Rattle.bgp_wire.specs.declared.attributes.Verdict.{Verdict}
use Rattle.bgp_wire.specs.declared.attributes.Verdict.TheVariants.{Keep, Discard, Withdraw}
use Rattle.bgp_wire.specs.Faults.{notice}
use Rattle.bgp_wire.specs.declared.multiprotocol.Reach.{Reach}
use Rattle.bgp_wire.specs.Multiprotocol.{IsReach, IsUnreach, announced_by, hop_by, withdrawn_by}
use Rattle.bgp_wire.specs.Prefixes.{IsPrefix, ArePrefixes}
use Rattle.bgp_wire.specs.Paths.{width_of, numbers_at, IsSegment, IsPath}
use Rattle.bgp_wire.specs.Attributes.{Attribute, IsAttribute, AreAttributes, kept_by, rule_of, has_wrong_size, hop_at, is_old_form, is_reflection, value_fault, judge_by}
use Rattle.bgp_wire.specs.Routes.{kept_of, hop_of, multiprotocol_of, Says, number_of, aggregator_of, clusters_of, is_unrecognized, AscendsFrom, value_of, AreUnrecognized, AreAttrs}
use Rattle.addr4.specs.Families.{bits_of, IsPrefixOf}
use Rattle.addr4.specs.Hosts.{is_host}
use Rattle.addr4.proofs.FrontLemmas.{front_ipv4}
use Rattle.bgp_wire.specs.Readable.{IsReadableSegment, IsHost, reads_reflection, IsReadable}
use Rattle.bgp_wire.proofs.TestLemmas.{and_left, not_both, not_false, unequal}
use Rattle.bgp_wire.proofs.RouteLaws.{IsKept, IsGood, kept_are, recognized_is_good, value_below}
use Rattle.bgp_wire.proofs.TypeLaws.{GoodType, no_rule, no_rule_outside, kept_unrecognized}

-- ---- lists

-- by recursion
abbrev pub Every : {A : Type 0} → (A → Type 0) → List A → Type 0
Every P [] = Unit {0}
Every P (x ∷ xs) = P x × Every P xs

pub every_all : {A : Type 0} (P : A → Type 0) (xs : List A) → Every P xs → All P xs
every_all P [] every k d lt = absurd (omega arith)
every_all P (x ∷ xs) every zero d lt = every.0
every_all P (x ∷ xs) every (suc k) d lt = every_all P xs every.1 k d (omega arith)

pub all_every : {A : Type 0} (P : A → Type 0) (xs : List A) → All P xs → Every P xs
all_every P [] all = tt
all_every P (x ∷ xs) all = (all 0 x (omega arith), all_every P xs (λ k d lt. all (suc k) d (omega arith)))

pub every_append : {A : Type 0} (P : A → Type 0) (xs ys : List A) → Every P xs → Every P ys → Every P (xs ++ ys)
every_append P [] ys first later = later
every_append P (x ∷ xs) ys first later = (first.0, every_append P xs ys first.1 later)

pub every_front : {A : Type 0} (P : A → Type 0) (xs ys : List A) → Every P (xs ++ ys) → Every P xs
every_front P [] ys every = tt
every_front P (x ∷ xs) ys every = (every.0, every_front P xs ys every.1)

pub every_back : {A : Type 0} (P : A → Type 0) (xs ys : List A) → Every P (xs ++ ys) → Every P ys
every_back P [] ys every = every
every_back P (x ∷ xs) ys every = every_back P xs ys every.1

pub every_filter : {A : Type 0} (P : A → Type 0) (test : A → Bool) (xs : List A) → Every P xs → Every P (filter test xs)
every_filter P test [] every = tt
every_filter P test (x ∷ xs) every = elim (test x) as (λ b. Every P (cond b (x ∷ filter test xs) (filter test xs))) [
  | true ↦ (every.0, every_filter P test xs every.1)
  | false ↦ every_filter P test xs every.1
]

-- octets
abbrev pub Octets : List ℕ → Type 0
Octets xs = Every (λ n. n < 256) xs

octet_at : (xs : List ℕ) → Octets xs → (k : ℕ) → slice_index xs k < 256
octet_at [] octets k = omega arith
octet_at (x ∷ xs) octets zero = octets.0
octet_at (x ∷ xs) octets (suc k) = octet_at xs octets.1 k

octets_drop : (n : ℕ) (xs : List ℕ) → Octets xs → Octets (drop n xs)
octets_drop zero xs octets = octets
octets_drop (suc n) [] octets = tt
octets_drop (suc n) (x ∷ xs) octets = octets_drop n xs octets.1

number_fits : (n : ℕ) (xs : List ℕ) → Octets xs → big_number n xs < 256 ^ n
number_fits n xs octets = big_from-lt 0 n xs (octet_at xs octets)

-- ---- prefixes

few_bits : (v6 : Bool) → bits_of v6 ≤ 128
few_bits true = omega arith
few_bits false = omega arith

address_prefix_read : (v6 : Bool) (octets : List ℕ) (p : AddressPrefix) → Octets octets → IsPrefix v6 octets p → IsPrefixOf v6 p
address_prefix_read v6 octets p are is =
    let bits : Octets is.bits = (subst Octets is.spelled are).1 in
    let fits = number_fits 16 is.bits bits in
    let number = big_number 16 is.bits in
    let address : p.address ≡ masked_to width number p.length = ap (λ (q : AddressPrefix). q.address) is.value in
    record {
      masked = (omega (arith, is.short, few_bits v6), ap (λ n. n % size_of_length width p.length) address ∙ masked_down number (size_of_length width p.length) (size_pos width p.length));
      fits = omega (arith, address, fits);
      short = is.short;
    }

pub address_prefixes_read : (v6 : Bool) (bytes : List ℕ) (ps : List AddressPrefix) → Octets bytes → ArePrefixes v6 bytes ps → Every (IsPrefixOf v6) ps
address_prefixes_read v6 bytes [] octets are = tt
address_prefixes_read v6 bytes (p ∷ ps) octets are =
    let parts = subst Octets are.2 octets in
    (address_prefix_read v6 are.0 p (every_front (λ n. n < 256) are.0 are.1 parts) are.3, address_prefixes_read v6 are.1 ps (every_back (λ n. n < 256) are.0 are.1 parts) are.4)

-- ---- paths

numbers_fit : (width count : ℕ) (octets : List ℕ) → Octets octets → Every (λ n. n < 256 ^ width) (numbers_at width count octets)
numbers_fit width zero octets are = tt
numbers_fit width (suc count) octets are = (number_fits width octets are, numbers_fit width count (drop width octets) (octets_drop width octets are))

segment_read : (as4 : Bool) (octets : List ℕ) (s : Segment) → Octets octets → IsSegment (width_of as4) octets s → IsReadableSegment as4 s
segment_read as4 octets s are is =
    let parts = subst Octets is.spelled are in
    let numbers = numbers_fit (width_of as4) (length s.numbers) is.numbers parts.1.1 in
    record { some = is.some; few = omega (arith, parts.1.0); numbers = every_all (λ n. n < 256 ^ width_of as4) s.numbers (subst (Every (λ n. n < 256 ^ width_of as4)) (sym is.value) numbers) }

path_read : (as4 : Bool) (bytes : List ℕ) (path : List Segment) → Octets bytes → IsPath (width_of as4) bytes path → Every (IsReadableSegment as4) path
path_read as4 bytes [] octets are = tt
path_read as4 bytes (s ∷ path) octets are =
    let parts = subst Octets are.2 octets in
    (segment_read as4 are.0 s (every_front (λ n. n < 256) are.0 are.1 parts) are.3, path_read as4 are.1 path (every_back (λ n. n < 256) are.0 are.1 parts) are.4)

-- ---- attributes

some_same : {A : Type 0} (x y : A) → ◌≡◌ {A = Option A} (Some x) (Some y) → x ≡ y
some_same x y e = cc

not_some : {A : Type 0} (x : A) → ◌≡◌ {A = Option A} None (Some x) → ⊥
not_some x e = absurd (cc)

-- what is known of an attribute that is kept
pub record IsHeld (p : Profile) (external : Bool) (kind : ℕ) (a : Attribute) : Type 0 where
  pub is : IsAttribute a
  pub octets : Octets a.octets
  pub same : a.kind ≡ kind
  pub kept : IsKept p external a

value_octets : (a : Attribute) → IsAttribute a → Octets a.octets → Octets a.value
value_octets a is octets = elim is [
  | inl short ↦ (subst Octets short.spelled octets).1.1.1
  | inr long ↦ (subst Octets long.spelled octets).1.1.1.1
]

stands : (p : Profile) (external : Bool) (seen bytes : List ℕ) (steps : List (Attribute × Verdict)) (runs : Bool) → AreAttributes p external seen bytes steps runs → Octets bytes
    → (kind : ℕ) (a : Attribute) → kept_of kind (kept_by steps runs).0 ≡ Some a → IsAttribute a × Octets a.octets
stands p external seen bytes [] runs are octets kind a found = absurd (not_some a found)
stands p external seen bytes ((b, Discard) ∷ steps) runs are octets kind a found =
    stands p external (seen ++ b.kind ∷ []) are.0 steps runs are.4 (every_back (λ n. n < 256) b.octets are.0 (subst Octets are.1 octets)) kind a found
stands p external seen bytes ((b, Withdraw) ∷ steps) runs are octets kind a found =
    stands p external (seen ++ b.kind ∷ []) are.0 steps runs are.4 (every_back (λ n. n < 256) b.octets are.0 (subst Octets are.1 octets)) kind a found
stands p external seen bytes ((b, Keep) ∷ steps) runs are octets kind a found =
    by_test (eqb b.kind kind) found (stands p external (seen ++ b.kind ∷ []) are.0 steps runs are.4 (every_back (λ n. n < 256) b.octets are.0 (subst Octets are.1 octets)) kind a)
  where
    by_test : (t : Bool) → cond t (Some b) (kept_of kind (kept_by steps runs).0) ≡ Some a → (kept_of kind (kept_by steps runs).0 ≡ Some a → IsAttribute a × Octets a.octets) → IsAttribute a × Octets a.octets
    by_test true e later = subst (λ (x : Attribute). IsAttribute x × Octets x.octets) (some_same b a e) (are.2, every_front (λ n. n < 256) b.octets are.0 (subst Octets are.1 octets))
    by_test false e later = later e

pub held : (p : Profile) (external : Bool) (bytes : List ℕ) (steps : List (Attribute × Verdict)) (runs : Bool) → AreAttributes p external [] bytes steps runs → Octets bytes
    → (kind : ℕ) (a : Attribute) → kept_of kind (kept_by steps runs).0 ≡ Some a → IsHeld p external kind a
held p external bytes steps runs are octets kind a found =
    let s = stands p external [] bytes steps runs are octets kind a found in
    let k = kept_are p external [] bytes steps runs are kind a found in
    record { is = s.0; octets = s.1; same = k.is; kept = k.kept }

pub good : (p : Profile) (external : Bool) (kind : ℕ) (a : Attribute) (r : TypeRule) → rule_of p external kind ≡ Some r → IsHeld p external kind a → IsGood p.as4 r a
good p external kind a r ruled held = recognized_is_good p external a r (ap (judge_by p external a) (sym (ap (rule_of p external) held.same ∙ ruled)) ∙ held.kept)

pub right_size : (as4 : Bool) (r : TypeRule) (a : Attribute) (n : ℕ) → r.size ≡ Fixed n → IsGood as4 r a → length a.value ≡ n
right_size as4 r a n e good = eqb-true _ _ (not_false _ (ap (λ s. has_wrong_size s a.value) (sym e) ∙ good.size))

-- what an attribute that is there was read from
pub found_from : {B : Type 0} (f : Attribute → B) (o : Option Attribute) (x : B) → option_map f o ≡ Some x → (a : Attribute) × (o ≡ Some a) × (f a ≡ x)
found_from f None x e = absurd (not_some x e)
found_from f (Some a) x e = (a, refl, some_same (f a) x e)

-- NEXT_HOP is a host's
hop_read : (p : Profile) (external : Bool) (a : Attribute) → IsHeld p external 3 a → IsHost false (hop_at a.value)
unfolding rule_of value_fault
hop_read p external a held =
    let fits = number_fits 4 a.value (value_octets a held.is held.octets) in
    let fault : value_fault p.as4 a ≡ None = (good p external 3 a (record { optional = false; transitive = true; size = Fixed 4 }) refl held).value in
    let at : value_fault p.as4 a ≡ cond (is_host false (hop_at a.value)) None (Some (notice 3 8 a.octets)) = ap (λ k. value_fault p.as4 (record a { kind = k })) held.same in
    record { of = front_ipv4 (big_number 4 a.value) (omega (arith, fits)); host = by_test (is_host false (hop_at a.value)) (sym at ∙ fault) }
  where
    by_test : (b : Bool) → cond b None (Some (notice 3 8 a.octets)) ≡ None → b ≡ true
    by_test false e = absurd (not_some (notice 3 8 a.octets) (sym e))
    by_test true e = refl

-- ---- unrecognized attributes

pub each_type : (P : Unrecognized → Type 0) (n : ℕ) (us : List Unrecognized) → AscendsFrom n us → ((u : Unrecognized) → value_of u.kind us ≡ Some u.value → P u) → Every P us
each_type P n [] order told = tt
each_type P n (u ∷ us) order told = (
  told u (ap (λ b. cond b (Some u.value) (value_of u.kind us)) (eq-eqb u.kind u.kind refl)),
  each_type P (suc u.kind) us order.1 (λ v e. told v (ap (λ b. cond b (Some u.value) (value_of v.kind us)) (apart v.kind v.value e) ∙ e)),
)
  where
    apart : (kind : ℕ) (value : List ℕ) → value_of kind us ≡ Some value → eqb u.kind kind ≡ false
    apart kind value e = unequal u.kind kind (λ same. not_some value (sym (value_below (suc u.kind) kind us order.1 (omega arith)) ∙ e))

good_type : (p : Profile) (external : Bool) (kind : ℕ) (a : Attribute) → is_unrecognized p kind ≡ true → IsHeld p external kind a → is_old_form p kind ≡ false
good_type p external kind a unknown held =
    let judged = ap (judge_by p external a) (sym (no_rule p external a.kind (ap (is_unrecognized p) held.same ∙ unknown))) ∙ held.kept in
    ap (is_old_form p) (sym held.same) ∙ (kept_unrecognized p a judged).0

-- the type of an attribute that stands in a route is one of the kept ones
pub unrecognized_held : (p : Profile) (external : Bool) (bytes : List ℕ) (steps : List (Attribute × Verdict)) (runs : Bool) → AreAttributes p external [] bytes steps runs → Octets bytes → (us : List Unrecognized) → AreUnrecognized p (kept_by steps runs).0 us
    → (kind : ℕ) (value : List ℕ) → value_of kind us ≡ Some value → (is_unrecognized p kind ≡ true) × ((a : Attribute) × (kept_of kind (kept_by steps runs).0 ≡ Some a) × (a.value ≡ value))
unrecognized_held p external bytes steps runs are octets us is kind value e = by_test (is_unrecognized p kind) refl (sym (is.values kind) ∙ e)
  where
    by_test : (b : Bool) → is_unrecognized p kind ≡ b → cond b (option_map (λ a. a.value) (kept_of kind (kept_by steps runs).0)) None ≡ Some value
        → (is_unrecognized p kind ≡ true) × ((a : Attribute) × (kept_of kind (kept_by steps runs).0 ≡ Some a) × (a.value ≡ value))
    by_test true unknown e = (unknown, found_from (λ (a : Attribute). a.value) (kept_of kind (kept_by steps runs).0) value e)
    by_test false known e = absurd (not_some value e)

-- ---- what reflectors added

-- of an external peer nothing of it is kept
from_internal_peer : (p : Profile) (external : Bool) (kind : ℕ) (a : Attribute) → is_reflection p kind ≡ true → IsHeld p external kind a → reads_reflection p external ≡ true
from_internal_peer p external kind a is held = λ i. and_left p.reflect (eqb kind 9 || eqb kind 10) is i && by_peer external held i
  where
    here : a.kind ≡ kind → is_reflection p a.kind ≡ true
    here same = ap (is_reflection p) same ∙ is

    by_peer : (external : Bool) → IsHeld p external kind a → not external ≡ true
    by_peer false held = refl
    by_peer true held =
        let judged = ap (judge_by p true a) (sym (no_rule_outside p a.kind (here held.same))) ∙ held.kept in
        absurd (not_both (is_reflection p a.kind) (here held.same) (kept_unrecognized p a judged).1)

if_reflects : {A : Type 0} (reflect : Bool) (o : Option A) (x : A) → cond reflect o None ≡ Some x → (reflect ≡ true) × (o ≡ Some x)
if_reflects true o x e = (refl, e)
if_reflects false o x e = absurd (not_some x e)

identifiers_read : (Q : Type 0) → Q → (count : ℕ) (octets : List ℕ) → Octets octets → Every (λ n. Q × (n < 2 ^ 32)) (numbers_at 4 count octets)
identifiers_read Q q zero octets are = tt
identifiers_read Q q (suc count) octets are = ((q, omega (arith, number_fits 4 octets are)), identifiers_read Q q count (drop 4 octets) (octets_drop 4 octets are))

-- ---- all of a route

pub some_in : (o : Option Attribute) (P : Attribute → Type 0) → IsSomeAnd o P → (a : Attribute) × (o ≡ Some a) × P a
some_in None P is = absurd is
some_in (Some a) P is = (a, refl, is)

from_internal : (external : Bool) (o : Option ℕ) (n : ℕ) → cond external None o ≡ Some n → (external ≡ false) × (o ≡ Some n)
from_internal true o n e = absurd (not_some n e)
from_internal false o n e = (refl, e)

pub attrs_read : (v6 : Bool) (p : Profile) (external : Bool) (bytes : List ℕ) (steps : List (Attribute × Verdict)) (runs : Bool) (hop : Option ℕ) (attrs : Attrs) → AreAttributes p external [] bytes steps runs → Octets bytes → ((n : ℕ) → hop ≡ Some n → IsHost v6 n)
    → AreAttrs p external (kept_by steps runs).0 hop attrs → IsReadable v6 p external attrs
attrs_read v6 p external bytes steps runs hop attrs are octets host is = record {
  path =
      let s = some_in (kept_of 2 kept) (λ a. IsPath (width_of p.as4) a.value attrs.path) is.path in
      every_all (IsReadableSegment p.as4) attrs.path (path_read p.as4 s.0.value attrs.path (value 2 s.0 s.1) s.2);
  next_hop = host attrs.next_hop is.next_hop;
  med = λ n e. number 4 n (sym is.med ∙ e);
  local_pref = λ n e. let l = from_internal external (number_of 5 kept) n (sym is.local_pref ∙ e) in (l.0, number 5 n l.1);
  aggregator = λ g e. aggregator g (sym is.aggregator ∙ e);
  originator = λ n e. let r = if_reflects p.reflect (number_of 9 kept) n (sym is.originator ∙ e) in originator n r.0 r.1;
  clusters = every_all Cluster attrs.reflection.clusters (subst (Every Cluster) (sym is.clusters) (clusters p.reflect refl));
  order = is.unrecognized.order;
  types = every_all (GoodType p) attrs.unrecognized (each_type (GoodType p) 0 attrs.unrecognized is.unrecognized.order (λ u e.
      let k = unrecognized_held p external bytes steps runs are octets attrs.unrecognized is.unrecognized u.kind u.value e in
      (k.0, good_type p external u.kind k.1.0 k.0 (at u.kind k.1.0 k.1.1))));
}
  where
    kept : List Attribute
    kept = (kept_by steps runs).0

    at : (kind : ℕ) (a : Attribute) → kept_of kind (kept_by steps runs).0 ≡ Some a → IsHeld p external kind a
    at kind a e = held p external bytes steps runs are octets kind a e

    value : (kind : ℕ) (a : Attribute) → kept_of kind (kept_by steps runs).0 ≡ Some a → Octets a.value
    value kind a e = let h = held p external bytes steps runs are octets kind a e in value_octets a h.is h.octets

    number : (kind n : ℕ) → number_of kind (kept_by steps runs).0 ≡ Some n → n < 2 ^ 32
    number kind n e =
        let a = found_from (λ (a : Attribute). big_number 4 a.value) (kept_of kind (kept_by steps runs).0) n e in
        let h = held p external bytes steps runs are octets kind a.0 a.1 in
        omega (arith, number_fits 4 a.0.value (value_octets a.0 h.is h.octets), a.2)

    originator : (n : ℕ) → p.reflect ≡ true → number_of 9 (kept_by steps runs).0 ≡ Some n → (reads_reflection p external ≡ true) × (n < 2 ^ 32)
    originator n reflects e =
        let a = found_from (λ (a : Attribute). big_number 4 a.value) (kept_of 9 (kept_by steps runs).0) n e in
        (from_internal_peer p external 9 a.0 (ap (λ b. b && true) reflects) (held p external bytes steps runs are octets 9 a.0 a.1), number 9 n e)

    Cluster : ℕ → Type 0
    Cluster n = (reads_reflection p external ≡ true) × (n < 2 ^ 32)

    clusters : (b : Bool) → p.reflect ≡ b → Every Cluster (cond b (clusters_of (kept_of 10 (kept_by steps runs).0)) [])
    clusters false reflects = tt
    clusters true reflects = by_kept (kept_of 10 (kept_by steps runs).0) refl
      where
        by_kept : (o : Option Attribute) → kept_of 10 (kept_by steps runs).0 ≡ o → Every Cluster (clusters_of o)
        by_kept None e = tt
        by_kept (Some a) e =
            let from = from_internal_peer p external 10 a (ap (λ b. b && true) reflects) (held p external bytes steps runs are octets 10 a e) in
            identifiers_read (reads_reflection p external ≡ true) from (length a.value / 4) a.value (value 10 a e)

    aggregator : (g : Aggregator) → option_map (aggregator_of p.as4) (kept_of 7 (kept_by steps runs).0) ≡ Some g → (g.asn < 256 ^ width_of p.as4) × (g.addr < 2 ^ 32)
    aggregator g e =
        let a = found_from (aggregator_of p.as4) (kept_of 7 (kept_by steps runs).0) g e in
        let h = held p external bytes steps runs are octets 7 a.0 a.1 in
        let octets = value_octets a.0 h.is h.octets in
        subst (λ (g : Aggregator). (g.asn < 256 ^ width_of p.as4) × (g.addr < 2 ^ 32)) a.2
        (number_fits (width_of p.as4) a.0.value octets, number_fits 4 (drop (width_of p.as4) a.0.value) (octets_drop (width_of p.as4) a.0.value octets))

-- ---- next hops, and what stands in MP_REACH_NLRI and MP_UNREACH_NLRI

pub first_hop_read : (p : Profile) (external : Bool) (bytes : List ℕ) (steps : List (Attribute × Verdict)) (runs : Bool) → AreAttributes p external [] bytes steps runs → Octets bytes → (n : ℕ) → hop_of (kept_by steps runs).0 ≡ Some n → IsHost false n
first_hop_read p external bytes steps runs are octets n e =
    let h = found_from (λ (a : Attribute). hop_at a.value) (kept_of 3 (kept_by steps runs).0) n e in
    subst (IsHost false) h.2 (hop_read p external h.0 (held p external bytes steps runs are octets 3 h.0 h.1))

said_from : {A : Type 0} (v6 : Bool) (o : Option Attribute) (Is : List ℕ → A → Type 0) (x : A) → Says Is (cond v6 o None) (Some x) → (a : Attribute) × (o ≡ Some a) × Is a.value x
said_from false o Is x says = absurd (not_some x (sym says))
said_from true None Is x says = absurd (not_some x (sym says))
said_from true (Some a) Is x says = (a, refl, says)

-- what such an attribute says stands in octets
spoken_octets : {A : Type 0} (p : Profile) (external : Bool) (bytes : List ℕ) (steps : List (Attribute × Verdict)) (runs : Bool) → AreAttributes p external [] bytes steps runs → Octets bytes
    → (kind : ℕ) (Is : List ℕ → A → Type 0) (x : A) → Says Is (multiprotocol_of p kind (kept_by steps runs).0) (Some x) → (value : List ℕ) × Octets value × Is value x
spoken_octets p external bytes steps runs are octets kind Is x says =
    let a = said_from p.v6 (kept_of kind (kept_by steps runs).0) Is x says in
    let h = held p external bytes steps runs are octets kind a.0 a.1 in
    (a.0.value, value_octets a.0 h.is h.octets, a.2)

pub second_announced_read : (p : Profile) (external : Bool) (bytes : List ℕ) (steps : List (Attribute × Verdict)) (runs : Bool) → AreAttributes p external [] bytes steps runs → Octets bytes
    → (r : Option Reach) → Says IsReach (multiprotocol_of p 14 (kept_by steps runs).0) r → Every (IsPrefixOf true) (announced_by r) × ((n : ℕ) → hop_by r ≡ Some n → IsHost true n)
second_announced_read p external bytes steps runs are octets None says = (tt, λ n e. absurd (not_some n e))
second_announced_read p external bytes steps runs are octets (Some r) says =
    let v = spoken_octets p external bytes steps runs are octets 14 IsReach r says in
    let is = v.2 in
    let behind = (subst Octets is.spelled v.1).1.1.1.1 in
    let fits = number_fits 16 is.hop (every_front (λ n. n < 256) is.hop (is.reserved ∷ is.prefixes) behind) in (
      address_prefixes_read true is.prefixes r.announced (every_back (λ n. n < 256) is.hop (is.reserved ∷ is.prefixes) behind).1 is.announces,
      λ n e. subst (IsHost true) (some_same r.next_hop n e) (record { of = omega (arith, is.next_hop, fits); host = is.host }),
    )

pub second_withdrawn_read : (p : Profile) (external : Bool) (bytes : List ℕ) (steps : List (Attribute × Verdict)) (runs : Bool) → AreAttributes p external [] bytes steps runs → Octets bytes
    → (ps : Option (List AddressPrefix)) → Says IsUnreach (multiprotocol_of p 15 (kept_by steps runs).0) ps → Every (IsPrefixOf true) (withdrawn_by ps)
second_withdrawn_read p external bytes steps runs are octets None says = tt
second_withdrawn_read p external bytes steps runs are octets (Some ps) says =
    let v = spoken_octets p external bytes steps runs are octets 15 IsUnreach ps says in
    address_prefixes_read true v.2.prefixes ps (subst Octets v.2.spelled v.1).1.1.1 v.2.withdraws
