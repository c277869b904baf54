-- What the kept attributes say of a route.
use Rattle.std.specs.Prelude.{◌≡◌, ℕ, suc, ◌/◌, ◌≤◌, List, [], ◌∷◌, length, find, drop, slice_index, IsSomeAnd, Option, Some, None, is_some, option_map, Bool, nat_lt, ◌==◌, ◌||◌, ◌&&◌, not, if◌then◌else◌}
use Rattle.byteorder.specs.Endian.{big_number}
use Rattle.bgp_attr.specs.declared.attrs.Aggregator.{Aggregator}
use Rattle.bgp_attr.specs.Attributes.{Attrs}
use Rattle.bgp_attr.specs.declared.attrs.Origin.{Origin}
use Rattle.bgp_attr.specs.declared.attrs.Origin.TheVariants.{Igp, Egp, Incomplete}
use Rattle.bgp_attr.specs.declared.speaker.Profile.{Profile}
use Rattle.bgp_attr.specs.declared.unrecognized.Unrecognized.{Unrecognized}
use Rattle.bgp_wire.specs.Multiprotocol.{IsOther}
use Rattle.bgp_wire.specs.Paths.{width_of, numbers_at, IsPath}
use Rattle.bgp_wire.specs.Attributes.{Attribute, is_partial, is_reflection, is_multiprotocol, hop_at}

-- the kept attribute of a type
abbrev pub kept_of : ℕ → List Attribute → Option Attribute
kept_of kind kept = find (λ a. a.kind == kind) kept

abbrev pub number_of : ℕ → List Attribute → Option ℕ
number_of kind kept = option_map (λ a. big_number 4 a.value) (kept_of kind kept)

-- NEXT_HOP, that of IPv4's routes alone
abbrev pub hop_of : List Attribute → Option ℕ
hop_of kept = option_map (λ a. hop_at a.value) (kept_of 3 kept)

-- MP_REACH_NLRI or MP_UNREACH_NLRI, by its type, where IPv6 is spoken
abbrev pub multiprotocol_of : Profile → ℕ → List Attribute → Option Attribute
multiprotocol_of p kind kept = if p.v6 then kept_of kind kept else None

-- what such a one says: nothing where it isn't there, or is of another family
abbrev pub Says : {A : Type 0} → (List ℕ → A → Type 0) → Option Attribute → Option A → Type 0
Says Is None said = said ≡ None
Says Is (Some a) None = IsOther a.value
Says Is (Some a) (Some x) = Is a.value x

abbrev pub code_of_origin : Origin → ℕ
code_of_origin Igp = 0
code_of_origin Egp = 1
code_of_origin Incomplete = 2

-- an AS number and an address
abbrev pub aggregator_of : Bool → Attribute → Aggregator
aggregator_of as4 a = record { asn = big_number (width_of as4) a.value; addr = big_number 4 (drop (width_of as4) a.value); partial = is_partial a }

-- the identifiers of a CLUSTER_LIST, each of four octets
abbrev pub clusters_at : List ℕ → List ℕ
clusters_at value = numbers_at 4 (length value / 4) value

abbrev pub clusters_of : Option Attribute → List ℕ
clusters_of None = []
clusters_of (Some a) = clusters_at a.value

-- the recognized types are 1 to 7, 9 and 10 where this speaker is a route reflector, and 14 and 15 where IPv6 is spoken
abbrev pub is_unrecognized : Profile → ℕ → Bool
is_unrecognized p kind = kind == 0 || (nat_lt 7 kind && not (is_reflection p kind || is_multiprotocol p kind))

-- types from n on, each above the one before
abbrev pub AscendsFrom : ℕ → List Unrecognized → Type 0
AscendsFrom n [] = Unit {0}
AscendsFrom n (u ∷ us) = (n ≤ u.kind) × AscendsFrom (suc u.kind) us

-- the value that stands under a type
abbrev pub value_of : ℕ → List Unrecognized → Option (List ℕ)
value_of kind [] = None
value_of kind (u ∷ us) = if u.kind == kind then Some u.value else value_of kind us

-- the unrecognized attributes that are kept, by ascending type
pub record AreUnrecognized (p : Profile) (kept : List Attribute) (us : List Unrecognized) : Type 0 where
  pub order : AscendsFrom 0 us
  pub values : (kind : ℕ) → value_of kind us ≡ (if is_unrecognized p kind then option_map (λ a. a.value) (kept_of kind kept) else None)

-- The attributes of one family's routes. ORIGIN, AS_PATH and the next hop are there, NEXT_HOP for IPv4 and that of MP_REACH_NLRI for IPv6, and
-- never the other's (RFC 4760, section 3); the others may be, LOCAL_PREF only from an internal peer. (So are ORIGINATOR_ID and CLUSTER_LIST:
-- from an external one none is kept.)
pub record AreAttrs (p : Profile) (external : Bool) (kept : List Attribute) (hop : Option ℕ) (attrs : Attrs) : Type 0 where
  pub origin : option_map (λ a. slice_index a.value 0) (kept_of 1 kept) ≡ Some (code_of_origin attrs.origin)
  pub path : IsSomeAnd (kept_of 2 kept) (λ a. IsPath (width_of p.as4) a.value attrs.path)
  pub next_hop : hop ≡ Some attrs.next_hop
  pub med : attrs.med ≡ number_of 4 kept
  pub local_pref : attrs.local_pref ≡ (if external then None else number_of 5 kept)
  pub atomic : attrs.atomic ≡ is_some (kept_of 6 kept)
  pub aggregator : attrs.aggregator ≡ option_map (aggregator_of p.as4) (kept_of 7 kept)
  pub originator : attrs.reflection.originator ≡ (if p.reflect then number_of 9 kept else None)
  pub clusters : attrs.reflection.clusters ≡ (if p.reflect then clusters_of (kept_of 10 kept) else [])
  pub unrecognized : AreUnrecognized p kept attrs.unrecognized
