-- The octets that are sent: of all that read alike, one spelling (RFC 4271, sections 4.1, 4.3, 4.5 and 5).
use Rattle.std.specs.Prelude.{◌≡◌, ℕ, ◌+◌, ◌≤◌, ◌<◌, List, [], ◌∷◌, ◌++◌, length, take, map, filter, replicate, All, Option, Some, None, Bool, true, false, nat_lt, ◌==◌, not, ◌||◌, ◌&&◌, if◌then◌else◌, ◌/◌, ◌^◌}
use Rattle.std.specs.List.{flat_map}
use Rattle.std.specs.Option.{ForSome}
use Rattle.byteorder.specs.Endian.{big_bytes}
use Rattle.addr4.specs.Prefixes.{AddressPrefix}
use Rattle.bgp_attr.specs.declared.attrs.Aggregator.{Aggregator}
use Rattle.bgp_attr.specs.Attributes.{Attrs}
use Rattle.bgp_attr.specs.declared.path.Segment.{Segment}
use Rattle.bgp_attr.specs.declared.unrecognized.Unrecognized.{Unrecognized}
use Rattle.bgp_attr.specs.Reflections.{Reflected}
use Rattle.bgp_wire.specs.declared.writing.attributes.Place.{Place}
use Rattle.bgp_wire.specs.declared.writing.attributes.Place.TheVariants.{First, Middle, Inner, Last}
use Rattle.bgp_wire.specs.Said.{Said}
use Rattle.bgp_wire.specs.Prefixes.{octets_for}
use Rattle.bgp_wire.specs.Paths.{width_of, code_of}
use Rattle.bgp_wire.specs.Attributes.{Attribute}
use Rattle.bgp_wire.specs.Routes.{code_of_origin}

-- a length in bits, and the fewest octets that hold so many: of 16, whatever the family
abbrev pub prefix_octets : AddressPrefix → List ℕ
prefix_octets p = p.length ∷ take (octets_for p.length) (big_bytes 16 p.address)

-- a type, a count, and the AS numbers
abbrev pub segment_octets : ℕ → Segment → List ℕ
segment_octets width s = code_of s.kind ∷ length s.numbers ∷ flat_map (big_bytes width) s.numbers

abbrev pub path_octets : ℕ → List Segment → List ℕ
path_octets width path = flat_map (segment_octets width) path

-- ---- attributes

-- a length of two octets is used exactly above 255
abbrev pub is_long : List ℕ → Bool
is_long value = nat_lt 255 (length value)

abbrev pub spelled_octets : Bool → ℕ → ℕ → List ℕ → List ℕ
spelled_octets false flags kind value = flags ∷ kind ∷ length value ∷ value
spelled_octets true flags kind value = (flags + 16) ∷ kind ∷ big_bytes 2 (length value) ++ value

-- an attribute by its flags but for the one of the length, its type and its value
abbrev pub spelled : ℕ → ℕ → List ℕ → Attribute
spelled flags kind value = record {
  flags = if is_long value then flags + 16 else flags;
  kind = kind;
  value = value;
  octets = spelled_octets (is_long value) flags kind value;
}

abbrev pub optional : {A : Type 0} → (A → Attribute) → Option A → List Attribute
optional f None = []
optional f (Some x) = f x ∷ []

-- an AS number and an address
abbrev pub aggregator_value : Bool → Aggregator → List ℕ
aggregator_value as4 g = big_bytes (width_of as4) g.asn ++ big_bytes 4 g.addr

abbrev pub aggregator_flags : Bool → ℕ
aggregator_flags partial = if partial then 224 else 192

-- whether a type stands in this place: before ORIGIN, between AGGREGATOR and ORIGINATOR_ID, before MP_REACH_NLRI, or behind that
abbrev pub stands_in : Place → ℕ → Bool
stands_in First kind = kind == 0
stands_in Middle kind = kind == 8
stands_in Inner kind = not (kind == 0 || kind == 8) && nat_lt kind 14
stands_in Last kind = not (kind == 0 || kind == 8) && not (nat_lt kind 14)

-- an unrecognized one: it has passed a speaker that doesn't recognize it, so it is partial
abbrev pub unrecognized_attribute : Unrecognized → Attribute
unrecognized_attribute u = spelled 224 u.kind u.value

-- the unrecognized ones of a place
abbrev pub unrecognized_attributes : Place → List Unrecognized → List Attribute
unrecognized_attributes place us = map unrecognized_attribute (filter (λ u. stands_in place u.kind) us)

-- CLUSTER_LIST, if there is a cluster
abbrev pub clusters_attributes : List ℕ → List Attribute
clusters_attributes [] = []
clusters_attributes (c ∷ cs) = spelled 128 10 (flat_map (big_bytes 4) (c ∷ cs)) ∷ []

-- ORIGINATOR_ID and CLUSTER_LIST, if they are there
abbrev pub reflection_attributes : Reflected → List Attribute
reflection_attributes r = optional (λ n. spelled 128 9 (big_bytes 4 n)) r.originator ++ clusters_attributes r.clusters

-- one prefix, if it is there
abbrev pub listed : Option AddressPrefix → List AddressPrefix
listed None = []
listed (Some p) = p ∷ []

abbrev pub prefixes_octets : List AddressPrefix → List ℕ
prefixes_octets ps = flat_map prefix_octets ps

-- NEXT_HOP, for prefixes of IPv4
abbrev pub hop_attributes : Bool → ℕ → List Attribute
hop_attributes false next_hop = spelled 64 3 (big_bytes 4 (next_hop / 2 ^ 96)) ∷ []
hop_attributes true next_hop = []

-- MP_REACH_NLRI, for prefixes of IPv6: their families, a next hop of 16 octets behind its length, a reserved octet, and the prefixes
-- (RFC 4760, section 3)
abbrev pub reach_value : ℕ → List AddressPrefix → List ℕ
reach_value next_hop ps = 0 ∷ 2 ∷ 1 ∷ 16 ∷ (big_bytes 16 next_hop ++ 0 ∷ prefixes_octets ps)

abbrev pub reach_attributes : Bool → ℕ → List AddressPrefix → List Attribute
reach_attributes false next_hop ps = []
reach_attributes true next_hop ps = spelled 128 14 (reach_value next_hop ps) ∷ []

-- ORIGIN, AS_PATH and, for prefixes of IPv4, NEXT_HOP
abbrev pub mandatory_attributes : Bool → Bool → Attrs → List Attribute
mandatory_attributes v6 as4 a = spelled 64 1 (code_of_origin a.origin ∷ []) ∷ spelled 64 2 (path_octets (width_of as4) a.path) ∷ hop_attributes v6 a.next_hop

-- MULTI_EXIT_DISC, LOCAL_PREF, ATOMIC_AGGREGATE and AGGREGATOR, if they are there
abbrev pub further_attributes : Bool → Attrs → List Attribute
further_attributes as4 a =
    optional (λ n. spelled 128 4 (big_bytes 4 n)) a.med
    ++ optional (λ n. spelled 64 5 (big_bytes 4 n)) a.local_pref
    ++ (if a.atomic then spelled 64 6 [] ∷ [] else [])
    ++ optional (λ g. spelled (aggregator_flags g.partial) 7 (aggregator_value as4 g)) a.aggregator

-- those up to CLUSTER_LIST, by ascending type
abbrev pub leading_attributes : Bool → Bool → Attrs → List Attribute
leading_attributes v6 as4 a =
    unrecognized_attributes First a.unrecognized
    ++ mandatory_attributes v6 as4 a
    ++ further_attributes as4 a
    ++ unrecognized_attributes Middle a.unrecognized
    ++ reflection_attributes a.reflection

-- all by ascending type, of prefixes of a family
abbrev pub sent_attributes : Bool → Bool → Attrs → List AddressPrefix → List Attribute
sent_attributes v6 as4 a ps =
    leading_attributes v6 as4 a
    ++ unrecognized_attributes Inner a.unrecognized
    ++ reach_attributes v6 a.next_hop ps
    ++ unrecognized_attributes Last a.unrecognized

abbrev pub octets_of : List Attribute → List ℕ
octets_of attributes = flat_map (λ a. a.octets) attributes

-- ---- messages

-- a marker of ones, the length of the whole, a type, and a body
abbrev pub framed : ℕ → List ℕ → List ℕ
framed kind body = replicate 16 255 ++ big_bytes 2 (19 + length body) ++ kind ∷ body

-- the three fields of an UPDATE, each of the first two behind its length
abbrev pub fields_octets : List ℕ → List ℕ → List ℕ → List ℕ
fields_octets withdrawn attributes announced = big_bytes 2 (length withdrawn) ++ withdrawn ++ big_bytes 2 (length attributes) ++ attributes ++ announced

abbrev pub attrs_octets : Bool → Bool → Option Attrs → List AddressPrefix → List ℕ
attrs_octets v6 as4 None ps = []
attrs_octets v6 as4 (Some a) ps = octets_of (sent_attributes v6 as4 a ps)

-- MP_UNREACH_NLRI, where prefixes of IPv6 are withdrawn: their families, and the prefixes (RFC 4760, section 4)
abbrev pub unreach_value : List AddressPrefix → List ℕ
unreach_value ps = 0 ∷ 2 ∷ 1 ∷ prefixes_octets ps

abbrev pub unreach_octets : Bool → List AddressPrefix → List ℕ
unreach_octets false ps = []
unreach_octets true [] = []
unreach_octets true (p ∷ ps) = (spelled 128 15 (unreach_value (p ∷ ps))).octets

-- prefixes of IPv4 stand in fields of their own
abbrev pub own_octets : Bool → List AddressPrefix → List ℕ
own_octets false ps = prefixes_octets ps
own_octets true ps = []

-- An UPDATE of one family's prefixes. IPv4's have fields of their own, IPv6's stand in attributes: those that are announced in MP_REACH_NLRI
-- among the others, those that are withdrawn in MP_UNREACH_NLRI
abbrev pub update_octets : Bool → Bool → Said → List ℕ
update_octets v6 as4 s = framed 2 (fields_octets (own_octets v6 s.withdrawn) (unreach_octets v6 s.withdrawn ++ attrs_octets v6 as4 s.attrs s.announced) (own_octets v6 s.announced))

abbrev pub notification_octets : ℕ → ℕ → List ℕ → List ℕ
notification_octets code subcode octets = framed 3 (code ∷ subcode ∷ octets)

-- ---- what the fields hold

-- an AS number has its octets
abbrev pub FitsWidth : Bool → ℕ → Type 0
FitsWidth as4 asn = as4 ≡ false → asn < 65536

-- a segment's count has its octet, and each AS number its octets
pub record FitsSegment (as4 : Bool) (s : Segment) : Type 0 where
  pub some : 0 < length s.numbers
  pub few : length s.numbers ≤ 255
  pub numbers : All (FitsWidth as4) s.numbers

pub record FitsAttrs (as4 : Bool) (a : Attrs) : Type 0 where
  pub path : All (FitsSegment as4) a.path
  pub aggregator : ForSome a.aggregator (λ g. FitsWidth as4 g.asn)
