-- What is gathered of the attributes, from left to right.
use Rattle.std.specs.Prelude.{◌≡◌, ℕ, List, [], ◌∷◌, ◌++◌, slice_index, slice_index_or, Option, Some, None, is_some, option_map, option_and_then, Result, Ok, Err, Bool, true, false, nat_lt, ◌==◌, ◌&&◌, not, ⊤, if◌then◌else◌}
use Rattle.std.specs.List.{list_any}
use Rattle.std.specs.Result.{result_ok}
use Rattle.byteorder.specs.Endian.{big_number}
use Rattle.bgp_wire.specs.declared.multiprotocol.Reach.{Reach}
use Rattle.bgp_wire.specs.Said.{Said}
use Rattle.bgp_wire.specs.Multiprotocol.{announced_by, hop_by, withdrawn_by}
use Rattle.addr4.specs.Prefixes.{AddressPrefix}
use Rattle.bgp_attr.specs.Attributes.{Attrs}
use Rattle.bgp_attr.specs.declared.attrs.Attrs as declared
use Rattle.bgp_attr.specs.declared.attrs.Origin.{Origin}
use Rattle.bgp_attr.specs.declared.attrs.Origin.TheVariants.{Igp, Egp, Incomplete}
use Rattle.bgp_attr.specs.declared.path.Segment.{Segment}
use Rattle.bgp_attr.specs.declared.speaker.Profile.{Profile}
use Rattle.bgp_attr.specs.declared.unrecognized.Unrecognized.{Unrecognized}
use Rattle.bgp_wire.specs.declared.attributes.Verdict.{Verdict}
use Rattle.bgp_wire.specs.declared.attributes.Verdict.TheVariants.{Keep, Discard, Withdraw}
use Rattle.bgp_wire.specs.declared.found.Found.{Found}
use Rattle.bgp_wire.specs.declared.gathered.Gathered.{Gathered}
use Rattle.bgp_wire.specs.declared.types.TypeSet.{TypeSet}
use Rattle.bgp_wire.specs.declared.message.Update.{Update}
use Rattle.bgp_wire.specs.declared.notice.Notice.{Notice}
use Rattle.bgp_wire.specs.declared.notice.Refusal.{Refusal}
use Rattle.bgp_wire.specs.Faults.{Fails}
use Rattle.bgp_wire.specs.Paths.{width_of, path_at}
use Rattle.bgp_wire.specs.Attributes.{Attribute, Kept, hop_at, judgement, attributes_at}
use Rattle.bgp_wire.specs.Routes.{kept_of, number_of, hop_of, aggregator_of, clusters_at, clusters_of, is_unrecognized, AreUnrecognized}
use Rattle.bgp_wire.specs.Updates.{lack, reach_of, unreach_of, reach_in, unreach_in}
use Rattle.bgp_wire.specs.Grammar.{without}

-- an attribute among those of ascending type
abbrev pub placed : Unrecognized → List Unrecognized → List Unrecognized
placed u [] = u ∷ []
placed u (v ∷ vs) = if nat_lt u.kind v.kind then u ∷ v ∷ vs else v ∷ placed u vs

abbrev pub origin_of : ℕ → Origin
origin_of n = if n == 0 then Igp else if n == 1 then Egp else Incomplete

-- what is found, with one more attribute
unfoldable pub found_with : Profile → Attribute → Found → Found
found_with p a found = record {
  origin = if a.kind == 1 then Some (origin_of (slice_index a.value 0)) else found.origin;
  path = if a.kind == 2 then result_ok (path_at (width_of p.as4) a.value) else found.path;
  next_hop = if a.kind == 3 then Some (hop_at a.value) else found.next_hop;
  med = if a.kind == 4 then Some (big_number 4 a.value) else found.med;
  local_pref = if a.kind == 5 then Some (big_number 4 a.value) else found.local_pref;
  atomic = if a.kind == 6 then true else found.atomic;
  aggregator = if a.kind == 7 then Some (aggregator_of p.as4 a) else found.aggregator;
  originator = if p.reflect && a.kind == 9 then Some (big_number 4 a.value) else found.originator;
  clusters = if p.reflect && a.kind == 10 then clusters_at a.value else found.clusters;
  reach = if p.v6 && a.kind == 14 then reach_of a else found.reach;
  unreach = if p.v6 && a.kind == 15 then unreach_of a else found.unreach;
  unrecognized = if is_unrecognized p a.kind then placed (record { kind = a.kind; value = a.value }) found.unrecognized else found.unrecognized;
}

-- only an attribute that is kept changes what is found
abbrev pub after : Verdict → Found → Found → Found
after Keep with_it without_it = with_it
after Discard with_it without_it = without_it
after Withdraw with_it without_it = without_it

abbrev pub is_withdraw : Verdict → Bool
is_withdraw Keep = false
is_withdraw Discard = false
is_withdraw Withdraw = true

-- an attribute was judged and taken
abbrev pub Takes : Profile → Attribute → Found → Found → Result Verdict Refusal → Result Verdict Notice → Type 0
Takes p a old new (Ok verdict) judged = (judged ≡ Ok verdict) × (new ≡ after verdict (found_with p a old) old)
Takes p a old new (Err e) judged = Fails e judged

-- what is found is what the kept attributes say
pub record Gathers (p : Profile) (kept : List Attribute) (found : Found) : Type 0 where
  pub origin : found.origin ≡ option_map (λ a. origin_of (slice_index a.value 0)) (kept_of 1 kept)
  pub path : found.path ≡ option_and_then (λ a. result_ok (path_at (width_of p.as4) a.value)) (kept_of 2 kept)
  pub next_hop : found.next_hop ≡ hop_of kept
  pub med : found.med ≡ number_of 4 kept
  pub local_pref : found.local_pref ≡ number_of 5 kept
  pub atomic : found.atomic ≡ is_some (kept_of 6 kept)
  pub aggregator : found.aggregator ≡ option_map (aggregator_of p.as4) (kept_of 7 kept)
  pub originator : found.originator ≡ (if p.reflect then number_of 9 kept else None)
  pub clusters : found.clusters ≡ (if p.reflect then clusters_of (kept_of 10 kept) else [])
  pub reach : found.reach ≡ reach_in p kept
  pub unreach : found.unreach ≡ unreach_in p kept
  pub unrecognized : AreUnrecognized p kept found.unrecognized

-- whether a type has come
abbrev pub has_type : TypeSet → ℕ → Bool
has_type types kind = slice_index_or types.has kind false

-- so far: the types that came, and what was kept
pub record IsGathered (p : Profile) (seen : List ℕ) (kept : Kept) (g : Gathered) : Type 0 where
  pub types : (kind : ℕ) → has_type g.seen kind ≡ list_any (λ k. k == kind) seen
  pub new : (kind : ℕ) → list_any (λ k. k == kind) seen ≡ false → kept_of kind kept.0 ≡ None
  pub found : Gathers p kept.0 g.found
  pub withdraw : g.withdraw ≡ kept.1

-- an attribute at the end of what is kept so far
abbrev pub added : Verdict → Attribute → Kept → Kept
added Keep a k = (k.0 ++ a ∷ [], k.1)
added Discard a k = k
added Withdraw a k = (k.0, true)

-- one more attribute was judged and gathered, whatever was before
abbrev pub GathersOne : Profile → Bool → Attribute → Gathered → Gathered → Type 0
GathersOne p external a old new =
    (seen : List ℕ) (kept : Kept) → IsGathered p seen kept old → (verdict : Verdict) × (judgement p external seen a ≡ Ok verdict) × IsGathered p (seen ++ a.kind ∷ []) (added verdict a kept) new

abbrev pub RefusesOne : Profile → Bool → Attribute → Gathered → Refusal → Type 0
RefusesOne p external a old e = (seen : List ℕ) (kept : Kept) → IsGathered p seen kept old → Fails e (judgement p external seen a)

-- the attributes were gathered to the end
abbrev pub IsGatheredTo : Profile → Bool → List ℕ → Result Gathered Refusal → Type 0
IsGatheredTo p external bytes (Ok g) = (kept : Kept) × (attributes_at p external [] bytes ≡ Ok kept) × Gathers p kept.0 g.found × (g.withdraw ≡ kept.1)
IsGatheredTo p external bytes (Err e) = Fails e (attributes_at p external [] bytes)

-- the lowest of ORIGIN, AS_PATH and, where prefixes of IPv4 are announced, NEXT_HOP that wasn't found
abbrev pub missing_from : Bool → Found → Option ℕ
missing_from ipv4 found =
    if not (is_some found.origin) then Some 1
    else if not (is_some found.path) then Some 2
    else if ipv4 && not (is_some found.next_hop) then Some 3
    else None

abbrev pub lacks_from : Profile → List AddressPrefix → List AddressPrefix → Found → Result Bool Notice
lacks_from p [] [] found = Ok false
lacks_from p [] (m ∷ ms) found = lack p (missing_from false found)
lacks_from p (n ∷ ns) ms found = lack p (missing_from true found)

-- attributes without a next hop, with one, if both are there
abbrev pub joined : Option (declared.Attrs ⊤) → Option ℕ → Option Attrs
joined (Some a) (Some next_hop) = Some (record {
  origin = a.origin;
  path = a.path;
  next_hop = next_hop;
  med = a.med;
  local_pref = a.local_pref;
  atomic = a.atomic;
  aggregator = a.aggregator;
  reflection = a.reflection;
  unrecognized = a.unrecognized;
})
joined a next_hop = None

-- the attributes of one family's routes, where ORIGIN, AS_PATH and their next hop were found
abbrev pub attrs_by : Bool → Found → Option Origin → Option (List Segment) → Option ℕ → Option Attrs
attrs_by external found (Some origin) (Some path) (Some next_hop) = Some (record {
  origin = origin;
  path = path;
  next_hop = next_hop;
  med = found.med;
  local_pref = if external then None else found.local_pref;
  atomic = found.atomic;
  aggregator = found.aggregator;
  reflection = record { originator = found.originator; clusters = found.clusters };
  unrecognized = found.unrecognized;
})
attrs_by external found origin path next_hop = None

abbrev pub attrs_from : Bool → Found → Option ℕ → Option Attrs
attrs_from external found hop = attrs_by external found found.origin found.path hop

abbrev pub attrs_for : Bool → Found → Option ℕ → List AddressPrefix → Option Attrs
attrs_for external found hop [] = None
attrs_for external found hop (n ∷ ns) = attrs_from external found hop

-- what is said of one family's prefixes, by what was found
abbrev pub said_by : Bool → Bool → Found → Option ℕ → List AddressPrefix → List AddressPrefix → Said
said_by external true found hop withdrawn announced = record { withdrawn = without announced withdrawn ++ announced; announced = []; attrs = None }
said_by external false found hop withdrawn announced = record { withdrawn = withdrawn; announced = announced; attrs = attrs_for external found hop announced }

-- the UPDATE of IPv4's prefixes and of what was found
abbrev pub update_of : Bool → Bool → List AddressPrefix → List AddressPrefix → Found → Update
update_of external withdraw withdrawn announced found = record {
  first = said_by external withdraw found found.next_hop withdrawn announced;
  second = said_by external withdraw found (hop_by found.reach) (withdrawn_by found.unreach) (announced_by found.reach);
}
