-- Whole messages, with the first fault (RFC 4271, sections 4.1, 4.3, 6.1 and 6.3; RFC 2918, section 3).
use Rattle.std.specs.Prelude.{ℕ, ◌+◌, ◌*◌, ◌&&◌, option_and_then, List, [], ◌∷◌, length, take, drop, slice_index, Option, Some, None, Result, Ok, Err, Bool, true, false, nat_lt, ◌==◌, ◌||◌, not, if◌then◌else◌}
use Rattle.std.specs.List.{list_any, list_all}
use Rattle.addr4.specs.Prefixes.{AddressPrefix}
use Rattle.bgp_attr.specs.declared.speaker.Profile.{Profile}
use Rattle.bgp_wire.specs.declared.header.UpdateFields.{UpdateFields}
use Rattle.bgp_wire.specs.declared.message.RouteRefresh.{RouteRefresh}
use Rattle.bgp_wire.specs.declared.notice.Notice.{Notice}
use Rattle.bgp_wire.specs.Faults.{notice, err_of, ◌>>=◌}
use Rattle.std.specs.Result.{result_ok}
use Rattle.bgp_wire.specs.declared.multiprotocol.Reach.{Reach}
use Rattle.bgp_wire.specs.Prefixes.{prefixes_at}
use Rattle.bgp_wire.specs.Multiprotocol.{bad_value, reach_at, unreach_at, announced_by}
use Rattle.bgp_wire.specs.Attributes.{Attribute, attributes_at}
use Rattle.bgp_wire.specs.Routes.{multiprotocol_of}

-- two octets as a number
abbrev pub number_at : List ℕ → ℕ → ℕ
number_at bytes i = slice_index bytes i * 256 + slice_index bytes (i + 1)

abbrev pub is_marked : List ℕ → Bool
is_marked bytes = list_all (λ b. b == 255) (take 16 bytes)

abbrev pub length_field : List ℕ → List ℕ
length_field bytes = take 2 (drop 16 bytes)

-- whether a message of a type has fewer octets than it must, or of a KEEPALIVE or a ROUTE-REFRESH any more
abbrev pub has_wrong_length : ℕ → ℕ → Bool
has_wrong_length kind size =
    if kind == 1 then nat_lt size 29
    else if kind == 2 then nat_lt size 23
    else if kind == 3 then nat_lt size 21
    else if kind == 4 then not (size == 19)
    else not (size == 23)

-- the type of a message
unfoldable pub header_at : List ℕ → Result ℕ Notice
header_at bytes =
    if nat_lt (length bytes) 19 then Err (notice 1 2 [])
    else if not (is_marked bytes) then Err (notice 1 1 [])
    else if nat_lt (number_at bytes 16) 19 || nat_lt 4096 (number_at bytes 16) || not (number_at bytes 16 == length bytes) then Err (notice 1 2 (length_field bytes))
    else if slice_index bytes 18 == 0 || nat_lt 5 (slice_index bytes 18) then Err (notice 1 3 (take 1 (drop 18 bytes)))
    else if has_wrong_length (slice_index bytes 18) (length bytes) then Err (notice 1 2 (length_field bytes))
    else Ok (slice_index bytes 18)

-- the three fields of an UPDATE
pub record Fields : Type 0 where
  pub withdrawn : List ℕ
  pub attributes : List ℕ
  pub announced : List ℕ

abbrev pub fields_of : UpdateFields → Fields
fields_of fields = record { withdrawn = fields.withdrawn.now; attributes = fields.attributes.now; announced = fields.announced.now }

unfoldable pub fields_at : List ℕ → Result Fields Notice
fields_at bytes =
    if nat_lt (length bytes) (number_at bytes 19 + 23) then Err (notice 3 1 [])
    else if nat_lt (length bytes) (number_at bytes 19 + number_at bytes (21 + number_at bytes 19) + 23) then Err (notice 3 1 [])
    else Ok (record {
      withdrawn = take (number_at bytes 19) (drop 21 bytes);
      attributes = take (number_at bytes (21 + number_at bytes 19)) (drop (23 + number_at bytes 19) bytes);
      announced = drop (23 + number_at bytes 19 + number_at bytes (21 + number_at bytes 19)) bytes;
    })

abbrev pub has_kind : ℕ → List Attribute → Bool
has_kind kind kept = list_any (λ a. a.kind == kind) kept

-- what a kept attribute of these types says
abbrev pub reach_of : Attribute → Option Reach
reach_of a = option_and_then (λ r. r) (result_ok (reach_at (bad_value a.octets) a.value))

abbrev pub unreach_of : Attribute → Option (List AddressPrefix)
unreach_of a = option_and_then (λ ps. ps) (result_ok (unreach_at (bad_value a.octets) a.value))

abbrev pub reach_in : Profile → List Attribute → Option Reach
reach_in p kept = option_and_then reach_of (multiprotocol_of p 14 kept)

abbrev pub unreach_in : Profile → List Attribute → Option (List AddressPrefix)
unreach_in p kept = option_and_then unreach_of (multiprotocol_of p 15 kept)

-- the lowest type that an announcement lacks: ORIGIN or AS_PATH, or, where prefixes of IPv4 are announced, NEXT_HOP
abbrev pub missing : Bool → List Attribute → Option ℕ
missing ipv4 kept =
    if not (has_kind 1 kept) then Some 1
    else if not (has_kind 2 kept) then Some 2
    else if ipv4 && not (has_kind 3 kept) then Some 3
    else None

-- what an UPDATE holds: the prefixes of IPv4 in its own fields, those of IPv6 in MP_REACH_NLRI and MP_UNREACH_NLRI, the attributes that are
-- kept, and whether it is a withdraw
pub record Reading : Type 0 where
  pub withdrawn : List AddressPrefix
  pub announced : List AddressPrefix
  pub reach : Option Reach
  pub unreach : Option (List AddressPrefix)
  pub kept : List Attribute
  pub withdraw : Bool

abbrev pub lack : Profile → Option ℕ → Result Bool Notice
lack p None = Ok false
lack p (Some kind) = if p.revised then Ok true else Err (notice 3 3 (kind ∷ []))

-- by the prefixes of IPv4 and of IPv6 that are announced
abbrev pub lacks : Profile → List AddressPrefix → List AddressPrefix → List Attribute → Result Bool Notice
lacks p [] [] kept = Ok false
lacks p [] (m ∷ ms) kept = lack p (missing false kept)
lacks p (n ∷ ns) ms kept = lack p (missing true kept)

abbrev pub bad_prefix : Notice
bad_prefix = notice 3 10 []

unfoldable pub reading_at : Profile → Bool → List ℕ → Result Reading Notice
reading_at p external bytes = do
  fields ← fields_at bytes
  withdrawn ← prefixes_at false bad_prefix fields.withdrawn
  kept ← attributes_at p external [] fields.attributes
  announced ← prefixes_at false bad_prefix fields.announced
  lacking ← lacks p announced (announced_by (reach_in p kept.0)) kept.0
  Ok (record {
    withdrawn = withdrawn;
    announced = announced;
    reach = reach_in p kept.0;
    unreach = unreach_in p kept.0;
    kept = kept.0;
    withdraw = kept.1 || lacking;
  })

-- what a ROUTE-REFRESH asks for: the family behind the header, and behind it and the reserved octet that of its routes
abbrev pub refresh_at : List ℕ → RouteRefresh
refresh_at bytes = record { afi = number_at bytes 19; safi = slice_index bytes 22 }

-- what a message holds
pub data Content : Type 0 where
  update : Reading → Content
  keepalive : Content
  notification : Content
  opening : Content
  refresh : RouteRefresh → Content

abbrev pub content_for : Profile → Bool → List ℕ → ℕ → Result Content Notice
content_for p external bytes kind =
    if kind == 1 then Ok opening
    else if kind == 3 then Ok notification
    else if kind == 4 then Ok keepalive
    else if kind == 5 then Ok (refresh (refresh_at bytes))
    else reading_at p external bytes >>= λ r. Ok (update r)

-- what octets hold, or their first fault
unfoldable pub content_at : Profile → Bool → List ℕ → Result Content Notice
content_at p external bytes = header_at bytes >>= λ kind. content_for p external bytes kind

-- the first fault of a message, or none, from a peer that is external or internal
abbrev pub fault : Profile → Bool → List ℕ → Option Notice
fault p external bytes = err_of (content_at p external bytes)
