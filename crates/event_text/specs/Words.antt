-- What single words of a line say.
use Rattle.std.specs.Prelude.{ℕ, Bool, true, false, not, ◌&&◌, ◌||◌, if◌then◌else◌, List, [], ◌∷◌, drop, length, nat_le, ◌==◌, Option, Some, None, codes}
use Rattle.std.specs.Result.{result_ok}
use Rattle.std.specs.Str.{bytes_eq}
use Rattle.std.specs.List.{list_all}
use Rattle.hex.specs.Hex.{decode_of}
use Rattle.addr4.specs.Texts.{number_of, number_below, addr_of, id_of}
use Rattle.addr4.specs.Hosts.{is_host}
use Rattle.bgp_attr.specs.Speakers.{asn_bound}
use Rattle.bgp_attr.specs.Speakers.{Speaker}
use Rattle.bgp_attr.specs.declared.speaker.Profile.{Profile}
use Rattle.rib_route.specs.Ifaces.{iface_of}
use Rattle.rib_route.specs.declared.Proto.{Proto}
use Rattle.rib_route.specs.Rows.{Interior}
use Rattle.journal_text.specs.Names.{is_marked, link_of, task_of}
use Rattle.journal_text.specs.declared.link.Link.{Link}
use Rattle.journal_text.specs.declared.link.Task.{Task}
use Rattle.policy_rules.specs.Words.{◌>>=◌}

-- at most 16,384 bytes, all from 32 to 126
unfoldable pub is_clean : List ℕ → Bool
is_clean line = nat_le (length line) 16384 && list_all (λ b. nat_le 32 b && nat_le b 126) line

-- a number from 1
unfoldable pub from_one : List ℕ → Option ℕ
from_one word = do
  n ← number_of word
  if n == 0 then None else Some n

-- the words `AS`, `ID` and `ADDR`: an AS number from 1 that has its octets, four or two, an ID other than 0.0.0.0, and the address of a host
unfoldable pub speaker_by : Bool → List ℕ → List ℕ → List ℕ → Option Speaker
speaker_by as4 asn id addr = do
  a ← number_below (asn_bound as4) asn
  i ← id_of id
  h ← addr_of false addr
  if a == 0 || i == 0 || not (is_host false h) then None else Some (record { asn = a; id = i; addr = h })

-- `AS ID ADDR` and no other word
unfoldable pub speaker_of : Bool → List (List ℕ) → Option Speaker
speaker_of as4 (asn ∷ id ∷ addr ∷ []) = speaker_by as4 asn id addr
speaker_of as4 other = None

-- whether a peer is a client, by the words behind its address: `client`, which only a route reflector has, or none
unfoldable pub client_of : Profile → List (List ℕ) → Option Bool
client_of p [] = Some false
client_of p (word ∷ []) = if p.reflect && bytes_eq word (codes "client") then Some true else None
client_of p other = None

-- the octets that hex digits spell, at least one
unfoldable pub octets_of : List ℕ → Option (List ℕ)
octets_of digits = do
  octets ← result_ok (decode_of digits)
  if length octets == 0 then None else Some octets

-- an interface and a metric, behind `direct` or the gateway
unfoldable pub way_out : Proto → Option ℕ → List (List ℕ) → Option Interior
way_out proto gateway (name ∷ metric ∷ []) = do
  i ← iface_of name
  m ← number_of metric
  Some (record { proto = proto; gateway = gateway; iface = i; metric = m })
way_out proto gateway other = None

-- `GATEWAY IF METRIC`, with a gateway of the family
unfoldable pub way_over : Bool → Proto → List (List ℕ) → Option Interior
way_over v6 proto [] = None
way_over v6 proto (gateway ∷ ws) = addr_of v6 gateway >>= λ g. way_out proto (Some g) ws

-- `direct IF METRIC` or `via GATEWAY IF METRIC`
unfoldable pub interior_of : Bool → Proto → List (List ℕ) → Option Interior
interior_of v6 proto [] = None
interior_of v6 proto (way ∷ ws) =
    if bytes_eq way (codes "direct") then way_out proto None ws
    else if bytes_eq way (codes "via") then way_over v6 proto ws
    else None

-- `on` or `off`
unfoldable pub switch_of : List ℕ → Option Bool
switch_of word =
    if bytes_eq word (codes "on") then Some true
    else if bytes_eq word (codes "off") then Some false
    else None

-- the link of a name, where it is one of the network of the family: IPv6's have a mark in front
unfoldable pub link_named : Bool → List ℕ → Option Link
link_named false name = link_of name
link_named true name = if is_marked name then link_of (drop 2 name) else None

-- the task of a name, likewise
unfoldable pub task_named : Bool → List ℕ → Option Task
task_named false name = task_of name
task_named true name = if is_marked name then task_of (drop 2 name) else None

-- the address of a host of IPv6
unfoldable pub host6_of : List ℕ → Option ℕ
host6_of word = do
  a ← addr_of true word
  if is_host true a then Some a else None
