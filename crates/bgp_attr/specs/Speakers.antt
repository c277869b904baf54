-- What a speaker and its neighbours must be (RFC 4271, section 4.2; RFC 6793, section 3; RFC 4456, section 6).
use Rattle.std.specs.Prelude.{◌≡◌, ℕ, ◌^◌, ◌<◌, ◌≤◌, ◌==◌, Bool, true, false, if◌then◌else◌}
use Rattle.bgp_attr.specs.declared.speaker.Speaker as declared
use Rattle.bgp_attr.specs.declared.speaker.Neighbour.{Neighbour}
use Rattle.bgp_attr.specs.declared.speaker.Profile.{Profile}
use Rattle.addr4.specs.Families.{IsAddress}
use Rattle.addr4.specs.Hosts.{is_host}

-- this speaker, whatever the family of its address
abbrev pub Speaker : Type 0
Speaker = declared.Speaker ℕ

-- a profile of the network of a family: its routes are said, so it is spoken
pub record IsProfileOf (v6 : Bool) (p : Profile) : Type 0 where
  pub second : p.second ≡ v6
  pub spoken : v6 ≡ true → p.v6 ≡ true

-- AS numbers are below it: those of four octets, or of two
abbrev pub asn_bound : Bool → ℕ
asn_bound as4 = if as4 then 2 ^ 32 else 65536

-- an AS number from 1 that has its octets, an ID other than 0.0.0.0, and the address of a host, of IPv6 or not
pub record IsSpeaker (v6 as4 : Bool) (s : Speaker) : Type 0 where
  pub asn_least : 0 < s.asn
  pub asn_most : s.asn < asn_bound as4
  pub id_least : 0 < s.id
  pub id_fits : s.id < 2 ^ 32
  pub host : is_host v6 s.addr ≡ true
  pub addr_fits : IsAddress v6 s.addr

-- a speaker of IPv4 with a number from 1 to 64
pub record IsNeighbour (as4 : Bool) (w : Neighbour) : Type 0 where
  pub least : 0 < w.number
  pub most : w.number ≤ 64
  pub speaker : IsSpeaker false as4 (record { asn = w.asn; id = w.id; addr = w.addr })

-- there are clients only of a route reflector
abbrev pub MayBeClient : Profile → Bool → Type 0
MayBeClient p client = client ≡ true → p.reflect ≡ true

-- one of this speaker's: internal where both have the same AS, a client only where it is internal, and with another address
pub record IsNeighbourOf (p : Profile) (local : Speaker) (w : Neighbour) : Type 0 where
  pub neighbour : IsNeighbour p.as4 w
  pub internal : w.internal ≡ (local.asn == w.asn)
  pub client : w.client ≡ true → w.internal ≡ true
  pub reflected : MayBeClient p w.client
  pub foreign : (local.addr == w.addr) ≡ false
