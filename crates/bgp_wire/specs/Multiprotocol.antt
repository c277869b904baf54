-- MP_REACH_NLRI and MP_UNREACH_NLRI on the wire: routes of IPv6 unicast in an UPDATE (RFC 4760, sections 3, 4 and 7; the next hop by RFC 2545,
-- section 3).
use Rattle.std.specs.Prelude.{◌≡◌, ◌⊎◌, ℕ, ◌+◌, List, [], ◌∷◌, ◌++◌, length, drop, Option, Some, None, Result, Ok, Err, Bool, true, not, nat_lt, ◌==◌, ◌||◌, ◌&&◌, if◌then◌else◌}
use Rattle.byteorder.specs.Endian.{big_number}
use Rattle.addr4.specs.Hosts.{is_host}
use Rattle.addr4.specs.Prefixes.{AddressPrefix}
use Rattle.bgp_wire.specs.declared.multiprotocol.Reach.{Reach}
use Rattle.bgp_wire.specs.declared.notice.Notice.{Notice}
use Rattle.bgp_wire.specs.Faults.{notice, ◌>>=◌}
use Rattle.bgp_wire.specs.Prefixes.{ArePrefixes, prefixes_at}

-- a next hop of 16 octets, or of 32 with a link-local address behind the global one, which alone counts (RFC 2545, section 3)
abbrev pub HopLength : ℕ → Type 0
HopLength n = (n ≡ 16) ⊎ (n ≡ 32)

-- MP_REACH_NLRI of IPv6 unicast: the address family, 2, and the subsequent one, 1; the next hop behind its length; a reserved octet, which
-- may be any; and the prefixes that are announced
pub record IsReach (value : List ℕ) (r : Reach) : Type 0 where
  pub hop : List ℕ
  pub reserved : ℕ
  pub prefixes : List ℕ
  pub spelled : value ≡ 0 ∷ 2 ∷ 1 ∷ length hop ∷ (hop ++ reserved ∷ prefixes)
  pub size : HopLength (length hop)
  pub next_hop : r.next_hop ≡ big_number 16 hop
  pub host : is_host true r.next_hop ≡ true
  pub announces : ArePrefixes true prefixes r.announced

-- MP_UNREACH_NLRI of IPv6 unicast: the families, and the prefixes that are withdrawn
pub record IsUnreach (value : List ℕ) (withdrawn : List AddressPrefix) : Type 0 where
  pub prefixes : List ℕ
  pub spelled : value ≡ 0 ∷ 2 ∷ 1 ∷ prefixes
  pub withdraws : ArePrefixes true prefixes withdrawn

-- a value of another address family
abbrev pub IsOther : List ℕ → Type 0
IsOther value = (rest : List ℕ) → value ≡ 0 ∷ 2 ∷ 1 ∷ rest → ⊥

-- ---- reading them

-- what stands behind the families of IPv6 unicast, as it is read; of another family nothing is. Without whole families there is a fault
unfoldable pub if_ipv6 : {A : Type 0} → Notice → (List ℕ → Result A Notice) → List ℕ → Result (Option A) Notice
if_ipv6 bad read (high ∷ low ∷ subsequent ∷ rest) = if high == 0 && (low == 2 && subsequent == 1) then (read rest >>= λ x. Ok (Some x)) else Ok None
if_ipv6 bad read short = Err bad

abbrev pub is_hop_length : ℕ → Bool
is_hop_length n = n == 16 || n == 32

-- the next hop and the prefixes: a wrong length of the next hop, one that is cut short or no host's, or a faulty prefix, is a fault
unfoldable pub reach_behind : Notice → List ℕ → Result Reach Notice
reach_behind bad [] = Err bad
reach_behind bad (size ∷ rest) =
    if not (is_hop_length size) || nat_lt (length rest) (size + 1) then Err bad
    else if not (is_host true (big_number 16 rest)) then Err bad
    else prefixes_at true bad (drop (size + 1) rest) >>= λ announced. Ok (record { next_hop = big_number 16 rest; announced = announced })

abbrev pub reach_at : Notice → List ℕ → Result (Option Reach) Notice
reach_at bad value = if_ipv6 bad (reach_behind bad) value

abbrev pub unreach_at : Notice → List ℕ → Result (Option (List AddressPrefix)) Notice
unreach_at bad value = if_ipv6 bad (prefixes_at true bad) value

-- any fault of a value has the whole attribute as its data
abbrev pub bad_value : List ℕ → Notice
bad_value octets = notice 3 9 octets

-- ---- what they say
abbrev pub announced_by : Option Reach → List AddressPrefix
announced_by None = []
announced_by (Some r) = r.announced

abbrev pub hop_by : Option Reach → Option ℕ
hop_by None = None
hop_by (Some r) = Some r.next_hop

abbrev pub withdrawn_by : Option (List AddressPrefix) → List AddressPrefix
withdrawn_by None = []
withdrawn_by (Some ps) = ps
