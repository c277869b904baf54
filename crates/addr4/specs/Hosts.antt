-- Which addresses and prefixes are those of hosts.
use Rattle.std.specs.Prelude.{ℕ, Bool, true, false, not, ◌&&◌, nat_lt, nat_le, ◌==◌, ◌*◌, ◌/◌, ◌^◌}
use Rattle.addr4.specs.Prefixes.{AddressPrefix}

-- A host may have the address. Of IPv4 its first octet is from 1 to 223, but not 127. Of IPv6 it is neither of multicast (ff00::/8) nor the
-- unspecified address :: nor the loopback address ::1 (RFC 4291, sections 2.5.2, 2.5.3 and 2.7).
abbrev pub is_host : Bool → ℕ → Bool
is_host false a = nat_le 1 (a / 2 ^ 120) && nat_le (a / 2 ^ 120) 223 && not (a / 2 ^ 120 == 127)
is_host true a = nat_lt 1 a && nat_lt a (255 * 2 ^ 120)

-- where the addresses of a family begin that are no hosts', to its end: 224.0.0.0, multicast's and behind it class E's, or ff00::
abbrev pub beyond_hosts : Bool → ℕ
beyond_hosts false = 14 * 2 ^ 124
beyond_hosts true = 255 * 2 ^ 120

-- none of those that 224.0.0.0/3, or ff00::/8, covers
abbrev pub is_host_prefix : Bool → AddressPrefix → Bool
is_host_prefix v6 p = nat_lt p.address (beyond_hosts v6)
