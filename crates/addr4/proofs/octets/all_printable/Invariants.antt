use Rattle.std.proofs.Common.{◌≡◌, ◌&&◌, nat_le, take}
use Rattle.std.specs.List.{list_all}
use Rattle.addr4.proofs.octets.all_printable.Given as goal

abbrev pub invariant-loop-byte : goal.invariant-loop-byte
invariant-loop-byte l = l.all ≡ list_all (λ b. nat_le 32 b && nat_le b 126) (take l.byte-index l.text)
