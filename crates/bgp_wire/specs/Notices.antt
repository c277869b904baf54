-- The NOTIFICATION that answers a fault fits into a message.
use Rattle.std.specs.Prelude.{◌≤◌, length}
use Rattle.bgp_wire.specs.declared.notice.Notice.{Notice}
use Rattle.bgp_wire.specs.declared.message.Message.{Message}
use Rattle.bgp_wire.specs.declared.message.Message.TheVariants as messages

-- its data has at most 4,096 octets less those of the header, the code and the subcode
abbrev pub FitsMessage : Notice → Type 0
FitsMessage n = length n.octets ≤ 4075

abbrev pub HasShortNotice : Message → Type 0
HasShortNotice (messages.Notify n) = FitsMessage n
HasShortNotice other = Unit {0}
