use Rattle.std.proofs.Common.{false}
use Rattle.event_gen.proofs.lines.withdraw_octets.Goals as goal

pub returns : goal.returns
returns c = rw c.block.ensures at (c.write_withdrawal.ensures false)
