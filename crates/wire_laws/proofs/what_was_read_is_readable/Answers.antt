use Rattle.bgp_wire.proofs.ReadableMessages.{read_is_readable}
use Rattle.wire_laws.proofs.what_was_read_is_readable.Goals as goal

pub returns : goal.returns
returns c = read_is_readable
