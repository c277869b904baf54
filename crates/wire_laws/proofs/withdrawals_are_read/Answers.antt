use Rattle.wire_laws.proofs.SpelledMessages.{withdrawal_is_read}
use Rattle.wire_laws.proofs.withdrawals_are_read.Goals as goal

pub returns : goal.returns
returns c = withdrawal_is_read
