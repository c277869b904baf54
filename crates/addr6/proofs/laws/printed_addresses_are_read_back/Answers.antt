use Rattle.addr6.proofs.PrintedLemmas.{addr_back}
use Rattle.addr6.proofs.laws.printed_addresses_are_read_back.Goals as goal

pub returns : goal.returns
returns c = addr_back
