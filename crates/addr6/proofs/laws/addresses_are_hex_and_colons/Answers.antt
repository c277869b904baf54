use Rattle.addr6.proofs.PrintedLemmas.{addr_bytes, addr_short}
use Rattle.addr6.proofs.laws.addresses_are_hex_and_colons.Goals as goal

pub returns-clause-bytes : goal.returns-clause-bytes
returns-clause-bytes c = addr_bytes

pub returns-clause-short : goal.returns-clause-short
returns-clause-short c = addr_short
