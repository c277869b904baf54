use Rattle.addr6.proofs.PrintedLemmas.{prefix_back}
use Rattle.addr6.proofs.laws.printed_prefixes_are_read_back.Goals as goal

pub returns : goal.returns
returns c = prefix_back
