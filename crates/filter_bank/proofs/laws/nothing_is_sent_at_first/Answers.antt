use Rattle.filter_bank.proofs.OutLemmas.{makes_none_out, nothing_at_first}
use Rattle.filter_bank.proofs.laws.nothing_is_sent_at_first.Goals as goal

pub returns : goal.returns
returns c = record { none = makes_none_out; first = nothing_at_first }
