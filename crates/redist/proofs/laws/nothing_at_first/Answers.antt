use Rattle.redist.proofs.LawLemmas.{makes_none, nothing_at_first}
use Rattle.redist.proofs.laws.nothing_at_first.Goals as goal

pub returns : goal.returns
returns c = record { none = makes_none; first = nothing_at_first }
