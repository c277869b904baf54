use Rattle.exit_side.proofs.LawLemmas.{stands_at_first}
use Rattle.exit_side.proofs.laws.nothing_at_first.Goals as goal

pub returns : goal.returns
returns c = stands_at_first
