use Rattle.rib_exit.proofs.LawLemmas.{stands_at_first}
use Rattle.rib_exit.proofs.laws.nothing_at_first.Goals as goal

pub returns : goal.returns
returns c = stands_at_first
