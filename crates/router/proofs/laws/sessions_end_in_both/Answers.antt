use Rattle.router.proofs.ReadingLemmas.{sessions_end}
use Rattle.router.proofs.laws.sessions_end_in_both.Goals as goal

pub returns : goal.returns
returns c = sessions_end
