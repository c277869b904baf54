use Rattle.router.proofs.UpdateLemmas.{update_told}
use Rattle.router.proofs.laws.update_is_told.Goals as goal

pub returns : goal.returns
returns c = update_told c.sessions_end.ensures
