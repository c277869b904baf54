use Rattle.router.proofs.AloneLemmas.{second_may}
use Rattle.router.proofs.laws.second_may_stand.Goals as goal

pub returns : goal.returns
returns c = second_may
