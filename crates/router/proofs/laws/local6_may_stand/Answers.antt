use Rattle.router.proofs.AloneLemmas.{local6_may}
use Rattle.router.proofs.laws.local6_may_stand.Goals as goal

pub returns : goal.returns
returns c = local6_may
