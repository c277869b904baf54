use Rattle.redist.proofs.LawLemmas.{only_own_routes}
use Rattle.redist.proofs.laws.only_own_routes.Goals as goal

pub returns : goal.returns
returns c = only_own_routes
