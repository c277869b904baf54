use Rattle.decision.proofs.LawLemmas.{no_best_only_without_routes}
use Rattle.decision.proofs.laws.no_best_only_without_routes.Goals as goal

pub returns : goal.returns
returns c = no_best_only_without_routes
