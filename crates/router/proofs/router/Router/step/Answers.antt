use Rattle.std.proofs.Common.{sym, subst}
use Rattle.router.specs.Networks.{Routed, BothStand}
use Rattle.router.proofs.RouterLemmas.{exact_both}
use Rattle.router.proofs.router.Router.step.Goals as goal

pub returns-in-Ok-clause-exact : goal.returns-in-Ok-clause-exact
returns-in-Ok-clause-exact c = exact_both c.rows_at_rest_are_exact.ensures c.self-2.inside.first c.self-2.inside.second (subst (λ (r : Routed). BothStand r.first r.second) (sym c.self-2.view_is) c.in-Ok.ensures.stands)
