use Rattle.router_moments.proofs.CoreLemmas.{core_tells}
use Rattle.router_moments.proofs.Common.{ap, ◌∙◌}
use Rattle.router_moments.specs.Moments.{Cored}
use Rattle.router_core.proofs.router.Core.settled.Goals as goal

pub first_held-requires-clause-informed : goal.first_held-requires-clause-informed
first_held-requires-clause-informed g c = (c.self.invariant (ap (λ (x : Cored). x.failed) c.self.view_is ∙ c.requires.good)).1

pub returns : goal.returns
returns g c = core_tells c.args.self.now c.self.inside.network c.self.inside.events c.self.inside.failed c.args.p c.first_held.result c.self.view_is c.requires c.the_first_task_tells.ensures c.first_held.ensures
