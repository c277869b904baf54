use Rattle.std.proofs.Common.{◌∙◌, ap, Option}
use Rattle.nexthop_resolver.specs.declared.rows.Metric.{Metric}
use Rattle.nexthop_resolver.specs.Resolving.{Resolving}
use Rattle.hop_side.specs.Resolvers.{lags_by}
use Rattle.hop_side.proofs.PutLemmas.{read_at}
use Rattle.hop_side.proofs.hops.NextHops.holds_up.Goals as goal

pub returns-in-Some : goal.returns-in-Some
returns-in-Some g c = c.lags.ensures ∙ ap (λ (o : Option (Resolving Metric)). lags_by o c.args.p c.args.hop) (c.in-Some.ensures.value ∙ read_at c.self.inside.resolvers c.args.self.now c.args.number c.self.view_is)

pub returns-in-None : goal.returns-in-None
returns-in-None g c = ap (λ (o : Option (Resolving Metric)). lags_by o c.args.p c.args.hop) (c.in-None.ensures.value ∙ read_at c.self.inside.resolvers c.args.self.now c.args.number c.self.view_is)
