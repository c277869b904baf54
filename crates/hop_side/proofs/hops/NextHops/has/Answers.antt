use Rattle.std.proofs.Common.{◌∙◌, Option, is_some, sym, ap}
use Rattle.std.specs.Prelude.{option_and_then}
use Rattle.nexthop_resolver.specs.declared.rows.Metric.{Metric}
use Rattle.nexthop_resolver.specs.Resolving.{Resolving}
use Rattle.hop_side.specs.Resolvers.{rows_by}
use Rattle.hop_side.proofs.PutLemmas.{read_at}
use Rattle.hop_side.proofs.HeldLemmas.{goes_on}
use Rattle.hop_side.proofs.hops.NextHops.has.Goals as goal

pub returns-in-Some-get : goal.returns-in-Some-get
returns-in-Some-get g c upper is =
    c.is_reached.ensures ∙ ap (λ (o : Option Metric). is_some (option_and_then (λ m. m.igp) o)) c.answer.ensures
    ∙ goes_on c.args.self.now c.args.number c.args.p c.in-Some.hop c.args.hop upper is c.in-Some.is c.in-Some-get.resolver.now
    (sym (c.in-Some-get.ensures.value ∙ read_at c.self.inside.resolvers c.args.self.now c.args.number c.self.view_is))

pub returns-in-None : goal.returns-in-None
returns-in-None g c upper is = ap (λ (o : Option (Resolving Metric)). is_some (rows_by o upper c.args.p)) (c.in-None.ensures.value ∙ read_at c.self.inside.resolvers c.args.self.now c.args.number c.self.view_is)
