use Rattle.std.proofs.Common.{◌∙◌, ap}
use Rattle.hop_side.specs.Resolvers.{busy_by}
use Rattle.hop_side.proofs.PutLemmas.{read_at}
use Rattle.hop_side.proofs.hops.NextHops.has_work.Goals as goal

pub returns-in-Some : goal.returns-in-Some
returns-in-Some g c = c.is_busy.ensures ∙ ap busy_by (c.in-Some.ensures.value ∙ read_at c.self.inside.resolvers c.args.self.now c.args.number c.self.view_is)

pub returns-in-None : goal.returns-in-None
returns-in-None g c = ap busy_by (c.in-None.ensures.value ∙ read_at c.self.inside.resolvers c.args.self.now c.args.number c.self.view_is)
