use Rattle.std.proofs.Common.{◌∙◌}
use Rattle.hop_side.proofs.PutLemmas.{read_at}
use Rattle.hop_side.proofs.hops.NextHops.resolver.Goals as goal

pub returns : goal.returns
returns g c = c.get.ensures.value ∙ read_at c.self.inside.resolvers c.args.self.now c.args.number c.self.view_is
