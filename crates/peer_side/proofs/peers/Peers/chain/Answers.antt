use Rattle.std.proofs.Common.{◌∙◌}
use Rattle.peer_side.proofs.PutLemmas.{read_at}
use Rattle.peer_side.proofs.peers.Peers.chain.Goals as goal

pub returns : goal.returns
returns g c = c.get.ensures.value ∙ read_at c.self.inside.chains c.args.self.now c.args.number c.self.view_is
