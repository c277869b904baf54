use Rattle.std.proofs.Common.{◌∙◌, ap}
use Rattle.peer_side.specs.Peers.{overdue_by}
use Rattle.peer_side.proofs.PutLemmas.{read_at}
use Rattle.peer_side.proofs.peers.Peers.overdue.Goals as goal

pub returns-in-Some : goal.returns-in-Some
returns-in-Some g c = c.overdue.ensures ∙ ap overdue_by (c.in-Some.ensures.value ∙ read_at c.self.inside.chains c.args.self.now c.args.number c.self.view_is)

pub returns-in-None : goal.returns-in-None
returns-in-None g c = ap overdue_by (c.in-None.ensures.value ∙ read_at c.self.inside.chains c.args.self.now c.args.number c.self.view_is)
