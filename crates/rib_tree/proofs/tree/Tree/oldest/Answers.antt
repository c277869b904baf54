use Rattle.rib_tree.proofs.RestLemmas.{first_of_branches}
use Rattle.rib_tree.proofs.tree.Tree.oldest.Goals as goal

pub returns : goal.returns
returns g c =
    rw (← c.self.view_is) (first_of_branches (record { connected = c.self.inside.connected; statics = c.self.inside.statics; ospf = c.self.inside.ospf; rip = c.self.inside.rip }) _ _ _ _ _ _ _ c.oldest-connected.ensures c.oldest-statics.ensures c.oldest-ospf.ensures c.oldest.ensures c.or.ensures c.or-2.ensures c.or-3.ensures)
