use Rattle.rib_tree.specs.Trees.{Treed, IsTree}
use Rattle.std.proofs.Common.{subst, sym}
use Rattle.rib_tree.proofs.HeldLemmas.{first_of_tree}
use Rattle.rib_tree.proofs.tree.Tree.first_loss_at.Goals as goal

pub returns : goal.returns
returns g c =
    let t : Treed = record { connected = c.self.inside.connected; statics = c.self.inside.statics; ospf = c.self.inside.ospf; rip = c.self.inside.rip } in
    rw (← c.self.view_is) (first_of_tree t (subst IsTree (sym c.self.view_is) c.requires) c.args.p c.args.addresses.now _ _ _ _ _ _ _ c.first_loss_at-2.ensures c.first_loss_at-statics.ensures c.first_loss_at-ospf.ensures c.first_loss_at.ensures c.or-dynamic.ensures c.or-below.ensures c.or.ensures)
