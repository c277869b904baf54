use Rattle.std.proofs.Common.{◌∙◌, sym}
use Rattle.std.specs.Cmp.{nat_cmp_total}
use Rattle.std.specs.BTreeMap.{values}
use Rattle.link_change.proofs.MapLemmas.{values_in}
use Rattle.peer_side.proofs.PutLemmas.{read_at}
use Rattle.peer_side.proofs.HeldLemmas.{first_stage_held}
use Rattle.peer_side.proofs.peers.Peers.first_loss_at.Goals as goal

pub first_lost-requires : goal.first_lost-requires
first_lost-requires g c = record { few = λ k x at. (c.requires k x (sym (read_at c.self.inside.chains c.args.self.now k c.self.view_is) ∙ at)).few }

pub returns : goal.returns
returns g c =
    let m = c.self.inside.chains in
    c.first_lost.ensures.first ∙ first_stage_held c.args.self.now c.args.p (values m) c.requires (values_in nat_cmp_total m c.args.self.now c.first_lost.ensures.ordered c.self.view_is)
