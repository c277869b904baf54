use Rattle.std.proofs.Common.{◌∙◌}
use Rattle.std.specs.Cmp.{nat_cmp_total}
use Rattle.std.specs.BTreeMap.{values}
use Rattle.link_change.proofs.MapLemmas.{values_in}
use Rattle.peer_side.proofs.HeldLemmas.{first_walk_held}
use Rattle.peer_side.proofs.peers.Peers.first_walk_at.Goals as goal

pub returns : goal.returns
returns g c =
    let m = c.self.inside.chains in
    c.first_walking.ensures.first ∙ first_walk_held c.args.self.now c.args.p (values m) c.requires (values_in nat_cmp_total m c.args.self.now c.first_walking.ensures.ordered c.self.view_is)
