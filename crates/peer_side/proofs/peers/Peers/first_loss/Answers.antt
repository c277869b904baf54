use Rattle.std.proofs.Common.{◌∙◌}
use Rattle.std.specs.Cmp.{nat_cmp_total}
use Rattle.std.specs.BTreeMap.{values}
use Rattle.link_change.proofs.MapLemmas.{values_in}
use Rattle.peer_side.proofs.TaskLemmas.{first_stage, none_lost}
use Rattle.peer_side.proofs.peers.Peers.first_loss.Goals as goal

pub returns-clause-first : goal.returns-clause-first
returns-clause-first g c =
    let m = c.self.inside.chains in
    c.first_oldest.ensures.first ∙ first_stage c.args.self.now (values m) c.requires (values_in nat_cmp_total m c.args.self.now c.first_oldest.ensures.ordered c.self.view_is)

pub returns-clause-none : goal.returns-clause-none
returns-clause-none g c =
    let m = c.self.inside.chains in
    none_lost c.args.self.now (values m) c.first_oldest.result (values_in nat_cmp_total m c.args.self.now c.first_oldest.ensures.ordered c.self.view_is) c.first_oldest.ensures.first
