use Rattle.router_moments.proofs.Common.{refl}
use Rattle.router_network.proofs.reads.over_best.Goals as goal

pub invariant_of-result : goal.invariant_of-result
invariant_of-result g c = record { live = c.requires; own = refl }
