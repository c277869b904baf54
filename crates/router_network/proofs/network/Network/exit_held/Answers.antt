use Rattle.router_moments.proofs.Common.{refl, best_of}
use Rattle.router_moments.specs.declared.tasks.Phase.TheVariants.{Out}
use Rattle.router_moments.proofs.HopTurns.{exits_sound}
use Rattle.router_moments.proofs.NextLemmas.{held_of_exits}
use Rattle.router_network.proofs.network.Network.exit_held.Goals as goal

pub first_held-requires : goal.first_held-requires
first_held-requires g c = record { sound = exits_sound c.args.self.now _ c.self.view_is c.requires.stands }

pub returns : goal.returns
returns g c = held_of_exits Out c.args.self.now _ c.args.p c.first_held.result c.exit_of.result refl c.self.view_is (c.first_held.ensures (best_of c.args.self.now) c.has_best-there.ensures) c.exit_of.ensures
