use Rattle.router_moments.proofs.Common.{sym, subst, IsHops, Moment}
use Rattle.router_network.proofs.network.Network.inform.Goals as goal

pub reach-requires : goal.reach-requires
reach-requires g c = record { sound = subst (λ (m : Moment). IsHops m.hops) (sym c.self.view_is) c.requires.hops }
