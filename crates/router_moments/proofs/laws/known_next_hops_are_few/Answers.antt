use Rattle.router_moments.proofs.MostLemmas.{known_below, external_known_few}
use Rattle.router_moments.proofs.laws.known_next_hops_are_few.Goals as goal

pub returns : goal.returns
returns c = λ m stands. record { peers = known_below m stands; external = external_known_few m stands }
