use Rattle.nexthop_resolver.proofs.HeldLemmas as held
use Rattle.nexthop_resolver.proofs.laws.exact_unless_held_up.Goals as goal

pub returns-clause-exact : goal.returns-clause-exact
returns-clause-exact g c = held.exact_unless_held_up

pub returns-clause-idle : goal.returns-clause-idle
returns-clause-idle g c = held.none_held_up_at_rest
