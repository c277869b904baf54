use Rattle.nexthop_resolver.proofs.MoveLemmas.{nothing_named}
use Rattle.nexthop_resolver.proofs.resolver.Resolver.new.Goals as goal

pub invariant_of-result : goal.invariant_of-result
invariant_of-result g c = nothing_named c.new.result c.new-2.result c.new.ensures c.new-2.ensures
