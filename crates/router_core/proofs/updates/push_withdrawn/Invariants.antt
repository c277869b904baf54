use Rattle.router_moments.proofs.Common.{◌≡◌, ◌++◌, take, withdrawn_from}
use Rattle.std.proofs.Common.{map}
use Rattle.bgp_wire.specs.Grammar.{without}
use Rattle.router_core.proofs.updates.push_withdrawn.Given as goal

abbrev pub invariant-loop-prefix : goal.invariant-loop-prefix
invariant-loop-prefix g l = l.all.items ≡ l.fn.all.items ++ map withdrawn_from (without l.announced (take l.prefix-index l.withdrawn))
