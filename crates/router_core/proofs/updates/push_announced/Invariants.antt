use Rattle.router_moments.proofs.Common.{◌≡◌, ◌++◌, take, is_host_prefix, announced_with}
use Rattle.std.proofs.Common.{map}
use Rattle.std.specs.Prelude.{filter}
use Rattle.router_core.proofs.updates.push_announced.Given as goal

abbrev pub invariant-loop-prefix : goal.invariant-loop-prefix
invariant-loop-prefix g l = l.all.items ≡ l.fn.all.items ++ map (announced_with l.attrs) (filter (is_host_prefix g.F.Family.V6) (take l.prefix-index l.announced))
