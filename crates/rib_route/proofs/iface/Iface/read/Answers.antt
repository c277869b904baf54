use Rattle.std.proofs.Common.{rules}
use Rattle.rib_route.proofs.IfaceLemmas.{kept}
use Rattle.rib_route.proofs.iface.Iface.read.Goals as goal

pub invariant_of-result : goal.invariant_of-result
invariant_of-result c = rw c.copy_from_slice.ensures.after (kept c.args.text.now (search rules))
