use Rattle.rib_tree.proofs.HeldLemmas.{none_at}
use Rattle.std.proofs.Common.{sym}
use Rattle.rib_tree.proofs.held.has.Goals as goal

pub returns-then-is_before : goal.returns-then-is_before
returns-then-is_before g c = none_at c.args.deletion.now.rows c.address.result c.args.least c.is_before.result c.requires c.is_before.ensures c.if-is_before.true c.args.p (sym c.address.ensures)
