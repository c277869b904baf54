use Rattle.std.proofs.Common.{◌∙◌, not, ap}
use Rattle.rib_tree.proofs.MergeLemmas.{goes_alone}
use Rattle.rib_tree.proofs.merging.merge.Goals as goal

pub returns-then-is_none : goal.returns-then-is_none
returns-then-is_none g c = goes_alone c.args.side c.args.change.now c.args.other (c.is_none.ensures ∙ ap not c.if-is_none.true)
