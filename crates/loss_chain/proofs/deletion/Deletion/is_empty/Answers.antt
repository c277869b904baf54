use Rattle.std.proofs.Common.{◌∙◌, ap}
use Rattle.std.specs.FinMap as map
use Rattle.link_change.proofs.RowLemmas.{counted_empty}
use Rattle.loss_chain.proofs.deletion.Deletion.is_empty.Goals as goal

pub returns-clause-empty : goal.returns-clause-empty
returns-clause-empty g c = counted_empty c.args.self.now.rows c.len.result (c.len.ensures ∙ ap (λ d. map.len d.rows) c.self.view_is)
