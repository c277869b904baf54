use Rattle.std.proofs.Common.{◌∙◌, ap}
use Rattle.safe_table.specs.Fields.{live_rows}
use Rattle.safe_table.proofs.Keeping.{live_nothing, rows_nothing}
use Rattle.safe_table.proofs.table.Table.new.Goals as goal

pub invariant_of-result : goal.invariant_of-result
invariant_of-result g c = live_nothing c.new.result.rows c.new-2.result.slots c.new.ensures c.new-2.ensures.empty

pub returns-clause-rows : goal.returns-clause-rows
returns-clause-rows g c = ap live_rows c.new.ensures ∙ rows_nothing
