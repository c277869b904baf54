use Rattle.std.proofs.Common.{◌≡◌, map}
use Rattle.std.specs.FinMap.{empty}
use Rattle.std.specs.Map.Iter.{deref_pair}
use Rattle.journal_check.proofs.EntryLemmas.{inserted}
use Rattle.journal_check.proofs.rows.TextRowsRow.copy.Given as goal

abbrev pub invariant-loop-p : goal.invariant-loop-p
invariant-loop-p l = l.copy ≡ inserted empty (map deref_pair l.yielded)
