use Rattle.std.specs.FinMap as map
use Rattle.addr4.specs.Places.{key_of}
use Rattle.link_change.specs.Rows.{with_rows}
use Rattle.loss_chain.specs.Stages.{rows_of}
use Rattle.loss_chain.proofs.RowLemmas.{next_below}
use Rattle.loss_chain.proofs.stage.Stage.+next_candidate.Goals as goal

pub returns-in-Deletion : goal.returns-in-Deletion
returns-in-Deletion g t c =
    let upper = rows_of c.in-Deletion.upper.value in
    let above = rw c.deref.ensures at c.next_candidate-above.ensures in
    rw c.in-Deletion.is
    (next_below (map.get c.in-Deletion.deletion.rows) upper (key_of c.args.after.now) c.nearer.result
    (c.nearer.ensures (with_rows (map.get c.in-Deletion.deletion.rows)) (with_rows upper) (key_of c.args.after.now) c.next_held.ensures above))
