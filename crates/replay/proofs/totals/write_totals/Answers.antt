use Rattle.std.proofs.Common.{sym, ◌∙◌}
use Rattle.replay.proofs.totals.write_totals.Goals as goal

pub returns-clause-front : goal.returns-clause-front
returns-clause-front g c = λ is.
    let w = c.in-Err.ensures.front in
    (w.0, w.1, (c.in-Ok.totals.items, c.in-Ok.ensures, (w.2.0, sym c.as_slice.ensures.value ∙ w.2.1)))
