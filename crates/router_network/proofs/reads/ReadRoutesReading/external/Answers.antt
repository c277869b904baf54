use Rattle.router_moments.proofs.Common.{sym, ap, ◌∙◌, Route, best_rows}
use Rattle.std.proofs.Common.{Option, Bor}
use Rattle.std.specs.Option.{option_copied}
use Rattle.link_change.specs.Changes.{Change}
use Rattle.fanout_queue.specs.Readers.{row_before}
use Rattle.rib_split.specs.Splitting.{external_row}
use Rattle.router_network.proofs.ReadRows.{read_by_one}
use Rattle.router_network.proofs.reads.ReadRoutesReading.external.Goals as goal

pub best_external-requires : goal.best_external-requires
best_external-requires g c = c.args.self.now.own

pub returns-in-None : goal.returns-in-None
returns-in-None g c =
    let s = c.args.self.now in
    let best = best_rows (g.B.Branches.rows s.best.now.all.now) in
    let p = c.args.p.now in
    c.best_external.ensures
    ∙ sym (ap external_row (ap (λ (rows : _). rows p) (read_by_one s.exits.now.queue s.reader c.in_ok-reader.reader best c.in_ok-reader.was) ∙ c.first_unread.ensures best
    ∙ ap (λ (o : Option (Bor (Change Route))). row_before (option_copied o) (best p)) c.in-None.is))
