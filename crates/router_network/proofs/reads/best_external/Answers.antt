use Rattle.router_moments.proofs.Common.{sym, subst, ap, ◌∙◌, ◌≡◌, best_rows}
use Rattle.decision.specs.Branches.{AllRows}
use Rattle.decision.specs.Lineups.{at_prefix, chosen}
use Rattle.rib_split.specs.Splitting.{external_row}
use Rattle.router_network.specs.Informed.{rows_above}
use Rattle.router_network.proofs.reads.best_external.Goals as goal

pub returns : goal.returns
returns g c =
    let p = c.args.p.now in
    let won = subst (λ (rows : AllRows). best_rows rows p ≡ chosen (at_prefix rows p) c.winner.result) c.requires c.winner.ensures in
    c.external.ensures ∙ sym (ap external_row (won ∙ ap (chosen (at_prefix (rows_above c.args.above.now) p)) c.in_ok-winner.was))
    ∙ ap (λ (rows : AllRows). external_row (best_rows rows p)) (sym c.requires)
