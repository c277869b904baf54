use Rattle.std.proofs.Common.{◌++◌, ℕ, ap, sym, subst, subst₂, ◌∙◌}
use Rattle.router_moments.specs.Moments.{Cored}
use Rattle.router.specs.Networks.{Routed}
use Rattle.replay.specs.Totals.{AreTotals}
use Rattle.replay.proofs.totals.totals_of.Goals as goal

pub returns : goal.returns
returns c =
    let h = c.in_ok-push_totals.ensures in
    subst (AreTotals c.args.stream.now.router.first.moment c.args.stream.now.turns) (sym (h.2 ∙ ap (λ t. t ++ h.0) c.new-out.ensures.items))
    (subst₂ (λ (k : Cored) (t : ℕ). AreTotals k.moment t h.0) (c.first.ensures ∙ ap (λ (r : Routed). r.first) c.router.ensures) c.turns.ensures h.1)
