use Rattle.std.proofs.Common.{◌≡◌, map, sym, ◌∙◌, ap, slice_get, Some}
use Rattle.best_path.specs.Steps.{IsPlaceOfBest, pick}
use Rattle.decision.specs.Lineups.{routes_of, chosen}
use Rattle.decision.proofs.LineupLemmas.{chosen_at, copied_item, one_listed}
use Rattle.decision.proofs.Parts.{keys_of, numbers_of}
use Rattle.decision.proofs.lineup.Lineup.winner.Goals as goal

pub returns-clause-best : goal.returns-clause-best
returns-clause-best c = λ here lined.
    let best : IsPlaceOfBest (routes_of 65 here) (Some c.in_ok-place.place) = c.in_ok-place.ensures (routes_of 65 here) (keys_of here 0 65 ∙ lined.keys ∙ sym c.as_slice.ensures.value) in
    let at : c.copied.result ≡ slice_get c.args.self.now.branches.items c.in_ok-place.place =
    c.copied.ensures ∙ copied_item c.deref.result.now c.in_ok-place.place c.get.result c.get.ensures.lookup ∙ ap (λ l. slice_get l c.in_ok-place.place) c.deref.ensures.value in
    ap (chosen here) at ∙ chosen_at here c.args.self.now.branches.items (routes_of 65 here) c.in_ok-place.place (ap (map here) (sym lined.numbers) ∙ numbers_of here 0 65) best.0 ∙ sym best.1

pub returns-clause-listed : goal.returns-clause-listed
returns-clause-listed c = λ only b alone is.
    one_listed only b c.in_ok-place.place
    (sym (ap (λ l. slice_get l c.in_ok-place.place) (c.deref.ensures.value ∙ alone)) ∙ sym (c.copied.ensures ∙ copied_item c.deref.result.now c.in_ok-place.place c.get.result c.get.ensures.lookup) ∙ is)

pub returns-in_err-place-clause-best : goal.returns-in_err-place-clause-best
returns-in_err-place-clause-best c = λ here lined.
    ap (chosen here) c.from_residual.ensures
    ∙ sym (ap pick (c.in_err-place.ensures (routes_of 65 here) (keys_of here 0 65 ∙ lined.keys ∙ sym c.as_slice.ensures.value)))
