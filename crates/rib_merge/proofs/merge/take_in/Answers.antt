use Rattle.std.proofs.Common.{◌≡◌, ◌∙◌, not, is_some, true, false, refl, Option, Some, None, ap, sym}
use Rattle.rib_merge.specs.Merging.{row_on}
use Rattle.rib_merge.proofs.MergeLemmas.{alone, merges_on}
use Rattle.rib_merge.proofs.merge.take_in.Goals as goal

none_of : {A : Type 0} (o : Option A) → is_some o ≡ false → o ≡ None
none_of None is = refl
none_of (Some a) is = absurd (let e : true ≡ false = is in cc)

pub returns-then-is_none : goal.returns-then-is_none
returns-then-is_none g c =
    let distance = g.R.Ranked.distance in
    let none : c.args.other ≡ None = none_of c.args.other (c.is_none.ensures ∙ ap not c.if-is_none.true) in
    merges_on distance c.args.side c.args.change c.args.other _ _ c.between.result
    (alone distance c.args.side c.args.change.before ∙ ap (row_on distance c.args.side c.args.change.before) (sym none))
    (alone distance c.args.side c.args.change.after ∙ ap (row_on distance c.args.side c.args.change.after) (sym none))
    c.between.ensures
