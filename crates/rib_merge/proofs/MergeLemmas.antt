-- The merged rows before and after a change on one side.
use Rattle.std.proofs.Common.{◌≡◌, ℕ, Option, Some, None, refl, sym, ap, ◌∙◌}
use Rattle.addr4.specs.Prefixes.{AddressPrefix}
use Rattle.link_change.specs.Changes.{IsChangeOf}
use Rattle.link_change.specs.Changes.{Change}
use Rattle.link_change.proofs.ChangeLemmas.{computes_on}
use Rattle.rib_merge.specs.declared.merge.Side.{Side}
use Rattle.rib_merge.specs.declared.merge.Side.TheVariants.{Left, Right}
use Rattle.rib_merge.specs.Merging.{row_on, MergesOn}

-- over any rows of the other side, the merged rows are computed from those of this one
pub merges_on :
    {R : Type 0} (distance : R → ℕ) (side : Side) (change : Change R) (other before after : Option R) (result : Option (Change R)) →
    before ≡ row_on distance side change.before other → after ≡ row_on distance side change.after other →
    IsChangeOf change.prefix before after result → MergesOn distance side change other result
merges_on {R} distance side change other before after result b a is own now others p at =
    let merged_at : AddressPrefix → Option R → Option R = λ q row. row_on distance side row (others q) in
    computes_on merged_at change before after result
    (b ∙ ap (row_on distance side change.before) (sym at)) (a ∙ ap (row_on distance side change.after) (sym at)) is own now p

-- where the other side has no row, the merged row is the own one
pub alone : {R : Type 0} (distance : R → ℕ) (side : Side) (own : Option R) → own ≡ row_on distance side own None
alone distance Left None = refl
alone distance Left (Some row) = refl
alone distance Right own = refl
