-- The best rows, and what a branch's change makes of them.
use Rattle.std.proofs.Common.{◌≡◌, ℕ, if◌then◌else◌, Option, refl, sym, ◌∙◌, ap, subst}
use Rattle.addr4.specs.Prefixes.{AddressPrefix}
use Rattle.link_change.specs.Rows.{Rows, computed_rows}
use Rattle.link_change.specs.Changes.{IsSent, IsChangeOf}
use Rattle.link_change.specs.Changes.{Change}
use Rattle.link_change.proofs.RowLemmas.{same_function}
use Rattle.link_change.proofs.ChangeLemmas.{computes_on}
use Rattle.bgp_attr.specs.Routes.{Route}
use Rattle.best_path.specs.Steps.{pick}
use Rattle.decision.specs.Branches.{AllRows, best_rows, OthersStay, Decides}
use Rattle.decision.specs.Lineups.{at_prefix, routes_of, with_own}
use Rattle.decision.proofs.LineupLemmas.{by_number}

pub best_is : (rows : AllRows) (p : AddressPrefix) → best_rows rows p ≡ pick (routes_of 65 (at_prefix rows p))
unfolding best_rows
best_is rows p = refl

-- the best at a prefix where one branch has this row, and the others have theirs
abbrev pub best_beside : ℕ → AllRows → AddressPrefix → Option Route → Option Route
best_beside branch now q row = pick (routes_of 65 (with_own branch row (at_prefix now q)))

-- the best rows are computed from those of one branch
best_by_branch : (branch : ℕ) (now rows : AllRows) → OthersStay branch rows now → best_rows rows ≡ computed_rows (best_beside branch now) (rows branch)
best_by_branch branch now rows stay = same_function _ _ (λ q.
    best_is rows q
    ∙ ap (λ h. pick (routes_of 65 h))
    (same_function (at_prefix rows q) (with_own branch (rows branch q) (at_prefix now q)) (λ b.
    by_number b branch (λ t. rows b q ≡ (if t then rows branch q else now b q))
    (λ same. ap (λ n. rows n q) same)
    (λ differ. ap (λ (r : Rows Route). r q) (stay b differ)))))

pub decides : (branch : ℕ) (now : AllRows) (change : Change Route) (before after : Option Route) (result : Option (Change Route))
    → before ≡ best_beside branch now change.prefix change.before → after ≡ best_beside branch now change.prefix change.after
    → IsChangeOf change.prefix before after result → Decides branch now change result
decides branch now change before after result b a is rows p stay sent =
    let old = best_by_branch branch now rows stay in
    let new = best_by_branch branch now now (λ b differ. refl) in
    subst (λ r. IsSent (best_rows rows) r p result) (sym new)
    (subst (λ r. IsSent r (computed_rows (best_beside branch now) (now branch)) p result) (sym old)
    (computes_on (best_beside branch now) change before after result b a is (rows branch) (now branch) p sent))
