-- What each call makes of the tree, from what it makes of a branch.
use Rattle.std.proofs.Common.{◌≡◌, ℕ, List, [], ◌∷◌, ◌++◌, Option, Some, None, is_some, sym, ap, subst, ◌∙◌}
use Rattle.addr4.specs.Prefixes.{AddressPrefix}
use Rattle.rib_route.specs.declared.Proto.{Proto}
use Rattle.rib_route.specs.Rows.{Interior}
use Rattle.link_change.specs.Turns.{taken_turn}
use Rattle.link_change.specs.Changes.{Change}
use Rattle.link_change.specs.declared.turn.Turn.TheVariants.{Nothing, Quiet, Sent}
use Rattle.journal_text.specs.declared.link.Link.{Link}
use Rattle.journal_text.specs.declared.link.Link.TheVariants.{Org, Int}
use Rattle.journal_text.specs.declared.link.Task.TheVariants.{Rdel}
use Rattle.journal_text.specs.Lines.{Value}
use Rattle.journal_text.specs.Lines.{Entry}
use Rattle.journal_text.specs.Journals.{Journaled, Adds}
use Rattle.loss_chain.specs.declared.owner.Owner.TheVariants.{Origin}
use Rattle.loss_chain.specs.Tables.{NoneEmpty, OneEmptyAtMost}
use Rattle.loss_chain.specs.Falls.{way_down, way_from}
use Rattle.loss_chain.specs.Steps.{swept_tables, weld_entries as chain_weld_entries}
use Rattle.rib_tree.specs.Branches.{Branch, org_rows, IsBranch, FallsBranch, LeadsBranch}
use Rattle.rib_tree.specs.BranchSteps.{with_tables, weld_entries, IsTakenBranch}
use Rattle.rib_tree.specs.Trees.{Treed, branch_of, put_branch, int_rows, IsTree, IsFull, IsFullBut}
use Rattle.rib_tree.specs.Falls.{merge_below, way_of_route, way_of_sweep, LeadsTree, FallsTree}
use Rattle.rib_tree.specs.Steps.{tree_weld_entries, swept_tree, SweepsTree, IsTakenTree}
use Rattle.rib_tree.specs.Merges.{DifferAt, PassesDown, IsPassedDown}
use Rattle.rib_tree.proofs.BranchLemmas.{put_same, rows_kept, tree_put, full_put, full_but_put, full_again}
use Rattle.rib_tree.proofs.LinkLemmas.{leads_all, leads_kept}
use Rattle.journal_text.proofs.FallLemmas.{and_then, cut_before, goes_on}

abbrev below : Proto → List Link
below proto = merge_below proto ∷ Int ∷ []

-- ---- falls, in a tree with this branch

quietly_put : (proto : Proto) (b : Branch) (t : Treed) (p : AddressPrefix) (way : List Link) (before now : Journaled) → (branch_of proto t).proto ≡ proto → org_rows b ≡ org_rows (branch_of proto t)
    → Adds (FallsBranch (branch_of proto t) b p way None) before now → Adds (FallsTree t (put_branch proto b t) p (way ++ below proto) None) before now
quietly_put proto b t p way before now placed rows (entries, now_is, fall) =
    (entries, now_is, record { leads = leads_kept proto b t entries placed fall.leads rows; down = cut_before p way (below proto) entries fall.down })

on_put : (proto : Proto) (b : Branch) (t : Treed) (p : AddressPrefix) (way : List Link) (change : Change Interior) (sent : Option (Change Interior)) (before mid now : Journaled) → (branch_of proto t).proto ≡ proto
    → Adds (FallsBranch (branch_of proto t) b p way (Some change)) before mid → Adds (PassesDown proto t (put_branch proto b t) p sent) mid now
    → Adds (FallsTree t (put_branch proto b t) p (way ++ below proto) sent) before now
on_put proto b t p way change sent before mid now placed (entries, mid_is, fall) (last, now_is, pass) =
    let P : List (Entry Value) → Type 0 = λ es. LeadsTree t (entries ++ es) (put_branch proto b t) in (
      entries ++ last,
      and_then before mid now entries last mid_is now_is,
      record {
        leads = subst P (sym pass.lines) (leads_all proto b t p pass.middle sent entries placed fall.leads pass.into pass.rows);
        down = goes_on p way (below proto) change entries last sent fall.down pass.down;
      },
    )

-- ---- the same of any tree that differs in the branch

module _ (proto : Proto) (old new : Treed) (differ : DifferAt proto old new) (placed : (branch_of proto old).proto ≡ proto) where
  falls_quietly : (p : AddressPrefix) (way : List Link) (before now : Journaled) → org_rows (branch_of proto new) ≡ org_rows (branch_of proto old)
      → Adds (FallsBranch (branch_of proto old) (branch_of proto new) p way None) before now → Adds (FallsTree old new p (way ++ below proto) None) before now
  falls_quietly p way before now rows adds =
      let P : Treed → Type 0 = λ t. Adds (FallsTree old t p (way ++ below proto) None) before now in
      subst P (sym differ) (quietly_put proto (branch_of proto new) old p way before now placed rows adds)

  falls_on : (p : AddressPrefix) (way : List Link) (change : Change Interior) (sent : Option (Change Interior)) (before mid now : Journaled)
      → Adds (FallsBranch (branch_of proto old) (branch_of proto new) p way (Some change)) before mid → Adds (PassesDown proto old new p sent) mid now → Adds (FallsTree old new p (way ++ below proto) sent) before now
  falls_on p way change sent before mid now adds pass =
      let P : Treed → Type 0 = λ t. Adds (FallsTree old t p (way ++ below proto) sent) before now in
      let Q : Treed → Type 0 = λ t. Adds (PassesDown proto old t p sent) mid now in
      subst P (sym differ) (on_put proto (branch_of proto new) old p way change sent before mid now placed adds (subst Q differ pass))

  pub leads_on : (entries : List (Entry Value)) → LeadsBranch (branch_of proto old) entries (branch_of proto new) → org_rows (branch_of proto new) ≡ org_rows (branch_of proto old) → LeadsTree old entries new
  leads_on entries leads rows =
      let P : Treed → Type 0 = λ t. LeadsTree old entries t in
      subst P (sym differ) (leads_kept proto (branch_of proto new) old entries placed leads rows)

  int_stays : org_rows (branch_of proto new) ≡ org_rows (branch_of proto old) → int_rows new ≡ int_rows old
  int_stays rows = ap int_rows differ ∙ rows_kept proto (branch_of proto new) old rows

pub is_tree : (proto : Proto) (old new : Treed) → DifferAt proto old new → IsTree old → IsBranch (branch_of proto new) → (branch_of proto new).proto ≡ (branch_of proto old).proto → IsTree new
is_tree proto old new differ tree branch same = subst IsTree (sym differ) (tree_put proto (branch_of proto new) old tree branch (same ∙ tree.placed proto))

pub is_full : (proto : Proto) (old new : Treed) → DifferAt proto old new → IsFull old → NoneEmpty (branch_of proto new).tables.deletions → IsFull new
is_full proto old new differ full none = subst IsFull (sym differ) (full_put proto (branch_of proto new) old full none)

pub is_full_but : (proto : Proto) (old new : Treed) → DifferAt proto old new → IsFull old → OneEmptyAtMost (branch_of proto new).tables.deletions → IsFullBut proto new
is_full_but proto old new differ full one = subst (IsFullBut proto) (sym differ) (full_but_put proto (branch_of proto new) old full one)

pub is_full_again : (proto : Proto) (old new : Treed) → DifferAt proto old new → IsFullBut proto old → NoneEmpty (branch_of proto new).tables.deletions → IsFull new
is_full_again proto old new differ but none = subst IsFull (sym differ) (full_again proto (branch_of proto new) old but none)

-- ---- the branch names its links by its own protocol

way_placed : (proto : Proto) (t : Treed) → (branch_of proto t).proto ≡ proto → way_down (Origin (branch_of proto t).proto) (Org (branch_of proto t).proto) (branch_of proto t).tables.deletions ++ below proto ≡ way_of_route proto t
way_placed proto t placed = ap (λ (k : Proto). way_down (Origin k) (Org k) (branch_of proto t).tables.deletions ++ below proto) placed

sweep_way_placed : (proto : Proto) (n : ℕ) (t : Treed) → (branch_of proto t).proto ≡ proto → way_from (Origin (branch_of proto t).proto) n (Org (branch_of proto t).proto) (branch_of proto t).tables.deletions ++ below proto ≡ way_of_sweep proto n t
sweep_way_placed proto n t placed = ap (λ (k : Proto). way_from (Origin k) n (Org k) (branch_of proto t).tables.deletions ++ below proto) placed

pub weld_placed : (proto : Proto) (t : Treed) → (branch_of proto t).proto ≡ proto → weld_entries (branch_of proto t) ≡ tree_weld_entries proto t
weld_placed proto t placed = ap (λ (k : Proto). chain_weld_entries (Origin k) (Org k) (branch_of proto t).tables.deletions) placed

-- ---- feeds

module _ (proto : Proto) (old new : Treed) (differ : DifferAt proto old new) (placed : (branch_of proto old).proto ≡ proto) where
  pub fed_quietly : (p : AddressPrefix) (before now : Journaled) → org_rows (branch_of proto new) ≡ org_rows (branch_of proto old)
      → Adds (FallsBranch (branch_of proto old) (branch_of proto new) p (way_down (Origin (branch_of proto old).proto) (Org (branch_of proto old).proto) (branch_of proto old).tables.deletions) None) before now
      → Adds (FallsTree old new p (way_of_route proto old) None) before now
  fed_quietly p before now rows adds =
      let P : List Link → Type 0 = λ way. Adds (FallsTree old new p way None) before now in
      subst P (way_placed proto old placed) (falls_quietly proto old new differ placed p _ before now rows adds)

  pub fed_on : (p : AddressPrefix) (change : Change Interior) (sent : Option (Change Interior)) (before mid now : Journaled)
      → Adds (FallsBranch (branch_of proto old) (branch_of proto new) p (way_down (Origin (branch_of proto old).proto) (Org (branch_of proto old).proto) (branch_of proto old).tables.deletions) (Some change)) before mid
      → Adds (PassesDown proto old new p sent) mid now → Adds (FallsTree old new p (way_of_route proto old) sent) before now
  fed_on p change sent before mid now adds pass =
      let P : List Link → Type 0 = λ way. Adds (FallsTree old new p way sent) before now in
      subst P (way_placed proto old placed) (falls_on proto old new differ placed p _ change sent before mid now adds pass)

-- ---- turns

taken : (proto : Proto) (n : ℕ) (old new : Treed) (sent : Option (Change Interior)) (before now : Journaled) → Adds (SweepsTree old new proto n sent) before now → IsTakenTree old new (Rdel proto n) before now (taken_turn sent)
taken proto n old new None before now adds = adds
taken proto n old new (Some change) before now adds = adds

module _ (proto : Proto) (n : ℕ) (old new : Treed) (differ : DifferAt proto old new) (placed : (branch_of proto old).proto ≡ proto) (kept : branch_of proto new ≡ with_tables (branch_of proto old) (branch_of proto new).tables) where
  swept : (p : AddressPrefix) → (branch_of proto new).tables ≡ swept_tables n p (branch_of proto old).tables → new ≡ swept_tree proto n p old
  swept p after = differ ∙ ap (λ (b : Branch). put_branch proto b old) (kept ∙ ap (with_tables (branch_of proto old)) after)

  pub sweeps_nothing : (before now : Journaled) → IsTakenBranch (branch_of proto old) (branch_of proto new) n before now Nothing → IsTakenTree old new (Rdel proto n) before now Nothing
  sweeps_nothing before now (none, (same, now_is)) =
      (ap is_some none, (differ ∙ ap (λ (b : Branch). put_branch proto b old) (kept ∙ ap (with_tables (branch_of proto old)) same) ∙ put_same proto old, now_is))

  pub sweeps_quietly : (before now : Journaled) → IsTakenBranch (branch_of proto old) (branch_of proto new) n before now Quiet → IsTakenTree old new (Rdel proto n) before now Quiet
  sweeps_quietly before now (entries, now_is, s) =
      let fall = falls_quietly proto old new differ placed s.prefix _ before now s.rows (entries, now_is, s.fall) in
      let P : List Link → Type 0 = λ way. FallsTree old new s.prefix way None fall.0 in (
        fall.0,
        fall.1,
        record { prefix = s.prefix; row = s.row; table = s.table; stands = s.stands; least = s.least; after = swept s.prefix s.after; fall = subst P (sweep_way_placed proto n old placed) fall.2; rows = int_stays proto old new differ placed s.rows },
      )

  pub sweeps_on : (change : Change Interior) (sent : Option (Change Interior)) (before mid now : Journaled) → IsTakenBranch (branch_of proto old) (branch_of proto new) n before mid (Sent change)
      → IsPassedDown proto new change mid now sent → IsTakenTree old new (Rdel proto n) before now (taken_turn sent)
  sweeps_on change sent before mid now (entries, mid_is, s) passed =
      let pass = passed old s.prefix differ s.rows in
      let fall = falls_on proto old new differ placed s.prefix _ change sent before mid now (entries, mid_is, s.fall) pass in
      let P : List Link → Type 0 = λ way. FallsTree old new s.prefix way sent fall.0 in
      taken proto n old new sent before now (
        fall.0,
        fall.1,
        record { prefix = s.prefix; row = s.row; table = s.table; stands = s.stands; least = s.least; after = swept s.prefix s.after; fall = subst P (sweep_way_placed proto n old placed) fall.2; rows = pass.2.rows },
      )
