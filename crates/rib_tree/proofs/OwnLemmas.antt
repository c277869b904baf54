-- What holds of a branch holds after each call.
use Rattle.std.proofs.Common.{◌≡◌, ℕ, ◌≤◌, ◌+◌, ◌++◌, Bool, true, false, cond, not, [], ◌∷◌, Option, IfSome, sym, subst, arith}
use Rattle.std.specs.List.{AllByRecursion}
use Rattle.addr4.specs.Prefixes.{AddressPrefix}
use Rattle.rib_route.specs.declared.Proto.{Proto}
use Rattle.rib_route.specs.Rows.{Interior}
use Rattle.link_change.specs.Rows.{is_empty_map}
use Rattle.link_change.specs.Turns.{Turn}
use Rattle.link_change.specs.declared.turn.Turn.TheVariants.{Nothing, Quiet, Sent}
use Rattle.loss_chain.specs.Lost.{Lost}
use Rattle.journal_text.specs.Journals.{Journaled}
use Rattle.loss_chain.specs.Tables.{Tables, IsLossChain}
use Rattle.loss_chain.specs.Rows.{AllRows}
use Rattle.loss_chain.specs.Steps.{fed_tables, lost_tables, welded_tables, swept_tables}
use Rattle.loss_chain.proofs.ListLemmas.{all_filtered, all_appended}
use Rattle.loss_chain.proofs.FeedLemmas.{all_at_first, all_fed, all_lost, all_welded, all_swept, all_lowest, numbers_fed, numbers_swept}
use Rattle.rib_tree.specs.Branches.{Branch, IsOwn, IsBranch}
use Rattle.rib_tree.specs.BranchSteps.{new_branch, with_tables, lost_branch, IsTakenBranch}
use Rattle.rib_tree.specs.Laws.{RowsAreOwn}

pub new_is_branch : (proto : Proto) → IsBranch (new_branch proto)
new_is_branch proto = record { chain = record { apart = tt; rising = tt }; counted = tt; own = all_at_first (IsOwn proto) }

abbrev Counted : ℕ → Tables Interior → Type 0
Counted n t = AllByRecursion (λ d. d.number ≤ n) t.deletions

module _ (b : Branch) (is : IsBranch b) (t : Tables Interior) (chain : IsLossChain t) where
  with_these : (losses : ℕ) (made : Tables Interior) → t ≡ made → Counted losses made → AllRows (IsOwn b.proto) made → IsBranch (record { proto = b.proto; losses = losses; tables = t })
  with_these losses made same counted own = record { chain = chain; counted = subst (Counted losses) (sym same) counted; own = subst (AllRows (IsOwn b.proto)) (sym same) own }

  pub branch_fed : (p : AddressPrefix) (row : Option Interior) → IfSome row (IsOwn b.proto) → t ≡ fed_tables b.tables p row → IsBranch (with_tables b t)
  branch_fed p row own after =
      with_these b.losses (fed_tables b.tables p row) after (numbers_fed (λ n. n ≤ b.losses) b.tables.deletions p row is.counted) (all_fed (IsOwn b.proto) b.tables p row is.own own)

  pub branch_welded : t ≡ welded_tables b.tables → IsBranch (with_tables b t)
  branch_welded after =
      with_these b.losses (welded_tables b.tables) after (all_filtered (λ d. d.number ≤ b.losses) (λ d. not (is_empty_map d.rows)) b.tables.deletions is.counted) (all_welded (IsOwn b.proto) b.tables is.own)

  branch_swept : (loss : ℕ) (p : AddressPrefix) → t ≡ swept_tables loss p b.tables → IsBranch (with_tables b t)
  branch_swept loss p after =
      with_these b.losses (swept_tables loss p b.tables) after (numbers_swept (λ n. n ≤ b.losses) loss p b.tables.deletions is.counted) (all_swept (IsOwn b.proto) loss p b.tables is.own)

  pub branch_taken : (loss : ℕ) (before now : Journaled) (turn : Turn Interior) → IsTakenBranch b (with_tables b t) loss before now turn → IsBranch (with_tables b t)
  branch_taken loss before now Nothing taken = with_these b.losses b.tables taken.1.0 is.counted is.own
  branch_taken loss before now Quiet taken = branch_swept loss taken.2.prefix taken.2.after
  branch_taken loss before now (Sent change) taken = branch_swept loss taken.2.prefix taken.2.after

  -- the new stage, if there is one, has the next number
  counted_lost : (empty : Bool) → AllByRecursion (λ d. d.number ≤ cond empty b.losses (b.losses + 1)) (cond empty b.tables.deletions (b.tables.deletions ++ record { number = b.losses + 1; rows = b.tables.live } ∷ []))
  counted_lost true = is.counted
  counted_lost false =
      all_appended (λ (d : Lost Interior). d.number ≤ b.losses) (λ d. d.number ≤ b.losses + 1) (λ d h. omega (arith, h)) b.tables.deletions (record { number = b.losses + 1; rows = b.tables.live }) is.counted (omega arith)

  pub branch_lost : (losses : ℕ) → losses ≡ (lost_branch b).losses → t ≡ lost_tables (b.losses + 1) b.tables → IsBranch (record { proto = b.proto; losses = losses; tables = t })
  branch_lost losses count after =
      with_these losses (lost_tables (b.losses + 1) b.tables) after (subst (λ n. Counted n (lost_tables (b.losses + 1) b.tables)) (sym count) (counted_lost (is_empty_map b.tables.live))) (all_lost (IsOwn b.proto) (b.losses + 1) b.tables is.own)

pub rows_are_own : RowsAreOwn
rows_are_own b p row is at = all_lowest (IsOwn b.proto) b.tables p row is.own at
