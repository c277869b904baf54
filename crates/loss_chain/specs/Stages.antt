-- A chain by its stages: each deletion stage holds the stage above it.
use Rattle.std.specs.Prelude.{ℕ, ◌==◌, if◌then◌else◌, List, [], ◌∷◌, Option, Some, None}
use Rattle.std.specs.FinMap.{FinMap}
use Rattle.addr4.specs.Prefixes.{prefix_cmp}
use Rattle.link_change.specs.Rows.{Rows, Candidates, with_rows}
use Rattle.loss_chain.specs.Lost.{Lost}
use Rattle.loss_chain.specs.Tables.{Tables, rows_below, lowest_rows}
use Rattle.loss_chain.specs.declared.stage.Stage.{Stage, Top, Deletion'}

-- the live rows, at the top
abbrev pub live_of : {R F : Type 0} → Stage R F → FinMap prefix_cmp R
live_of (Top live) = live
live_of (Deletion' d at upper) = live_of upper

-- the lost tables, the lowest first
abbrev pub deletions_of : {R F : Type 0} → Stage R F → List (Lost R)
deletions_of (Top live) = []
deletions_of (Deletion' d at upper) = d ∷ deletions_of upper

abbrev pub tables_of : {R F : Type 0} → Stage R F → Tables R
tables_of stage = record { live = live_of stage; deletions = deletions_of stage }

-- the rows of the link out of a stage
abbrev pub rows_of : {R F : Type 0} → Stage R F → Rows R
rows_of stage = rows_below (live_of stage) (deletions_of stage)

-- where a walk over the link out of a stage goes: to its rows
abbrev pub stage_candidates : {R F : Type 0} → Stage R F → Candidates
stage_candidates stage = with_rows (rows_of stage)

abbrev pub chain_candidates : {R : Type 0} → Tables R → Candidates
chain_candidates t = with_rows (lowest_rows t)

-- the stage above that of a loss, if there is one
abbrev pub above_of : {R F : Type 0} → ℕ → Stage R F → Option (Stage R F)
above_of number (Top live) = None
above_of number (Deletion' d at upper) = if d.number == number then Some upper else above_of number upper

-- the stage above a deletion stage
abbrev pub stage_above : {R F : Type 0} → Stage R F → Stage R F
stage_above (Top live) = Top live
stage_above (Deletion' d at upper) = upper
