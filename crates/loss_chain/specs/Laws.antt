-- Laws of chains, for the crates above.
use Rattle.std.specs.Prelude.{◌≡◌, ◌⊎◌, ℕ, ◌+◌, ◌≤◌, true, false, List, length, Option, Some, None}
use Rattle.std.specs.List.{Contains, count_by}
use Rattle.std.specs.FinMap as map
use Rattle.std.specs.FinMap.{FinMap}
use Rattle.addr4.specs.Prefixes.{AddressPrefix, prefix_cmp}
use Rattle.link_change.specs.Rows.{Rows, Candidates, with_rows}
use Rattle.pass_core.specs.Passed.{is_beyond}
use Rattle.loss_chain.specs.Lost.{Lost}
use Rattle.loss_chain.specs.Tables.{Tables, IsLossChain, AreRising, rows_below, lowest_rows, tables_count, tables_beyond}
use Rattle.loss_chain.specs.Held.{has_row, has_over}
use Rattle.loss_chain.specs.Rows.{IsRow}
use Rattle.loss_chain.specs.Steps.{no_tables, fed_tables, table_of, lost_tables, welded_tables, swept_tables}

-- the rows are those of a finite map with so many entries
abbrev pub Counts : {R : Type 0} → Rows R → ℕ → Type 0
Counts {R} rows n = (m : FinMap prefix_cmp R) × (map.get m ≡ rows) × (map.len m ≡ n)

-- The tables of a chain have together as many rows as its lowest link.
abbrev pub RowsAreCounted : Type 0 → Type 0
RowsAreCounted R = (t : Tables R) → IsLossChain t → Counts (lowest_rows t) (tables_count t)

-- A turn of a deletion stage takes one row.
abbrev pub TurnsTakeRows : Type 0 → Type 0
TurnsTakeRows R =
    (t : Tables R) (number : ℕ) (p : AddressPrefix) (table : FinMap prefix_cmp R) (row : R) → IsLossChain t
    → table_of number t.deletions ≡ Some table → map.get table p ≡ Some row
    → tables_count (swept_tables number p t) + 1 ≡ tables_count t

-- When an empty stage goes, as many rows stay.
abbrev pub WeldsKeepRows : Type 0 → Type 0
WeldsKeepRows R = (t : Tables R) → tables_count (welded_tables t) ≡ tables_count t

-- When the source is lost, as many rows stay.
abbrev pub LossesKeepRows : Type 0 → Type 0
LossesKeepRows R = (number : ℕ) (t : Tables R) → tables_count (lost_tables number t) ≡ tables_count t

-- A chain begins without rows, live or lost.
abbrev pub NoRowAtFirst : Type 0 → Type 0
NoRowAtFirst R = (p : AddressPrefix) (row : R) → IsRow no_tables p row → ⊥

-- A feed brings the row that is fed, at its prefix, and no other.
abbrev pub FeedsBringOneRow : Type 0 → Type 0
FeedsBringOneRow R =
    (t : Tables R) (at : AddressPrefix) (new : Option R) (p : AddressPrefix) (row : R) → IsRow (fed_tables t at new) p row
    → IsRow t p row ⊎ ((p ≡ at) × (new ≡ Some row))

-- Losses, welds and turns bring none.
abbrev pub LossesBringNoRow : Type 0 → Type 0
LossesBringNoRow R = (number : ℕ) (t : Tables R) (p : AddressPrefix) (row : R) → IsRow (lost_tables number t) p row → IsRow t p row

abbrev pub WeldsBringNoRow : Type 0 → Type 0
WeldsBringNoRow R = (t : Tables R) (p : AddressPrefix) (row : R) → IsRow (welded_tables t) p row → IsRow t p row

abbrev pub TurnsBringNoRow : Type 0 → Type 0
TurnsBringNoRow R = (number : ℕ) (at : AddressPrefix) (t : Tables R) (p : AddressPrefix) (row : R) → IsRow (swept_tables number at t) p row → IsRow t p row

-- A row of the lowest link is one of the chain's.
abbrev pub LowestRowsAreRows : Type 0 → Type 0
LowestRowsAreRows R = (t : Tables R) (p : AddressPrefix) (row : R) → lowest_rows t p ≡ Some row → IsRow t p row

-- Where no lost table has a prefix, the row of the link below them is the live one.
abbrev pub LiveWhereNoneIsLost : Type 0 → Type 0
LiveWhereNoneIsLost R =
    (live : FinMap prefix_cmp R) (ds : List (Lost R)) (q : AddressPrefix) → AreRising ds → ((n : ℕ) → has_row (table_of n ds) q ≡ false)
    → rows_below live ds q ≡ map.get live q

-- No table has no prefix that holds an address.
abbrev pub NoTableHoldsNothing : Type 0 → Type 0
NoTableHoldsNothing R = (a : ℕ) → has_over {R = R} None a ≡ false

-- ---- rows beyond a place
-- These prefixes are as many as the rows, beyond each place as many as these numbers, and each candidate is one of them.
pub record Lists (prefixes : List AddressPrefix) (rows : ℕ) (beyond : Option AddressPrefix → ℕ) (candidates : Candidates) : Type 0 where
  pub all : length prefixes ≡ rows
  pub counts : (place : Option AddressPrefix) → count_by (is_beyond place) prefixes ≡ beyond place
  pub stands : (q : AddressPrefix) → candidates q ≡ true → Contains prefixes q

-- There are such prefixes of the rows of all tables of a chain, and of the lowest link: so these rows count what a walk over that
-- link has yet to go to.
abbrev pub RowsAreListed : Type 0 → Type 0
RowsAreListed R = (t : Tables R) → (prefixes : List AddressPrefix) × Lists prefixes (tables_count t) (λ place. tables_beyond place t) (with_rows (lowest_rows t))

-- A turn of a deletion stage leaves no more of them beyond any place, nor does a weld.
abbrev pub TurnsLeaveNoMore : Type 0 → Type 0
TurnsLeaveNoMore R = (place : Option AddressPrefix) (number : ℕ) (p : AddressPrefix) (t : Tables R) → tables_beyond place (swept_tables number p t) ≤ tables_beyond place t

abbrev pub WeldsLeaveNoMore : Type 0 → Type 0
WeldsLeaveNoMore R = (place : Option AddressPrefix) (t : Tables R) → tables_beyond place (welded_tables t) ≤ tables_beyond place t
