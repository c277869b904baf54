-- Changes that are applied in order, the first one first.
use Rattle.std.specs.Prelude.{◌≡◌, ◌≢◌, false, ◌||◌, if◌then◌else◌, List, [], ◌∷◌, ◌++◌, Option}
use Rattle.std.specs.Ordering.{eq_by_cmp}
use Rattle.addr4.specs.Prefixes.{AddressPrefix, prefix_cmp}
use Rattle.link_change.specs.Rows.{Rows, Candidates, with_row}
use Rattle.link_change.specs.Changes.{IsLawfulOn}
use Rattle.link_change.specs.Changes.{Change}

module _ {R : Type 0} where
  -- each change is lawful on what those before it made of the old rows, and all together make the new ones
  abbrev pub ChangesLead : Rows R → List (Change R) → Rows R → Type 0
  ChangesLead old [] new = new ≡ old
  ChangesLead old (c ∷ cs) new = IsLawfulOn old c × ChangesLead (with_row old c.prefix c.after) cs new

  -- the rows before the changes, where these are the rows after them: at each prefix the row before the first change there
  abbrev pub rows_before : List (Change R) → Rows R → Rows R
  rows_before [] new = new
  rows_before (c ∷ cs) new = with_row (rows_before cs new) c.prefix c.before

  -- with one more at the end
  abbrev pub with_last : Change R → List (Change R) → List (Change R)
  with_last change changes = changes ++ change ∷ []

  -- the changes at a prefix
  abbrev pub changes_at : AddressPrefix → List (Change R) → List (Change R)
  changes_at p [] = []
  changes_at p (c ∷ cs) = if eq_by_cmp prefix_cmp c.prefix p then c ∷ changes_at p cs else changes_at p cs

  -- whether there is one
  abbrev pub changed_in : List (Change R) → Candidates
  changed_in [] q = false
  changed_in (c ∷ cs) q = eq_by_cmp prefix_cmp q c.prefix || changed_in cs q

  -- ---- at one prefix
  -- the changes lead from the old row to the new one
  abbrev pub RowLeads : Option R → List (Change R) → Option R → Type 0
  RowLeads old [] new = new ≡ old
  RowLeads old (c ∷ cs) new = (old ≡ c.before) × (c.after ≢ c.before) × RowLeads c.after cs new

  -- the row before the changes, where this is the row after them
  abbrev pub row_before : List (Change R) → Option R → Option R
  row_before [] new = new
  row_before (c ∷ cs) new = c.before
