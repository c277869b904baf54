-- Lookups of one link.
use Rattle.std.specs.Prelude.{◌≡◌, ℕ, length, List, [], ◌∷◌, map, Option, Some, None}
use Rattle.addr4.specs.Prefixes.{AddressPrefix}
use Rattle.link_change.specs.Rows.{Rows, Candidates, IsNextCandidate, CoversRows}
use Rattle.journal_text.specs.declared.link.Link.{Link}
use Rattle.journal_text.specs.Lines.{Value}
use Rattle.journal_text.specs.Lines.{Line}
use Rattle.journal_text.specs.declared.line.Line.TheVariants as lines
use Rattle.journal_text.specs.Walk.{Links, HasRow}
use Rattle.journal_text.specs.Journals.{Journaled, with_lines}
use Rattle.router_moments.specs.Blocks.{AreRows}

-- the row at a prefix, if there is one
abbrev pub listed_at : AddressPrefix → Option Value → List (AddressPrefix × Value)
listed_at p None = []
listed_at p (Some value) = (p, value) ∷ []

-- the lines of rows
abbrev pub row_lines : Link → List (AddressPrefix × Value) → List Line
row_lines link listed = map (λ r. lines.Row link r.0 r.1) listed

-- how many rows stand at the prefix of the link: one or none
abbrev pub Counts : Links Value → Link → AddressPrefix → ℕ → Type 0
Counts links link p n = (row : Option Value) × HasRow links link p row × (n ≡ length (listed_at p row))

-- the same, and its line was pushed, if there is one
abbrev pub ShowsRow : Links Value → Link → AddressPrefix → Journaled → Journaled → ℕ → Type 0
ShowsRow links link p before now n =
    (row : Option Value) × HasRow links link p row × (n ≡ length (listed_at p row)) × (now ≡ with_lines before (row_lines link (listed_at p row)))

-- how many rows there are, or none where the link isn't live
abbrev pub IsCountOf : Option (Rows Value) → Option ℕ → Type 0
IsCountOf None None = Unit {0}
IsCountOf (Some rows) (Some n) = (listed : List (AddressPrefix × Value)) × AreRows rows listed × (n ≡ length listed)
IsCountOf rows n = ⊥

-- the answer is the least of some candidates beyond the place, at which all rows of the link stand
abbrev pub IsNextPlace : Option (Rows Value) → Option AddressPrefix → Option AddressPrefix → Type 0
IsNextPlace of place result =
    (candidates : Candidates) × IsNextCandidate candidates place result × ((rows : Rows Value) → of ≡ Some rows → CoversRows candidates rows)
