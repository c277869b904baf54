-- What contracts see of a walk through a journal.
use Rattle.std.specs.Prelude.{◌≡◌, ◌⊎◌, ℕ, ◌+◌, Bool, true, false, not, List, length, Some, refl}
use Rattle.std.specs.Coded.{Coded, code_by, coded×, coded_ℕ}
use Rattle.journal_text.specs.Walk.{Links, Demands, after, fold_links, no_links}
use Rattle.journal_check.specs.Entries.{TextEntry, FamilyEntry, entries_in}
use Rattle.journal_check.specs.Maps.{LinkMap, link_map_code, links_of}
use Rattle.journal_check.specs.Readings.{reading_of}
use Rattle.journal_check.specs.Judged.{IsChecked, entries_read, rule_of}
use Rattle.journal_check.specs.declared.reading.Reading.{Reading}
use Rattle.journal_check.specs.declared.reading.Reading.TheVariants.{Skipped, Read, NotALine}
use Rattle.journal_check.specs.declared.checked.Checked.{Checked}
use Rattle.journal_check.specs.declared.checked.Checked.TheVariants.{Lawful, Broken, NotAJournal}

-- how many lines were read while all was lawful, what is known, and the rows of the live links of the first network and of the second
pub record Walked : Type 0 where
  pub number : ℕ
  pub state : Checked
  pub first : LinkMap
  pub second : LinkMap

abbrev pub walked_code : Coded Checked → Coded Walked
walked_code c =
    code_by (ℕ × (Checked × (LinkMap × LinkMap))) (coded× coded_ℕ (coded× c (coded× link_map_code link_map_code)))
    (λ w. (w.number, (w.state, (w.first, w.second)))) (λ p. record { number = p.0; state = p.1.0; first = p.1.1.0; second = p.1.1.1 }) (λ _. refl)

-- the links of a family
abbrev pub links_in : Bool → Walked → Links (List ℕ)
links_in false walk = links_of walk.first
links_in true walk = links_of walk.second

-- so many lines, and the links of each family after its entries
abbrev pub IsKept : List (List ℕ) → Walked → Type 0
IsKept lines walk =
    (walk.number ≡ length lines)
    × ((entries : List FamilyEntry) → entries_read lines ≡ Some entries → (v6 : Bool) → links_in v6 walk ≡ fold_links no_links (entries_in v6 entries))

-- what a walk holds after these lines
pub record IsAfter (lines : List (List ℕ)) (walk : Walked) : Type 0 where
  pub checked : IsChecked lines walk.state
  pub kept : walk.state ≡ Lawful → IsKept lines walk

-- ---- one line of a journal that was lawful so far

-- the links meet the entry's demand, and become those after it; or they don't
abbrev pub Admits : Bool → TextEntry → Links (List ℕ) → Links (List ℕ) → Type 0
Admits true entry old new = Demands old entry × (new ≡ after old entry)
Admits false entry old new = Demands old entry → ⊥

-- the links of its own family admit the entry or not, and nothing else changes
pub record Follows (admitted : Bool) (e : FamilyEntry) (old new : Walked) : Type 0 where
  pub own : Admits admitted e.entry (links_in e.v6 old) (links_in e.v6 new)
  pub other : links_in (not e.v6) new ≡ links_in (not e.v6) old
  pub number : new.number ≡ old.number
  pub state : new.state ≡ old.state

-- the entry breaks its rule; or it doesn't, and its family's links are those after it, while the other's stay
abbrev pub Judges : FamilyEntry → Walked → Walked → Type 0
Judges e old new =
    ((Demands (links_in e.v6 old) e.entry → ⊥) × (new.state ≡ Broken (old.number + 1) (rule_of e.entry)))
    ⊎ (Demands (links_in e.v6 old) e.entry × (new.state ≡ old.state) × (new.number ≡ old.number + 1) × (links_in e.v6 new ≡ after (links_in e.v6 old) e.entry) × (links_in (not e.v6) new ≡ links_in (not e.v6) old))

abbrev pub Takes : Reading → Walked → Walked → Type 0
Takes NotALine old new = new.state ≡ NotAJournal (old.number + 1)
Takes Skipped old new = new ≡ record old { number = old.number + 1 }
Takes (Read entry) old new = Judges entry old new

-- it is line 4,294,967,296, or goes by what it says
abbrev pub Steps : List ℕ → Walked → Walked → Type 0
Steps line old new =
    ((old.number + 1 ≡ 4294967296) × (new.state ≡ NotAJournal (old.number + 1)))
    ⊎ ((old.number + 1 ≡ 4294967296 → ⊥) × Takes (reading_of line) old new)
