-- When a journal is lawful, and where it is broken (NSDI 2005, section 5.1). It is a journal of two families: the entries of each are a walk of
-- their own, and the first line that breaks either ends both.
use Rattle.std.specs.Prelude.{◌≡◌, ◌⊎◌, ℕ, ◌+◌, ◌<◌, nat_lt, true, false, if◌then◌else◌, List, [], ◌∷◌, ◌++◌, length, Option, Some, None}
use Rattle.journal_text.specs.Walk.{Demands, IsLawful, fold_links, no_links}
use Rattle.journal_text.specs.declared.entry.Entry.TheVariants.{Begin, Inherit, Add, Delete, Replace, Asked, Weld, End}
use Rattle.journal_check.specs.Entries.{TextEntry, FamilyEntry, entries_in}
use Rattle.journal_check.specs.Readings.{reading_of}
use Rattle.journal_check.specs.declared.reading.Reading.{Reading}
use Rattle.journal_check.specs.declared.reading.Reading.TheVariants.{Skipped, Read, NotALine}
use Rattle.journal_check.specs.declared.checked.Checked.{Checked}
use Rattle.journal_check.specs.declared.checked.Checked.TheVariants.{Lawful, Broken, NotAJournal}

-- the rule that an entry can break: 1 of changes, 2 of lookups, 3 of links
abbrev pub rule_of : TextEntry → ℕ
rule_of (Add link p new) = 1
rule_of (Delete link p old) = 1
rule_of (Replace link p old new) = 1
rule_of (Asked link p row) = 2
rule_of (Begin link) = 3
rule_of (Inherit link from) = 3
rule_of (Weld upper lower) = 3
rule_of (End link) = 3

-- the entries that a line gives: one or none; and none at all where it isn't a line of a journal
abbrev pub entries_given : Reading → Option (List FamilyEntry)
entries_given Skipped = Some []
entries_given (Read entry) = Some (entry ∷ [])
entries_given NotALine = None

-- one list after the other, where both are there
abbrev pub joined : Option (List FamilyEntry) → Option (List FamilyEntry) → Option (List FamilyEntry)
joined (Some first) (Some others) = Some (first ++ others)
joined (Some first) None = None
joined None others = None

abbrev pub each_read : List (List ℕ) → Option (List FamilyEntry)
each_read [] = Some []
each_read (line ∷ lines) = joined (entries_given (reading_of line)) (each_read lines)

-- the entries of these lines: none at all where one isn't a line of a journal, or they are 4,294,967,296 or more
unfoldable pub entries_read : List (List ℕ) → Option (List FamilyEntry)
entries_read lines = if nat_lt (length lines) 4294967296 then each_read lines else None

-- those of each family are lawful by themselves, from no links on
abbrev pub AreLawful : List FamilyEntry → Type 0
AreLawful entries = IsLawful no_links (entries_in false entries) × IsLawful no_links (entries_in true entries)

-- the entry breaks its rule where its own family's links, after the entries before it, don't meet its demand
abbrev pub Breaks : List FamilyEntry → FamilyEntry → Type 0
Breaks before e = Demands (fold_links no_links (entries_in e.v6 before)) e.entry → ⊥

-- the lines before line n give these entries, and those are lawful
pub record IsReached (lines : List (List ℕ)) (n : ℕ) (entries : List FamilyEntry) (line : List ℕ) : Type 0 where
  pub before : List (List ℕ)
  pub later : List (List ℕ)
  pub parted : lines ≡ before ++ line ∷ later
  pub number : n ≡ length before + 1
  pub reads : entries_read before ≡ Some entries
  pub lawful : AreLawful entries

-- line n is the first that breaks a rule, and it is this rule
pub record IsBrokenAt (lines : List (List ℕ)) (n rule : ℕ) : Type 0 where
  pub entries : List FamilyEntry
  pub line : List ℕ
  pub entry : FamilyEntry
  pub reached : IsReached lines n entries line
  pub below : n < 4294967296
  pub reads : reading_of line ≡ Read entry
  pub by : rule_of entry.entry ≡ rule
  pub broken : Breaks entries entry

-- line n is the first that isn't a line of a journal; line 4,294,967,296 never is
pub record IsNotAJournalAt (lines : List (List ℕ)) (n : ℕ) : Type 0 where
  pub entries : List FamilyEntry
  pub line : List ℕ
  pub reached : IsReached lines n entries line
  pub cause : (reading_of line ≡ NotALine) ⊎ (n ≡ 4294967296)

-- all lines read, and break no rule
abbrev pub IsLawfulJournal : List (List ℕ) → Type 0
IsLawfulJournal lines = (entries : List FamilyEntry) × (entries_read lines ≡ Some entries) × AreLawful entries

-- this is what is to be said of the lines
abbrev pub IsChecked : List (List ℕ) → Checked → Type 0
IsChecked lines Lawful = IsLawfulJournal lines
IsChecked lines (Broken n rule) = IsBrokenAt lines n rule
IsChecked lines (NotAJournal n) = IsNotAJournalAt lines n
