-- The entries of a journal of two families.
use Rattle.std.specs.Prelude.{ℕ, Bool, true, false, if◌then◌else◌, List, filter_map, Option, Some, None}
use Rattle.journal_text.specs.Lines.{Entry}

-- an entry whose values are texts
abbrev pub TextEntry : Type 0
TextEntry = Entry (List ℕ)

-- An entry is of the family of its links, of which is said whether it is IPv6.
pub record FamilyEntry : Type 0 where
  pub v6 : Bool
  pub entry : TextEntry

-- the entries of a family among these
abbrev pub entry_in : Bool → FamilyEntry → Option TextEntry
entry_in true e = if e.v6 then Some e.entry else None
entry_in false e = if e.v6 then None else Some e.entry

abbrev pub entries_in : Bool → List FamilyEntry → List TextEntry
entries_in v6 entries = filter_map (entry_in v6) entries
