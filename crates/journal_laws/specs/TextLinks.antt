-- Links and entries with texts of a family in place of values.
use Rattle.std.specs.Prelude.{ℕ, Bool, List, map, option_map}
use Rattle.link_change.specs.Rows.{Rows}
use Rattle.journal_text.specs.Texts.{value_text}
use Rattle.journal_text.specs.Walk.{Links}
use Rattle.journal_text.specs.Lines.{Value}
use Rattle.journal_text.specs.Lines.{Entry}
use Rattle.journal_check.specs.Entries.{TextEntry}
use Rattle.journal_check.specs.Laws.{texts_of}

-- the text of the row at each prefix
abbrev pub text_rows : Bool → Rows Value → Rows (List ℕ)
text_rows v6 rows q = option_map (value_text v6) (rows q)

-- the rows of each live link, as texts
abbrev pub text_links : Bool → Links Value → Links (List ℕ)
text_links v6 links link = option_map (text_rows v6) (links link)

-- the entries, with texts in the place of values
abbrev pub text_entries : Bool → List (Entry Value) → List TextEntry
text_entries v6 entries = map (texts_of v6) entries
