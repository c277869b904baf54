-- An output of two networks: its lines with the family of the network that said each, and what its text is. The texts of a family are those of
-- journal_text, where the second network's links and tasks have their mark.
use Rattle.std.specs.Prelude.{ℕ, Bool, true, false, if◌then◌else◌, List, map, filter_map, Option, Some, None}
use Rattle.std.specs.List.{flat_map}
use Rattle.bgp_attr.specs.declared.speaker.Neighbour.{Neighbour}
use Rattle.journal_text.specs.Texts.{shown, entries_of}
use Rattle.journal_text.specs.Walk.{IsLawful, no_links}
use Rattle.journal_text.specs.Lines.{Value}
use Rattle.journal_text.specs.Lines.{Entry}
use Rattle.journal_text.specs.Lines.{Line}
use Rattle.journal_laws.specs.Printed.{Printing, IsPrinted}

-- a line, of the network of IPv6 or of that of IPv4
pub record FamilyLine : Type 0 where
  pub v6 : Bool
  pub line : Line

-- lines that one network says
abbrev pub of_family : Bool → List Line → List FamilyLine
of_family v6 lines = map (λ line. record { v6 = v6; line = line }) lines

-- those of a family among the lines
abbrev pub line_in : Bool → FamilyLine → Option Line
line_in true l = if l.v6 then Some l.line else None
line_in false l = if l.v6 then None else Some l.line

abbrev pub lines_in : Bool → List FamilyLine → List Line
lines_in v6 out = filter_map (line_in v6) out

-- ---- texts
-- what is printed of a line: of the journal's nothing where the output is quiet
abbrev pub shown_in : Bool → FamilyLine → List ℕ
shown_in quiet l = shown l.v6 quiet l.line

abbrev pub text_of : Bool → List FamilyLine → List ℕ
text_of quiet out = flat_map (shown_in quiet) out

-- ---- the walk of each family
-- the journal's entries among a family's lines
abbrev pub family_entries : Bool → List FamilyLine → List (Entry Value)
family_entries v6 out = entries_of (lines_in v6 out)

-- those of each family are lawful by themselves, from no links on
abbrev pub AreLawfulLines : List FamilyLine → Type 0
AreLawfulLines out = (v6 : Bool) → IsLawful no_links (family_entries v6 out)

-- ---- lines that the program can print, in networks with these peers
abbrev pub printing_in : (Bool → ℕ → Option Neighbour) → Bool → Printing
printing_in peers v6 = record { v6 = v6; peers = peers v6 }

abbrev pub IsPrintedLine : (Bool → ℕ → Option Neighbour) → FamilyLine → Type 0
IsPrintedLine peers l = IsPrinted (printing_in peers l.v6) l.line
