-- Outputs of two networks: their texts and entries, piece by piece.
use Rattle.std.proofs.Common.{◌≡◌, ℕ, Bool, true, false, not, cond, List, [], ◌∷◌, ◌++◌, Option, Some, None, refl, ap, ◌∙◌}
use Rattle.std.specs.List.{AllByRecursion, cons_option}
use Rattle.std.proofs.lemmas.List.Concat.{flat_map-append}
use Rattle.bgp_attr.specs.declared.speaker.Neighbour.{Neighbour}
use Rattle.journal_text.specs.Texts as texts
use Rattle.journal_text.specs.Texts.{shown, entry_list, entries_of}
use Rattle.journal_text.specs.Lines.{Value}
use Rattle.journal_text.specs.Lines.{Entry}
use Rattle.journal_text.specs.Lines.{Line}
use Rattle.journal_laws.specs.Printed.{IsPrinted}
use Rattle.journal_laws.specs.FamilyLines.{FamilyLine, of_family, line_in, lines_in, shown_in, text_of, family_entries, printing_in, IsPrintedLine}

-- ---- texts
pub text_of_append : (quiet : Bool) (a b : List FamilyLine) → text_of quiet (a ++ b) ≡ text_of quiet a ++ text_of quiet b
text_of_append quiet a b = flat_map-append (shown_in quiet) a b

-- the text of lines of one network
pub text_of_family : (v6 quiet : Bool) (lines : List Line) → text_of quiet (of_family v6 lines) ≡ texts.text_of v6 quiet lines
text_of_family v6 quiet [] = refl
text_of_family v6 quiet (line ∷ lines) = ap (λ text. shown v6 quiet line ++ text) (text_of_family v6 quiet lines)

-- ---- the lines of a family
pub lines_in_append : (v6 : Bool) (a b : List FamilyLine) → lines_in v6 (a ++ b) ≡ lines_in v6 a ++ lines_in v6 b
lines_in_append v6 [] b = refl
lines_in_append v6 (l ∷ a) b = ap (cons_option (line_in v6 l)) (lines_in_append v6 a b) ∙ by (line_in v6 l)
  where
    by : (o : Option Line) → cons_option o (lines_in v6 a ++ lines_in v6 b) ≡ cons_option o (lines_in v6 a) ++ lines_in v6 b
    by None = refl
    by (Some line) = refl

pub lines_of_own : (v6 : Bool) (lines : List Line) → lines_in v6 (of_family v6 lines) ≡ lines
lines_of_own v6 [] = refl
lines_of_own true (line ∷ lines) = ap (λ ls. line ∷ ls) (lines_of_own true lines)
lines_of_own false (line ∷ lines) = ap (λ ls. line ∷ ls) (lines_of_own false lines)

pub lines_of_other : (v6 : Bool) (lines : List Line) → lines_in (not v6) (of_family v6 lines) ≡ []
lines_of_other v6 [] = refl
lines_of_other true (line ∷ lines) = lines_of_other true lines
lines_of_other false (line ∷ lines) = lines_of_other false lines

-- ---- its entries
abbrev pub entries_if : Bool → Bool → List (Entry Value) → List (Entry Value)
entries_if true v6 entries = cond v6 entries []
entries_if false v6 entries = cond v6 [] entries

-- those that a line has
abbrev pub own_entries : Bool → FamilyLine → List (Entry Value)
own_entries v6 l = entries_if v6 l.v6 (entry_list l.line)

pub entries_more : (v6 : Bool) (l : FamilyLine) (out : List FamilyLine) → family_entries v6 (l ∷ out) ≡ own_entries v6 l ++ family_entries v6 out
entries_more true l out = by l.v6
  where
    by : (b : Bool) → entries_of (cons_option (cond b (Some l.line) None) (lines_in true out)) ≡ cond b (entry_list l.line) [] ++ entries_of (lines_in true out)
    by true = refl
    by false = refl
entries_more false l out = by l.v6
  where
    by : (b : Bool) → entries_of (cons_option (cond b None (Some l.line)) (lines_in false out)) ≡ cond b [] (entry_list l.line) ++ entries_of (lines_in false out)
    by true = refl
    by false = refl

pub entries_append : (v6 : Bool) (a b : List FamilyLine) → family_entries v6 (a ++ b) ≡ family_entries v6 a ++ family_entries v6 b
entries_append v6 a b = ap entries_of (lines_in_append v6 a b) ∙ flat_map-append entry_list (lines_in v6 a) (lines_in v6 b)

-- ---- lines that can be printed
pub family_printed : (peers : Bool → ℕ → Option Neighbour) (v6 : Bool) (lines : List Line) → AllByRecursion (IsPrinted (printing_in peers v6)) lines → AllByRecursion (IsPrintedLine peers) (of_family v6 lines)
family_printed peers v6 [] h = tt
family_printed peers v6 (line ∷ lines) h = (h.0, family_printed peers v6 lines h.1)
