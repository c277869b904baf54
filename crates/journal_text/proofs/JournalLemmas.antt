-- Journals that grow, and the text and the entries of what they hold.
use Rattle.std.proofs.Common.{◌≡◌, ℕ, Bool, true, List, [], ◌∷◌, ◌++◌, map, refl, sym, ap, ◌∙◌, append_assoc}
use Rattle.std.proofs.lemmas.List.{append-nil}
use Rattle.journal_text.specs.Lines.{Entry}
use Rattle.journal_text.specs.Lines.{Line}
use Rattle.journal_text.specs.declared.line.Line.TheVariants as lines
use Rattle.journal_text.specs.Lines.{Value}
use Rattle.journal_text.specs.Texts.{text_of, shown, entries_of, entry_list}
use Rattle.journal_text.specs.Journals.{Journaled, with_lines, with_entries}

abbrev pub as_lines : List (Entry Value) → List Line
as_lines entries = map (λ e. lines.Journal e) entries

pub as_lines_append : (a b : List (Entry Value)) → as_lines (a ++ b) ≡ as_lines a ++ as_lines b
as_lines_append [] b = refl
as_lines_append (e ∷ a) b = ap (λ (t : List Line). lines.Journal e ∷ t) (as_lines_append a b)

pub text_of_append : (v6 quiet : Bool) (a b : List Line) → text_of v6 quiet (a ++ b) ≡ text_of v6 quiet a ++ text_of v6 quiet b
text_of_append v6 quiet [] b = refl
text_of_append v6 quiet (line ∷ a) b = ap (λ (t : List ℕ). shown v6 quiet line ++ t) (text_of_append v6 quiet a b) ∙ sym (append_assoc (shown v6 quiet line) (text_of v6 quiet a) (text_of v6 quiet b))

abbrev with_pending : Journaled → List ℕ → Journaled
with_pending j pending = record { text = j.text; pending = pending; quiet = j.quiet; v6 = j.v6 }

pub with_lines_append : (j : Journaled) (a b : List Line) → with_lines (with_lines j a) b ≡ with_lines j (a ++ b)
with_lines_append j a b =
    ap (with_pending j) (append_assoc j.pending (text_of j.v6 j.quiet a) (text_of j.v6 j.quiet b) ∙ ap (λ (t : List ℕ). j.pending ++ t) (sym (text_of_append j.v6 j.quiet a b)))

-- lines of which nothing is printed leave the journal as it is
pub with_unprinted : (j : Journaled) (a : List Line) → text_of j.v6 j.quiet a ≡ [] → with_lines j a ≡ j
with_unprinted j a none = ap (λ (t : List ℕ). with_pending j (j.pending ++ t)) none ∙ ap (with_pending j) (append-nil j.pending)

pub with_entries_append : (j : Journaled) (a b : List (Entry Value)) → with_entries (with_entries j a) b ≡ with_entries j (a ++ b)
with_entries_append j a b = with_lines_append j (as_lines a) (as_lines b) ∙ ap (with_lines j) (sym (as_lines_append a b))

pub with_entries_none : (j : Journaled) → with_entries j [] ≡ j
with_entries_none j = with_unprinted j [] refl

pub entries_of_append : (a b : List Line) → entries_of (a ++ b) ≡ entries_of a ++ entries_of b
entries_of_append [] b = refl
entries_of_append (line ∷ a) b = ap (λ (t : List (Entry Value)). entry_list line ++ t) (entries_of_append a b) ∙ sym (append_assoc (entry_list line) (entries_of a) (entries_of b))

-- the entries of lines that are entries
pub entries_of_entries : (entries : List (Entry Value)) → entries_of (as_lines entries) ≡ entries
entries_of_entries [] = refl
entries_of_entries (e ∷ entries) = ap (λ (t : List (Entry Value)). e ∷ t) (entries_of_entries entries)

-- a quiet journal prints no entry
pub none_printed : (v6 quiet : Bool) (entries : List (Entry Value)) → quiet ≡ true → text_of v6 quiet (as_lines entries) ≡ []
none_printed v6 quiet entries is = ap (λ q. text_of v6 q (as_lines entries)) is ∙ each entries
  where
    each : (es : List (Entry Value)) → text_of v6 true (as_lines es) ≡ []
    each [] = refl
    each (e ∷ es) = each es

pub quiet_entries : (j : Journaled) (entries : List (Entry Value)) → j.quiet ≡ true → j ≡ with_entries j entries
quiet_entries j entries is = sym (with_unprinted j (as_lines entries) (none_printed j.v6 j.quiet entries is))
