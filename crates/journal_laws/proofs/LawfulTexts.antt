-- Of the text of lines whose entries obey the rules it is to be said that it is lawful.
use Rattle.std.proofs.Common.{◌≡◌, ℕ, zero, suc, ◌-◌, ◌^◌, ◌<◌, ◌&&◌, Bool, true, false, cond, nat_lt, nat_le, nat_eq, List, [], ◌∷◌, ◌++◌, length, get_or, take, Option, Some, None, refl, sym, ap, subst, ◌∙◌, arith, length-append}
use Rattle.std.specs.Prelude.{map}
use Rattle.std.proofs.lemmas.Bool.Decides.{nat_tests}
use Rattle.std.proofs.lemmas.List.{append-nil, length-map, map-append}
use Rattle.std.proofs.lemmas.List.Elements.{All-cons}
use Rattle.std.specs.List.{AllByRecursion, flat_map, list_all, join_with_byte}
use Rattle.std.specs.Str.Lines.{strip_carriage_return}
use Rattle.addr4.specs.Texts.{parts}
use Rattle.bgp_attr.specs.declared.speaker.Neighbour.{Neighbour}
use Rattle.journal_text.specs.Texts.{line_words, line_text, is_entry, entry_list}
use Rattle.journal_text.specs.Walk.{IsLawful, no_links}
use Rattle.journal_text.specs.Lines.{Value}
use Rattle.journal_text.specs.Lines.{Entry}
use Rattle.journal_text.specs.declared.entry.Entry.TheVariants.{Begin, Inherit, Add, Delete, Replace, Asked, Weld, End}
use Rattle.journal_text.specs.declared.line.Code.{Code}
use Rattle.journal_text.specs.Lines.{Line}
use Rattle.journal_text.specs.declared.line.Line.TheVariants.{Journal, Refused}
use Rattle.journal_check.specs.Entries.{TextEntry, FamilyEntry, entries_in}
use Rattle.journal_check.specs.Readings.{is_clean, read_or_not, reading_from, reading_of}
use Rattle.journal_check.specs.Judged.{entries_given, joined, each_read, entries_read, IsChecked}
use Rattle.journal_check.specs.Laws.{IsAnswer, IsEntry, IsLine, said, texts_of}
use Rattle.journal_check.specs.declared.checked.Checked.TheVariants.{Lawful}
use Rattle.journal_check.proofs.InkLemmas.{all_append, both_true, printable}
use Rattle.journal_check.proofs.LineBack.{lines_back}
use Rattle.journal_check.proofs.OneAnswer.{one_answer}
use Rattle.check_run.specs.Lines.{IsPart, ended, lines_of, lines_in}
use Rattle.check_run.specs.Answers.{ending_of}
use Rattle.check_run.proofs.Cuts.{lines_done}
use Rattle.journal_laws.specs.Printed.{Printing, IsTold, IsWellTold, answer_values, values_of, values_in, IsShortLine}
use Rattle.journal_laws.specs.FamilyLines.{FamilyLine, text_of, family_entries, AreLawfulLines, printing_in, IsPrintedLine}
use Rattle.journal_laws.specs.TextLinks.{text_entries}
use Rattle.journal_laws.specs.Laws.{PrintedLinesAreRead, PrintedIsLawful, RefusedIsLawful, LawfulEndsLawful}
use Rattle.journal_laws.proofs.ShortLines.{lines_short}
use Rattle.journal_laws.proofs.TextWalks.{texts_walked}
use Rattle.journal_laws.proofs.FamilyTexts.{entries_if, own_entries, entries_more, text_of_append, entries_append}

-- ---- one line

pub lines_read : PrintedLinesAreRead
lines_read v6 line text h is = lines_back v6 line text h.ranges is (omega (arith, lines_short v6 line h, length-append text (10 ∷ []), ap length is))

-- a line without its LF
abbrev printed : FamilyLine → List ℕ
printed l = join_with_byte 32 (line_words l.v6 l.line)

line_ended : (l : FamilyLine) → line_text l.v6 l.line ≡ ended (printed l)
unfolding line_text
line_ended l = refl

abbrev IsShort : FamilyLine → Type 0
IsShort l = IsShortLine l.v6 l.line

printed_read : (l : FamilyLine) → IsShort l → reading_of (printed l) ≡ said l.v6 l.line
printed_read l h = lines_read l.v6 l.line (printed l) h (line_ended l)

is_said : (v6 : Bool) (line : Line) → read_or_not None ≡ said v6 line → ⊥
is_said v6 (Journal entry) e = absurd (cc)
is_said v6 other e = absurd (cc)

clean_of : (text : List ℕ) (v6 : Bool) (line : Line) → reading_of text ≡ said v6 line → is_clean text ≡ true
unfolding reading_of
clean_of text v6 line e = by (is_clean text) e
  where
    by : (b : Bool) → cond b (reading_from (parts 32 text)) (read_or_not None) ≡ said v6 line → b ≡ true
    by true e = refl
    by false e = absurd (is_said v6 line e)

bytes_of : (text : List ℕ) → is_clean text ≡ true → list_all printable text ≡ true
unfolding is_clean
bytes_of text e = (both_true (nat_le (length text) 65536) (list_all printable text) e).1

-- ---- printed bytes

no_lf : (b : ℕ) → printable b ≡ true → nat_eq b 10 ≡ false
no_lf b e = grind (arith, nat_tests)

no_cr : (b : ℕ) → printable b ≡ true → nat_eq b 13 ≡ false
no_cr b e = grind (arith, nat_tests)

-- no LF stands in them
pub part_of : (text : List ℕ) → list_all printable text ≡ true → IsPart text
part_of [] e = λ k d below. absurd (omega arith)
part_of (b ∷ text) e = let both = both_true (printable b) (list_all printable text) e in All-cons (λ c. nat_eq c 10 ≡ false) b text (no_lf b both.0) (part_of text both.1)

no_cr_at : (text : List ℕ) (k : ℕ) → list_all printable text ≡ true → nat_eq (get_or text k 0) 13 ≡ false
no_cr_at [] k e = refl
no_cr_at (b ∷ text) zero e = no_cr b (both_true (printable b) (list_all printable text) e).0
no_cr_at (b ∷ text) (suc k) e = no_cr_at text k (both_true (printable b) (list_all printable text) e).1

-- no CR stands at their end
pub no_return : (text : List ℕ) → list_all printable text ≡ true → strip_carriage_return text ≡ text
no_return text e = ap (λ b. cond b (take (length text - 1) text) text) (no_cr_at text (length text - 1) e)

-- ---- the entries that are read

abbrev read_entry : Bool → Entry Value → FamilyEntry
read_entry v6 e = record { v6 = v6; entry = texts_of v6 e }

-- those of a line
abbrev given : FamilyLine → List FamilyEntry
given l = map (read_entry l.v6) (entry_list l.line)

entries_said : (v6 : Bool) (line : Line) → entries_given (said v6 line) ≡ Some (map (read_entry v6) (entry_list line))
entries_said v6 (Journal entry) = refl
entries_said v6 other = refl

given_in : (v6 own : Bool) (es : List (Entry Value)) (rest : List FamilyEntry) → entries_in v6 (map (read_entry own) es ++ rest) ≡ text_entries v6 (entries_if v6 own es) ++ entries_in v6 rest
given_in true true [] rest = refl
given_in true true (e ∷ es) rest = ap (λ (xs : List TextEntry). texts_of true e ∷ xs) (given_in true true es rest)
given_in true false [] rest = refl
given_in true false (e ∷ es) rest = given_in true false es rest
given_in false true [] rest = refl
given_in false true (e ∷ es) rest = given_in false true es rest
given_in false false [] rest = refl
given_in false false (e ∷ es) rest = ap (λ (xs : List TextEntry). texts_of false e ∷ xs) (given_in false false es rest)

-- those of a family are its own
entries_told : (v6 : Bool) (out : List FamilyLine) → entries_in v6 (flat_map given out) ≡ text_entries v6 (family_entries v6 out)
entries_told v6 [] = refl
entries_told v6 (l ∷ out) =
    let own = own_entries v6 l in
    given_in v6 l.v6 (entry_list l.line) (flat_map given out)
    ∙ (ap (λ (xs : List TextEntry). text_entries v6 own ++ xs) (entries_told v6 out)
    ∙ sym (ap (text_entries v6) (entries_more v6 l out) ∙ map-append (texts_of v6) own (family_entries v6 out)))

-- ---- all lines

abbrev AreShort : List FamilyLine → Type 0
AreShort out = AllByRecursion IsShort out

-- the text of all lines
abbrev whole_text : List FamilyLine → List ℕ
whole_text out = flat_map (λ l. line_text l.v6 l.line) out

each_printed : (out : List FamilyLine) → AreShort out → each_read (map printed out) ≡ Some (flat_map given out)
each_printed [] h = refl
each_printed (l ∷ out) h =
    ap (λ r. joined r (each_read (map printed out))) (ap entries_given (printed_read l h.0) ∙ entries_said l.v6 l.line)
    ∙ ap (joined (Some (given l))) (each_printed out h.1)

entries_printed : (out : List FamilyLine) → AreShort out → length out < 4294967296 → entries_read (map printed out) ≡ Some (flat_map given out)
unfolding entries_read
entries_printed out h few =
    let size = length-map out printed in
    let test : nat_lt (length (map printed out)) 4294967296 ≡ true = grind (arith, nat_tests) in
    ap (λ b. cond b (each_read (map printed out)) None) test ∙ each_printed out h

bytes_printed : (l : FamilyLine) → IsShort l → list_all printable (printed l) ≡ true
bytes_printed l h = bytes_of (printed l) (clean_of (printed l) l.v6 l.line (printed_read l h))

parts_printed : (out : List FamilyLine) → AreShort out → AllByRecursion IsPart (map printed out)
parts_printed [] h = tt
parts_printed (l ∷ out) h = (part_of (printed l) (bytes_printed l h.0), parts_printed out h.1)

whole : (out : List FamilyLine) → whole_text out ≡ flat_map ended (map printed out)
whole [] = refl
whole (l ∷ out) = (λ i. line_ended l i ++ whole out i)

stripped : (out : List FamilyLine) → AreShort out → lines_in (map printed out) ≡ map printed out
stripped [] h = refl
stripped (l ∷ out) h = (λ i. no_return (printed l) (bytes_printed l h.0) i ∷ stripped out h.1 i)

no_lines : lines_of [] ≡ []
no_lines = refl

lines_printed : (out : List FamilyLine) → AreShort out → lines_of (whole_text out) ≡ map printed out
lines_printed out h =
    ap lines_of (whole out ∙ sym (append-nil (flat_map ended (map printed out))))
    ∙ (lines_done (map printed out) [] (parts_printed out h)
    ∙ (ap (λ ls. lines_in (map printed out) ++ ls) no_lines
    ∙ (append-nil (lines_in (map printed out)) ∙ stripped out h)))

-- ---- what is judged

values_exact : (printing : Printing) (entry : Entry Value) → IsEntry printing.v6 entry → AllByRecursion (IsTold printing) (values_of entry) → AllByRecursion (IsWellTold printing) (values_of entry)
values_exact printing (Begin link) h told = tt
values_exact printing (Inherit link from) h told = tt
values_exact printing (Add link p new) h told = (record { ranges = h.2; told = told.0 }, tt)
values_exact printing (Delete link p old) h told = (record { ranges = h.2; told = told.0 }, tt)
values_exact printing (Replace link p old new) h told = (record { ranges = h.2; told = told.0 }, (record { ranges = h.3; told = told.1.0 }, tt))
values_exact printing (Asked link p row) h told = by row h.2 told
  where
    by : (row : Option Value) → IsAnswer row → AllByRecursion (IsTold printing) (answer_values row) → AllByRecursion (IsWellTold printing) (answer_values row)
    by None h told = tt
    by (Some value) h told = (record { ranges = h; told = told.0 }, tt)
values_exact printing (Weld upper lower) h told = tt
values_exact printing (End link) h told = tt

abbrev AreExact : Printing → List (Entry Value) → Type 0
AreExact printing entries = AllByRecursion (λ e. AllByRecursion (IsWellTold printing) (values_of e)) entries

line_exact : (printing : Printing) (line : Line) → IsLine printing.v6 line → AllByRecursion (IsTold printing) (values_in line) → AreExact printing (entry_list line)
line_exact printing (Journal entry) h told = (values_exact printing entry h told, tt)
line_exact printing other h told = tt

module _ (peers : Bool → ℕ → Option Neighbour) where
  own_exact : (v6 : Bool) (l : FamilyLine) → IsPrintedLine peers l → AreExact (printing_in peers v6) (own_entries v6 l)
  own_exact v6 l h = by v6 l.v6 (line_exact (printing_in peers l.v6) l.line h.short.ranges h.told)
    where
      by : (v6 own : Bool) → AreExact (printing_in peers own) (entry_list l.line) → AreExact (printing_in peers v6) (entries_if v6 own (entry_list l.line))
      by true true exact = exact
      by true false exact = tt
      by false true exact = tt
      by false false exact = exact

  lines_exact : (v6 : Bool) (out : List FamilyLine) → AllByRecursion (IsPrintedLine peers) out → AreExact (printing_in peers v6) (family_entries v6 out)
  lines_exact v6 [] h = tt
  lines_exact v6 (l ∷ out) h =
      subst (AreExact (printing_in peers v6)) (sym (entries_more v6 l out))
      (all_append (λ e. AllByRecursion (IsWellTold (printing_in peers v6)) (values_of e)) (own_entries v6 l) (family_entries v6 out) (own_exact v6 l h.0) (lines_exact v6 out h.1))

  are_short : (out : List FamilyLine) → AllByRecursion (IsPrintedLine peers) out → AreShort out
  are_short [] h = tt
  are_short (l ∷ out) h = (h.0.short, are_short out h.1)

  family_lawful : (v6 : Bool) (out : List FamilyLine) → AllByRecursion (IsPrintedLine peers) out → IsLawful no_links (family_entries v6 out) → IsLawful no_links (entries_in v6 (flat_map given out))
  family_lawful v6 out h lawful =
      subst (λ (xs : List TextEntry). IsLawful no_links xs) (sym (entries_told v6 out)) (texts_walked (printing_in peers v6) no_links (family_entries v6 out) (lines_exact v6 out h) lawful).lawful

  all_judged : (out : List FamilyLine) → AllByRecursion (IsPrintedLine peers) out → length (lines_of (whole_text out)) < 4294967296 → AreLawfulLines out → IsChecked (lines_of (whole_text out)) Lawful
  all_judged out h few lawful =
      let short = are_short out h in
      let count : length out < 4294967296 = omega (arith, ap length (lines_printed out short), length-map out printed) in
      (flat_map given out, ap entries_read (lines_printed out short) ∙ entries_printed out short count, (family_lawful false out h (lawful false), family_lawful true out h (lawful true)))

-- ---- quiet output

-- the lines that are printed
abbrev kept : Bool → List FamilyLine → List FamilyLine
kept quiet [] = []
kept quiet (l ∷ out) = cond (quiet && is_entry l.line) (kept quiet out) (l ∷ kept quiet out)

text_kept : (quiet : Bool) (out : List FamilyLine) → text_of quiet out ≡ whole_text (kept quiet out)
text_kept quiet [] = refl
text_kept quiet (l ∷ out) = by (quiet && is_entry l.line) (text_kept quiet out)
  where
    by : (b : Bool) → text_of quiet out ≡ whole_text (kept quiet out) → cond b [] (line_text l.v6 l.line) ++ text_of quiet out ≡ whole_text (cond b (kept quiet out) (l ∷ kept quiet out))
    by true later = later
    by false later = ap (λ t. line_text l.v6 l.line ++ t) later

all_kept : (P : FamilyLine → Type 0) (quiet : Bool) (out : List FamilyLine) → AllByRecursion P out → AllByRecursion P (kept quiet out)
all_kept P quiet [] h = tt
all_kept P quiet (l ∷ out) h = by (quiet && is_entry l.line) (all_kept P quiet out h.1)
  where
    by : (b : Bool) → AllByRecursion P (kept quiet out) → AllByRecursion P (cond b (kept quiet out) (l ∷ kept quiet out))
    by true later = later
    by false later = (h.0, later)

all_if_loud : (out : List FamilyLine) → kept false out ≡ out
all_if_loud [] = refl
all_if_loud (l ∷ out) = ap (λ ls. l ∷ ls) (all_if_loud out)

-- a line that isn't the journal's has no entry
no_entry : (line : Line) → is_entry line ≡ false → entry_list line ≡ []
no_entry (Journal entry) e = absurd (cc)
no_entry other e = refl

no_own : (v6 own : Bool) → entries_if v6 own [] ≡ []
no_own true true = refl
no_own true false = refl
no_own false true = refl
no_own false false = refl

none_if_quiet : (v6 : Bool) (out : List FamilyLine) → family_entries v6 (kept true out) ≡ []
none_if_quiet v6 [] = refl
none_if_quiet v6 (l ∷ out) = by (is_entry l.line) refl (none_if_quiet v6 out)
  where
    by : (b : Bool) → is_entry l.line ≡ b → family_entries v6 (kept true out) ≡ [] → family_entries v6 (cond b (kept true out) (l ∷ kept true out)) ≡ []
    by true is later = later
    by false is later =
        entries_more v6 l (kept true out)
        ∙ (ap (λ (es : List (Entry Value)). entries_if v6 l.v6 es ++ family_entries v6 (kept true out)) (no_entry l.line is)
        ∙ (ap (λ (es : List (Entry Value)). es ++ family_entries v6 (kept true out)) (no_own v6 l.v6) ∙ later))

lawful_kept : (quiet : Bool) (out : List FamilyLine) → AreLawfulLines out → AreLawfulLines (kept quiet out)
lawful_kept false out lawful v6 = subst (λ (ls : List FamilyLine). IsLawful no_links (family_entries v6 ls)) (sym (all_if_loud out)) (lawful v6)
lawful_kept true out lawful v6 = subst (λ (es : List (Entry Value)). IsLawful no_links es) (sym (none_if_quiet v6 out)) tt

pub printed_judged : PrintedIsLawful
printed_judged peers quiet out h few lawful =
    subst (λ text. IsChecked (lines_of text) Lawful) (sym (text_kept quiet out))
    (all_judged peers (kept quiet out) (all_kept (IsPrintedLine peers) quiet out h) (subst (λ text. length (lines_of text) < 4294967296) (text_kept quiet out) few) (lawful_kept quiet out lawful))

pub lawful_ends : LawfulEndsLawful
lawful_ends text ending lawful ends = ends.gives ∙ ap ending_of (one_answer (lines_of text) ends.checked Lawful ends.is lawful)

-- ---- a refused event

-- it is one more line, and no entry
abbrev refused : ℕ → Code → FamilyLine
refused number code = record { v6 = false; line = Refused number code }

refused_text : (quiet : Bool) (out : List FamilyLine) (number : ℕ) (code : Code) → text_of quiet out ++ line_text false (Refused number code) ≡ text_of quiet (out ++ refused number code ∷ [])
refused_text quiet out number code = sym (text_of_append quiet out (refused number code ∷ []) ∙ ap (λ t. text_of quiet out ++ t) (alone quiet))
  where
    alone : (quiet : Bool) → text_of quiet (refused number code ∷ []) ≡ line_text false (Refused number code)
    alone true = append-nil (line_text false (Refused number code))
    alone false = append-nil (line_text false (Refused number code))

refused_entries : (v6 : Bool) (out : List FamilyLine) (number : ℕ) (code : Code) → family_entries v6 (out ++ refused number code ∷ []) ≡ family_entries v6 out
refused_entries v6 out number code = entries_append v6 out (refused number code ∷ []) ∙ (ap (λ (es : List (Entry Value)). family_entries v6 out ++ es) (none v6) ∙ append-nil (family_entries v6 out))
  where
    none : (v6 : Bool) → family_entries v6 (refused number code ∷ []) ≡ []
    none true = refl
    none false = refl

refused_printed : (peers : Bool → ℕ → Option Neighbour) (number : ℕ) (code : Code) → number < 2 ^ 64 → IsPrintedLine peers (refused number code)
refused_printed peers number code small = record { short = record { ranges = small; values = tt; octets = omega arith }; told = tt }

pub refused_judged : RefusedIsLawful
refused_judged peers quiet out number code h small few lawful =
    subst (λ text. IsChecked (lines_of text) Lawful) (sym (refused_text quiet out number code))
    (printed_judged peers quiet (out ++ refused number code ∷ []) (all_append (IsPrintedLine peers) out (refused number code ∷ []) h (refused_printed peers number code small, tt))
    (subst (λ text. length (lines_of text) < 4294967296) (refused_text quiet out number code) few)
    (λ v6. subst (λ (es : List (Entry Value)). IsLawful no_links es) (sym (refused_entries v6 out number code)) (lawful v6)))
