-- Lines that `check` skips, behind a journal.
use Rattle.std.proofs.Common.{◌≡◌, ◌⊎◌, ℕ, ◌^◌, ◌<◌, ◌≤◌, ◌&&◌, Bool, true, false, cond, nat_lt, nat_le, nat_eq, List, [], ◌∷◌, ◌++◌, length, Some, None, inl, inr, codes, refl, sym, ap, subst, ◌∙◌, arith, append_assoc, length-append}
use Rattle.std.proofs.lemmas.Bool.Decides.{nat_tests}
use Rattle.std.proofs.lemmas.List.{append-nil}
use Rattle.std.proofs.lemmas.List.Elements.{All-cons}
use Rattle.std.proofs.lemmas.Fmt.{length-decimal-le_wide}
use Rattle.std.specs.List.{AllByRecursion, list_all, join_with_byte}
use Rattle.std.specs.Str.Lines.{strip_carriage_return}
use Rattle.std.specs.Fmt.{decimal}
use Rattle.addr4.specs.Texts.{parts}
use Rattle.journal_text.specs.Lines.{Line}
use Rattle.journal_text.specs.declared.line.Line.TheVariants.{Ignored}
use Rattle.journal_text.specs.Texts.{line_words, line_text, is_entry, words_line, dot_number, link_text, link_name}
use Rattle.journal_text.specs.declared.link.Link.TheVariants.{In, Adv}
use Rattle.journal_check.specs.Entries.{FamilyEntry}
use Rattle.journal_check.specs.Readings.{is_clean, is_skipped, read_or_not, reading_from, reading_of}
use Rattle.journal_check.specs.Judged.{entries_given, joined, each_read, entries_read, IsChecked}
use Rattle.journal_check.specs.Laws.{said}
use Rattle.journal_check.specs.declared.checked.Checked.TheVariants.{Lawful}
use Rattle.journal_check.proofs.InkLemmas.{IsInk, AreInk, all_append, ink_by, ink_decimal, ink_wide, printable, words_parted, line_passes}
use Rattle.check_run.specs.Lines.{IsCut, lines_of, lines_in}
use Rattle.check_run.proofs.Cuts.{no_bytes, line_ends}
use Rattle.check_run.proofs.Pieces.{cut_nothing, lines_then}
use Rattle.journal_laws.specs.FamilyLines.{FamilyLine, shown_in, text_of}
use Rattle.journal_laws.proofs.LawfulTexts.{part_of, no_return}

-- ---- a text, and what follows its last LF

abbrev HasCut : List ℕ → Type 0
HasCut text = (done : List (List ℕ)) × (pending : List ℕ) × IsCut text done pending

-- one more byte before a text
cut_byte : (b : ℕ) (text : List ℕ) (done : List (List ℕ)) (pending : List ℕ) → IsCut text done pending → HasCut (b ∷ text)
cut_byte b text done pending c = by (nat_eq b 10) refl done c
  where
    by : (t : Bool) → nat_eq b 10 ≡ t → (done : List (List ℕ)) → IsCut text done pending → HasCut (b ∷ text)
    by true is done c =
        let lf : b ≡ 10 = grind (arith, nat_tests) in
        ([] ∷ done, pending, record { whole = ap (λ t. t ∷ text) lf ∙ ap (λ t. 10 ∷ t) c.whole; each = (no_bytes, c.each); part = c.part })
    by false is [] c = ([], b ∷ pending, record { whole = ap (λ t. b ∷ t) c.whole; each = tt; part = All-cons (λ x. nat_eq x 10 ≡ false) b pending is c.part })
    by false is (d ∷ done) c =
        ((b ∷ d) ∷ done, pending, record { whole = ap (λ t. b ∷ t) c.whole; each = (All-cons (λ x. nat_eq x 10 ≡ false) b d is c.each.0, c.each.1); part = c.part })

cut_of : (text : List ℕ) → HasCut text
cut_of [] = ([], [], cut_nothing)
cut_of (b ∷ text) = let c = cut_of text in cut_byte b text c.0 c.1 c.2

-- the lines of a text behind an LF
lines_after : (x y : List ℕ) → lines_of ((x ++ 10 ∷ []) ++ y) ≡ lines_of (x ++ 10 ∷ []) ++ lines_of y
lines_after x y =
    let c = cut_of x in
    let alone : lines_of (x ++ 10 ∷ []) ≡ lines_in c.0 ++ strip_carriage_return c.1 ∷ [] = ap lines_of (sym (append-nil (x ++ 10 ∷ []))) ∙ lines_then x c.0 c.1 [] c.2 in
    lines_then x c.0 c.1 y c.2 ∙ (sym (append_assoc (lines_in c.0) (strip_carriage_return c.1 ∷ []) (lines_of y)) ∙ ap (λ ls. ls ++ lines_of y) (sym alone))

-- nothing, or a text with an LF at its end
abbrev pub EndsWhole : List ℕ → Type 0
EndsWhole text = (text ≡ []) ⊎ ((x : List ℕ) × (text ≡ x ++ 10 ∷ []))

lines_both : (a b : List ℕ) → EndsWhole a → lines_of (a ++ b) ≡ lines_of a ++ lines_of b
lines_both a b (inl none) = subst (λ t. lines_of (t ++ b) ≡ lines_of t ++ lines_of b) (sym none) refl
lines_both a b (inr ends) = subst (λ t. lines_of (t ++ b) ≡ lines_of t ++ lines_of b) (sym ends.1) (lines_after ends.0 b)

both_end : (a b : List ℕ) → EndsWhole a → EndsWhole b → EndsWhole (a ++ b)
both_end a b p (inl none) = subst EndsWhole (sym (ap (λ t. a ++ t) none ∙ append-nil a)) p
both_end a b p (inr ends) = inr (a ++ ends.0, ap (λ t. a ++ t) ends.1 ∙ sym (append_assoc a ends.0 (10 ∷ [])))

line_ended : (v6 : Bool) (line : Line) → EndsWhole (line_text v6 line)
unfolding line_text
line_ended v6 line = inr (join_with_byte 32 (line_words v6 line), refl)

-- so does the text of lines
pub text_ended : (quiet : Bool) (out : List FamilyLine) → EndsWhole (text_of quiet out)
text_ended quiet [] = inl refl
text_ended quiet (l ∷ out) = both_end (shown_in quiet l) (text_of quiet out) (by (quiet && is_entry l.line)) (text_ended quiet out)
  where
    by : (b : Bool) → EndsWhole (cond b [] (line_text l.v6 l.line))
    by true = inl refl
    by false = line_ended l.v6 l.line

-- ---- lines that say nothing

abbrev pub AreSkipped : List (List ℕ) → Type 0
AreSkipped lines = AllByRecursion (λ line. reading_of line ≡ said false Ignored) lines

-- whole lines that say nothing
pub record IsSkippedText (text : List ℕ) : Type 0 where
  pub whole : EndsWhole text
  pub each : AreSkipped (lines_of text)

pub skipped_nothing : IsSkippedText []
skipped_nothing = record { whole = inl refl; each = tt }

pub skipped_both : (a b : List ℕ) → IsSkippedText a → IsSkippedText b → IsSkippedText (a ++ b)
skipped_both a b p q = record {
  whole = both_end a b p.whole q.whole;
  each = subst AreSkipped (sym (lines_both a b p.whole)) (all_append (λ line. reading_of line ≡ said false Ignored) (lines_of a) (lines_of b) p.each q.each);
}

each_alone : (ys : List (List ℕ)) → AreSkipped ys → each_read ys ≡ Some []
each_alone [] h = refl
each_alone (line ∷ ys) h = ap (λ r. joined (entries_given r) (each_read ys)) h.0 ∙ ap (joined (Some [])) (each_alone ys h.1)

each_behind : (xs ys : List (List ℕ)) → AreSkipped ys → each_read (xs ++ ys) ≡ each_read xs
each_behind [] ys h = each_alone ys h
each_behind (line ∷ xs) ys h = ap (joined (entries_given (reading_of line))) (each_behind xs ys h)

entries_behind : (xs ys : List (List ℕ)) (es : List FamilyEntry) → AreSkipped ys → length (xs ++ ys) < 4294967296 → length xs < 4294967296 → entries_read xs ≡ Some es → entries_read (xs ++ ys) ≡ Some es
unfolding entries_read
entries_behind xs ys es h few before e =
    let now : nat_lt (length (xs ++ ys)) 4294967296 ≡ true = grind (arith, nat_tests) in
    let then : nat_lt (length xs) 4294967296 ≡ true = grind (arith, nat_tests) in
    ap (λ b. cond b (each_read (xs ++ ys)) None) now ∙ (each_behind xs ys h ∙ (sym (ap (λ b. cond b (each_read xs) None) then) ∙ e))

-- a lawful journal with such lines behind it is lawful
pub lawful_behind : (a b : List ℕ) → EndsWhole a → IsSkippedText b → (length (lines_of a) < 4294967296 → IsChecked (lines_of a) Lawful) → length (lines_of (a ++ b)) < 4294967296 → IsChecked (lines_of (a ++ b)) Lawful
lawful_behind a b ends skipped lawful few =
    let parted = lines_both a b ends in
    let count : length (lines_of a ++ lines_of b) < 4294967296 = subst (λ (ls : List (List ℕ)). length ls < 4294967296) parted few in
    let before : length (lines_of a) < 4294967296 = omega (arith, count, length-append (lines_of a) (lines_of b)) in
    let is = lawful before in
    (is.0, ap entries_read parted ∙ entries_behind (lines_of a) (lines_of b) is.0 skipped.each count before is.1, is.2)

-- ---- a line of words

and_yes : (a b : Bool) → a ≡ true → b ≡ true → (a && b) ≡ true
and_yes a b ha hb = cc

-- a word of bytes that are printed and no space, and not long
pub record IsShortWord (word : List ℕ) : Type 0 where
  pub ink : AreInk word
  pub short : length word ≤ 100

line_short : (a b : List ℕ) → length a ≤ 100 → length b ≤ 100 → nat_le (length (join_with_byte 32 (codes "total" ∷ a ∷ b ∷ []))) 65536 ≡ true
line_short a b p q =
    let size : length (join_with_byte 32 (codes "total" ∷ a ∷ b ∷ [])) ≤ 65536 = omega (arith, p, q, length-append (codes "total") (32 ∷ a ++ 32 ∷ b), length-append a (32 ∷ b)) in
    grind (arith, nat_tests)

total_read : (a b : List ℕ) → IsShortWord a → IsShortWord b → reading_of (join_with_byte 32 (codes "total" ∷ a ∷ b ∷ [])) ≡ said false Ignored
unfolding reading_of is_clean is_skipped
total_read a b p q =
    let line = join_with_byte 32 (codes "total" ∷ a ∷ b ∷ []) in
    let ink : AllByRecursion AreInk (codes "total" ∷ a ∷ b ∷ []) = (ink_by (codes "total") refl, (p.ink, (q.ink, tt))) in
    let clean : (nat_le (length line) 65536 && list_all printable line) ≡ true = and_yes _ _ (line_short a b p.short q.short) (line_passes (codes "total") (a ∷ b ∷ []) ink) in
    ap (λ t. cond t (reading_from (parts 32 line)) (read_or_not None)) clean ∙ ap reading_from (words_parted (codes "total") (a ∷ b ∷ []) ink)

-- `total` and two words
pub total_skipped : (a b : List ℕ) → IsShortWord a → IsShortWord b → IsSkippedText (words_line (codes "total" ∷ a ∷ b ∷ []))
total_skipped a b p q =
    let line = join_with_byte 32 (codes "total" ∷ a ∷ b ∷ []) in
    let ink : AllByRecursion AreInk (codes "total" ∷ a ∷ b ∷ []) = (ink_by (codes "total") refl, (p.ink, (q.ink, tt))) in
    let passes = line_passes (codes "total") (a ∷ b ∷ []) ink in
    let alone : lines_of (line ++ 10 ∷ []) ≡ line ∷ [] = line_ends line [] (part_of line passes) ∙ ap (λ l. l ∷ []) (no_return line passes) in
    record { whole = inr (line, refl); each = subst AreSkipped (sym alone) (total_read a b p q, tt) }

-- ---- words

pub word_by : (word : List ℕ) → AreInk word → nat_le (length word) 100 ≡ true → IsShortWord word
word_by word ink short = record { ink = ink; short = grind (arith, nat_tests) }

pub number_word : (n : ℕ) → n < 2 ^ 128 → IsShortWord (decimal n)
number_word n small = record { ink = ink_wide n small; short = omega (arith, length-decimal-le_wide 39 n (omega arith) (omega arith) (omega arith)) }

dotted : (n : ℕ) → n < 2 ^ 32 → AreInk (dot_number n)
dotted n small = ((omega arith, omega arith), ink_decimal n (omega (arith, small)))

pub peer_word : (k : ℕ) → k < 2 ^ 32 → IsShortWord (link_text false (In k))
unfolding link_text link_name
peer_word k small = record {
  ink = all_append IsInk (codes "in") (dot_number k) (ink_by (codes "in") refl) (dotted k small);
  short = omega (arith, length-decimal-le_wide 10 k (omega arith) (omega (arith, small)) (omega (arith, small)), length-append (codes "in") (dot_number k));
}

pub session_word : (k s : ℕ) → k < 2 ^ 32 → s < 2 ^ 32 → IsShortWord (link_text false (Adv k s))
unfolding link_text link_name
session_word k s first second = record {
  ink = all_append IsInk (codes "adv" ++ dot_number k) (dot_number s) (all_append IsInk (codes "adv") (dot_number k) (ink_by (codes "adv") refl) (dotted k first)) (dotted s second);
  short =
      omega (
        arith,
        length-decimal-le_wide 10 k (omega arith) (omega (arith, first)) (omega (arith, first)),
        length-decimal-le_wide 10 s (omega arith) (omega (arith, second)) (omega (arith, second)),
        length-append (codes "adv" ++ dot_number k) (dot_number s),
        length-append (codes "adv") (dot_number k),
      );
}
