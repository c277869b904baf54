-- Lines that are walked, and what is said of them.
use Rattle.std.proofs.Common.{◌≡◌, ◌≢◌, ℕ, ◌+◌, ◌<◌, nat_lt, leb, true, false, List, [], ◌∷◌, ◌++◌, length, Some, refl, sym, ap, ◌∙◌, inl, arith, subst, append_assoc, length-append}
use Rattle.std.proofs.lemmas.List.{map-append}
use Rattle.std.proofs.lemmas.Bool.Decides.{nat_tests}
use Rattle.std.specs.Str.Lines.{strip_carriage_return}
use Rattle.journal_check.specs.Entries.{FamilyEntry}
use Rattle.journal_check.specs.Judged.{entries_read, IsReached, IsLawfulJournal, IsNotAJournalAt, IsChecked}
use Rattle.journal_check.specs.Readings.{reading_of, reading_from, is_clean}
use Rattle.journal_check.specs.Walked.{Walked, IsAfter}
use Rattle.journal_check.specs.declared.checked.Checked.{Checked}
use Rattle.journal_check.specs.declared.checked.Checked.TheVariants.{Lawful, Broken, NotAJournal}
use Rattle.journal_check.proofs.JudgeLemmas.{entries_few}
use Rattle.journal_check.proofs.OneAnswer.{one_answer}
use Rattle.check_run.specs.Lines.{IsPart, IsCut, lines_of, lines_in}
use Rattle.check_run.specs.Walking.{Stage, HasWalked, IsReady, GoesOn}
use Rattle.check_run.proofs.Cuts.{goes_into}
use Rattle.check_run.proofs.Pieces.{cut_nothing, cut_part_more, cut_line_more, lines_behind, lines_then, pending_is_last, all_ended}

-- ---- what is said of lines

reached_still : (lines more : List (List ℕ)) (n : ℕ) (es : List FamilyEntry) (line : List ℕ) → IsReached lines n es line → IsReached (lines ++ more) n es line
reached_still lines more n es line r = record {
  before = r.before;
  later = r.later ++ more;
  parted = ap (λ ls. ls ++ more) r.parted ∙ append_assoc r.before (line ∷ r.later) more;
  number = r.number;
  reads = r.reads;
  lawful = r.lawful;
}

-- what was decided stays, however the lines go on
checked_still : (lines more : List (List ℕ)) (state : Checked) → state ≢ Lawful → IsChecked lines state → IsChecked (lines ++ more) state
checked_still lines more Lawful not_lawful is = absurd (not_lawful refl)
checked_still lines more (Broken n rule) not_lawful is = record {
  entries = is.entries;
  line = is.line;
  entry = is.entry;
  reached = reached_still lines more n is.entries is.line is.reached;
  below = is.below;
  reads = is.reads;
  by = is.by;
  broken = is.broken;
}
checked_still lines more (NotAJournal n) not_lawful is = record {
  entries = is.entries;
  line = is.line;
  reached = reached_still lines more n is.entries is.line is.reached;
  cause = is.cause;
}

lawful_so_far : (lines : List (List ℕ)) (walk : Walked) → IsAfter lines walk → walk.state ≡ Lawful → IsLawfulJournal lines
lawful_so_far lines walk is lawful = subst (λ (state : Checked). IsChecked lines state) lawful is.checked

-- a line that is too long
no_line : (line : List ℕ) → 65536 < length line → reading_of line ≡ reading_from []
unfolding reading_of is_clean
no_line line long =
    let over : leb (length line) 65536 ≡ false = grind (arith, nat_tests) in
    rw over refl

-- a line that is too long ends the walk
ends_at_long : (lines : List (List ℕ)) (line : List ℕ) (later : List (List ℕ)) → IsLawfulJournal lines → 65536 < length line → IsNotAJournalAt (lines ++ line ∷ later) (length lines + 1)
ends_at_long lines line later lawful long = record {
  entries = lawful.0;
  line = line;
  reached = record { before = lines; later = later; parted = refl; number = refl; reads = lawful.1; lawful = lawful.2 };
  cause = inl (no_line line long);
}

-- ---- a text that is walked

no_lines_read : entries_read [] ≡ Some []
unfolding entries_read
no_lines_read = refl

pub walked_nothing : (now : Stage) → IsAfter [] now.walk → now.pending ≡ [] → HasWalked [] now
walked_nothing now after none = record {
  done = [];
  cut = subst (λ (p : List ℕ). IsCut [] [] p) (sym none) cut_nothing;
  after = after;
  lawful = one_answer [] now.walk.state Lawful after.checked ([], no_lines_read, (tt, tt));
  short = omega (arith, ap length none);
}

-- fewer lines than the walk may have
pub few_lines : (read : List ℕ) (now : Stage) → HasWalked read now → now.walk.number < 4294967296
few_lines read now was =
    let l = lawful_so_far (lines_in was.done) now.walk was.after was.lawful in
    let few : nat_lt (length (lines_in was.done)) 4294967296 ≡ true = (entries_few (lines_in was.done) l.0 l.1).0 in
    let count : now.walk.number ≡ length (lines_in was.done) = (was.after.kept was.lawful).0 in
    grind (arith, nat_tests)

-- what a line does to a walk
abbrev pub TakesLine : Walked → List ℕ → Walked → Type 0
TakesLine old line new = (lines : List (List ℕ)) → IsAfter lines old → IsAfter (lines ++ line ∷ []) new

said_of : (lines : List (List ℕ)) (walk : Walked) (state : Checked) → IsAfter lines walk → walk.state ≡ state → IsChecked lines state
said_of lines walk state is e = subst (λ (s : Checked). IsChecked lines s) e is.checked

-- ---- a part of a line

pub begins_short : (old new : Stage) (part : List ℕ) → IsPart part → new.walk ≡ old.walk → new.pending ≡ old.pending ++ part → length new.pending < 65538 → GoesOn Lawful old part new
begins_short old new part other same more short = λ read was. record {
  done = was.done;
  cut = subst (λ (p : List ℕ). IsCut (read ++ part) was.done p) (sym more) (cut_part_more read was.done old.pending part other was.cut);
  after = subst (λ (w : Walked). IsAfter (lines_in was.done) w) (sym same) was.after;
  lawful = ap (λ w. w.state) same ∙ was.lawful;
  short = short;
}

-- it was decided at the line that has begun
long_decides : (read : List ℕ) (checked : Checked) (old new : Stage) (part : List ℕ) → 65537 < length (old.pending ++ part) → TakesLine old.walk (old.pending ++ part) new.walk → new.walk.state ≡ checked → (was : HasWalked read old) → checked ≡ NotAJournal (length (lines_in was.done) + 1)
long_decides read checked old new part long takes is was =
    let lines = lines_in was.done in
    one_answer (lines ++ (old.pending ++ part) ∷ []) checked (NotAJournal (length lines + 1))
    (said_of (lines ++ (old.pending ++ part) ∷ []) new.walk checked (takes lines was.after) is)
    (ends_at_long lines (old.pending ++ part) [] (lawful_so_far lines old.walk was.after was.lawful) (omega arith))

-- however the text goes on, its next line is too long
long_line : (read : List ℕ) (old : Stage) (part more : List ℕ) → IsPart part → 65537 < length (old.pending ++ part) → (was : HasWalked read old) → IsNotAJournalAt (lines_of ((read ++ part) ++ more)) (length (lines_in was.done) + 1)
long_line read old part more other long was =
    let pending = old.pending ++ part in
    let c = cut_part_more read was.done old.pending part other was.cut in
    let g = goes_into pending more (omega arith) c.part in
    let lines = lines_in was.done in
    let e : lines_of ((read ++ part) ++ more) ≡ lines ++ g.first ∷ g.others = lines_behind (read ++ part) was.done pending more c ∙ ap (λ t. lines ++ t) g.lines in
    subst (λ (ls : List (List ℕ)). IsNotAJournalAt ls (length lines + 1)) (sym e)
    (ends_at_long lines g.first g.others (lawful_so_far lines old.walk was.after was.lawful) (omega (arith, g.long, long)))

pub begins_long : (checked : Checked) (old new : Stage) (part : List ℕ) → IsPart part → 65537 < length (old.pending ++ part) → TakesLine old.walk (old.pending ++ part) new.walk → new.walk.state ≡ checked → GoesOn checked old part new
begins_long Lawful old new part other long takes is = λ read was. absurd (let e = long_decides read Lawful old new part long takes is was in cc)
begins_long (Broken n rule) old new part other long takes is = λ read was more. absurd (let e = long_decides read (Broken n rule) old new part long takes is was in cc)
begins_long (NotAJournal n) old new part other long takes is = λ read was more.
    subst (λ (c : Checked). IsChecked (lines_of ((read ++ part) ++ more)) c) (sym (long_decides read (NotAJournal n) old new part long takes is was)) (long_line read old part more other long was)

pub long_is_not_lawful : (checked : Checked) (old new : Stage) (part : List ℕ) → 65537 < length (old.pending ++ part) → TakesLine old.walk (old.pending ++ part) new.walk → new.walk.state ≡ checked → IsReady old → checked ≢ Lawful
long_is_not_lawful checked old new part long takes is ready = λ lawful. let e = long_decides ready.0 checked old new part long takes is ready.1 in cc

-- ---- the end of a line

lines_with : (done : List (List ℕ)) (line : List ℕ) → lines_in (done ++ line ∷ []) ≡ lines_in done ++ strip_carriage_return line ∷ []
lines_with done line = map-append strip_carriage_return done (line ∷ [])

line_walked : (old new : Stage) (part : List ℕ) → IsPart part → TakesLine old.walk (strip_carriage_return (old.pending ++ part)) new.walk → new.walk.state ≡ Lawful → new.pending ≡ [] → (read : List ℕ) → HasWalked read old → HasWalked (read ++ (part ++ 10 ∷ [])) new
line_walked old new part other takes is none read was =
    let pending = old.pending ++ part in
    let c = cut_line_more (read ++ part) was.done pending (cut_part_more read was.done old.pending part other was.cut) in
    record {
      done = was.done ++ pending ∷ [];
      cut = subst (λ (p : List ℕ). IsCut (read ++ (part ++ 10 ∷ [])) (was.done ++ pending ∷ []) p) (sym none)
          (subst (λ (t : List ℕ). IsCut t (was.done ++ pending ∷ []) []) (append_assoc read part (10 ∷ [])) c);
      after = subst (λ (ls : List (List ℕ)). IsAfter ls new.walk) (sym (lines_with was.done pending)) (takes (lines_in was.done) was.after);
      lawful = is;
      short = omega (arith, ap length none);
    }

line_decides : (checked : Checked) (old new : Stage) (part : List ℕ) → checked ≢ Lawful → IsPart part → TakesLine old.walk (strip_carriage_return (old.pending ++ part)) new.walk → new.walk.state ≡ checked → (read : List ℕ) → HasWalked read old → (more : List ℕ) → IsChecked (lines_of ((read ++ (part ++ 10 ∷ [])) ++ more)) checked
line_decides checked old new part decided other takes is read was more =
    let pending = old.pending ++ part in
    let line = strip_carriage_return pending in
    let lines = lines_in was.done in
    let e : lines_of ((read ++ (part ++ 10 ∷ [])) ++ more) ≡ (lines ++ line ∷ []) ++ lines_of more =
    ap (λ t. lines_of (t ++ more)) (sym (append_assoc read part (10 ∷ [])))
    ∙ (lines_then (read ++ part) was.done pending more (cut_part_more read was.done old.pending part other was.cut)
    ∙ sym (append_assoc lines (line ∷ []) (lines_of more))) in
    subst (λ (ls : List (List ℕ)). IsChecked ls checked) (sym e)
    (checked_still (lines ++ line ∷ []) (lines_of more) checked decided (said_of (lines ++ line ∷ []) new.walk checked (takes lines was.after) is))

pub ends : (checked : Checked) (old new : Stage) (part : List ℕ) → IsPart part → TakesLine old.walk (strip_carriage_return (old.pending ++ part)) new.walk → new.walk.state ≡ checked → new.pending ≡ [] → GoesOn checked old (part ++ 10 ∷ []) new
ends Lawful old new part other takes is none = line_walked old new part other takes is none
ends (Broken n rule) old new part other takes is none = line_decides (Broken n rule) old new part (λ e. cc) other takes is
ends (NotAJournal n) old new part other takes is none = line_decides (NotAJournal n) old new part (λ e. cc) other takes is

-- one line more
pub line_counts : (old new : Stage) (line : List ℕ) → TakesLine old.walk line new.walk → new.walk.state ≡ Lawful → IsReady old → new.walk.number ≡ old.walk.number + 1
line_counts old new line takes is ready =
    let was = ready.1 in
    let lines = lines_in was.done in
    let before : old.walk.number ≡ length lines = (was.after.kept was.lawful).0 in
    let now : new.walk.number ≡ length (lines ++ line ∷ []) = ((takes lines was.after).kept is).0 in
    omega (arith, length-append lines (line ∷ []))

-- ---- the end of the text

pub finished : (read : List ℕ) (now : Stage) → length now.pending ≡ 0 → HasWalked read now → IsLawfulJournal (lines_of read)
finished read now none was = subst IsLawfulJournal (sym (all_ended read was.done now.pending none was.cut)) (lawful_so_far (lines_in was.done) now.walk was.after was.lawful)

pub finished_line : (checked : Checked) (read : List ℕ) (now : Stage) (new : Walked) → 0 < length now.pending → TakesLine now.walk now.pending new → new.state ≡ checked → HasWalked read now → IsChecked (lines_of read) checked
finished_line checked read now new some takes is was =
    let lines = lines_in was.done in
    subst (λ (ls : List (List ℕ)). IsChecked ls checked) (sym (pending_is_last read was.done now.pending some was.cut))
    (said_of (lines ++ now.pending ∷ []) new checked (takes lines was.after) is)
