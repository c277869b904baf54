-- The text of a source, read in pieces.
use Rattle.std.proofs.Common.{◌≡◌, ⊎_elim, ℕ, ◌+◌, ◌-◌, ◌*◌, ◌<◌, ◌^◌, List, [], ◌++◌, Option, Some, None, refl, sym, ap, ◌∙◌, subst, take, length, arith}
use Rattle.std.proofs.lemmas.List.{append-nil}
use Rattle.std.specs.Io.KnownBytes.{Consumes, IsAtEnd}
use Rattle.journal_check.specs.Judged.{IsChecked}
use Rattle.journal_check.specs.declared.checked.Checked.{Checked}
use Rattle.journal_check.specs.declared.checked.Checked.TheVariants.{Lawful, Broken, NotAJournal}
use Rattle.check_run.specs.Lines.{lines_of}
use Rattle.check_run.specs.Runs.{OfText}
use Rattle.check_run.specs.Walking.{Stage, HasWalked, GoesOn, IsNearer, Progress}
use Rattle.check_run.proofs.Known.{consumes_then}
use Rattle.check_run.proofs.Walks.{few_lines}

-- the next piece was walked
pub progress_more : (checked : Checked) (left0 left next : Option (List ℕ)) (old new : Stage) (piece : List ℕ) → checked ≡ Lawful → Progress left0 left old → Consumes left next piece → GoesOn checked old piece new → Progress left0 next new
progress_more checked left0 left next old new piece lawful p c g = record {
  read = p.read ++ piece;
  consumed = consumes_then left0 left next p.read piece p.consumed c;
  walked = let f : GoesOn Lawful old piece new = subst (λ (s : Checked). GoesOn s old piece new) lawful g in f p.read p.walked;
}

-- fewer lines or bytes may still come
pub comes_nearer : (left0 left : Option (List ℕ)) (count : ℕ) (old new : Stage) → 0 < count → Progress left0 left old → IsNearer count old new → (2 ^ 32 - new.walk.number) * 65538 + (65538 - length new.pending) < (2 ^ 32 - old.walk.number) * 65538 + (65538 - length old.pending)
comes_nearer left0 left count old new some p n =
    let few = few_lines p.read old p.walked in
    let short = p.walked.short in
    ⊎_elim (λ more. omega (arith, few, short, more)) (λ same. omega (arith, few, short, same.0, same.1)) n

-- what holds of the whole text that was read
pub of_all : (left0 left : Option (List ℕ)) (read : List ℕ) (P : List ℕ → Type 0) → Consumes left0 left read → IsAtEnd left → P read → OfText left0 P
of_all None left read P c e h = (read, tt, h)
of_all (Some text) None read P c e h = absurd c
of_all (Some text) (Some more) read P c e h = (read, sym (c ∙ (ap (λ t. read ++ t) e ∙ append-nil read)), h)

-- what holds however the text goes on behind what was read
pub of_read : (left0 left : Option (List ℕ)) (read : List ℕ) (P : List ℕ → Type 0) → Consumes left0 left read → ((more : List ℕ) → P (read ++ more)) → OfText left0 P
of_read None left read P c h = (read ++ [], tt, h [])
of_read (Some text) None read P c h = absurd c
of_read (Some text) (Some more) read P c h = (read ++ more, sym c, h more)

-- the read that met the end of the input
pub read_nothing : (a b c : Option (List ℕ)) (read buf : List ℕ) (count : ℕ) → count ≡ 0 → Consumes a b read → Consumes b c (take count buf) → Consumes a c read
read_nothing a b c read buf count none p q =
    let q' : Consumes b c [] = subst (λ (n : ℕ). Consumes b c (take n buf)) none q in
    subst (λ (r : List ℕ). Consumes a c r) (append-nil read) (consumes_then a b c read [] p q')

-- all of the text was read
pub judged_all : (checked : Checked) (left0 left end : Option (List ℕ)) (now : Stage) (buf : List ℕ) (count : ℕ) → count ≡ 0 → Progress left0 left now → Consumes left end (take count buf) → IsAtEnd end → ((read : List ℕ) → HasWalked read now → IsChecked (lines_of read) checked) → OfText left0 (λ text. IsChecked (lines_of text) checked)
judged_all checked left0 left end now buf count none p c e f =
    of_all left0 end p.read (λ text. IsChecked (lines_of text) checked) (read_nothing left0 left end p.read buf count none p.consumed c) e (f p.read p.walked)

decided : (checked : Checked) (left0 left next : Option (List ℕ)) (old : Stage) (piece : List ℕ) → Progress left0 left old → Consumes left next piece → ((read : List ℕ) → HasWalked read old → (more : List ℕ) → IsChecked (lines_of ((read ++ piece) ++ more)) checked) → OfText left0 (λ text. IsChecked (lines_of text) checked)
decided checked left0 left next old piece p c f =
    of_read left0 next (p.read ++ piece) (λ text. IsChecked (lines_of text) checked) (consumes_then left0 left next p.read piece p.consumed c) (f p.read p.walked)

-- a line of the piece decides
pub judged_early : (checked : Checked) (left0 left next : Option (List ℕ)) (old new : Stage) (piece : List ℕ) → (checked ≡ Lawful → ⊥) → Progress left0 left old → Consumes left next piece → GoesOn checked old piece new → OfText left0 (λ text. IsChecked (lines_of text) checked)
judged_early Lawful left0 left next old new piece not_lawful p c g = absurd (not_lawful refl)
judged_early (Broken n rule) left0 left next old new piece not_lawful p c g = decided (Broken n rule) left0 left next old piece p c g
judged_early (NotAJournal n) left0 left next old new piece not_lawful p c g = decided (NotAJournal n) left0 left next old piece p c g
