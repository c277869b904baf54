-- One piece after another.
use Rattle.std.proofs.Common.{◌≡◌, ◌≢◌, ℕ, ◌+◌, List, [], ◌∷◌, ◌++◌, length, refl, sym, ap, ◌∙◌, inl, inr, ⊎_elim, arith, subst, append_assoc, length-append}
use Rattle.std.proofs.lemmas.List.{append-nil}
use Rattle.journal_check.specs.Judged.{IsChecked}
use Rattle.journal_check.specs.declared.checked.Checked.{Checked}
use Rattle.journal_check.specs.declared.checked.Checked.TheVariants.{Lawful, Broken, NotAJournal}
use Rattle.check_run.specs.Lines.{lines_of}
use Rattle.check_run.specs.Walking.{Stage, HasWalked, IsReady, GoesOn, IsNearer, HasTaken}

stopped_then : (checked : Checked) (a b : Stage) (xs ys : List ℕ) → GoesOn Lawful a xs b → ((read : List ℕ) → HasWalked read b → (more : List ℕ) → IsChecked (lines_of ((read ++ ys) ++ more)) checked) → (read : List ℕ) → HasWalked read a → (more : List ℕ) → IsChecked (lines_of ((read ++ (xs ++ ys)) ++ more)) checked
stopped_then checked a b xs ys f g read was more = subst (λ (t : List ℕ). IsChecked (lines_of (t ++ more)) checked) (append_assoc read xs ys) (g (read ++ xs) (f read was) more)

goes_on_then : (checked : Checked) (a b c : Stage) (xs ys : List ℕ) → GoesOn Lawful a xs b → GoesOn checked b ys c → GoesOn checked a (xs ++ ys) c
goes_on_then Lawful a b c xs ys f g = λ read was. subst (λ (t : List ℕ). HasWalked t c) (append_assoc read xs ys) (g (read ++ xs) (f read was))
goes_on_then (Broken n rule) a b c xs ys f g = stopped_then (Broken n rule) a b xs ys f g
goes_on_then (NotAJournal n) a b c xs ys f g = stopped_then (NotAJournal n) a b xs ys f g

stays : (checked : Checked) (a : Stage) (xs ys : List ℕ) → ((read : List ℕ) → HasWalked read a → (more : List ℕ) → IsChecked (lines_of ((read ++ xs) ++ more)) checked) → (read : List ℕ) → HasWalked read a → (more : List ℕ) → IsChecked (lines_of ((read ++ (xs ++ ys)) ++ more)) checked
stays checked a xs ys f read was more =
    let e : (read ++ xs) ++ (ys ++ more) ≡ (read ++ (xs ++ ys)) ++ more = append_assoc read xs (ys ++ more) ∙ (ap (λ t. read ++ t) (sym (append_assoc xs ys more)) ∙ sym (append_assoc read (xs ++ ys) more)) in
    subst (λ (t : List ℕ). IsChecked (lines_of t) checked) e (f read was (ys ++ more))

-- what was decided stays, however the text goes on
decided_early : (checked : Checked) (a c : Stage) (xs ys : List ℕ) → checked ≢ Lawful → GoesOn checked a xs c → GoesOn checked a (xs ++ ys) c
decided_early Lawful a c xs ys decided f = absurd (decided refl)
decided_early (Broken n rule) a c xs ys decided f = stays (Broken n rule) a xs ys f
decided_early (NotAJournal n) a c xs ys decided f = stays (NotAJournal n) a xs ys f

nearer_then : (j k : ℕ) (a b c : Stage) → IsNearer j a b → IsNearer k b c → IsNearer (j + k) a c
nearer_then j k a b c p q =
    ⊎_elim (λ x. inl (⊎_elim (λ y. omega (arith, x, y)) (λ y. omega (arith, x, y.0)) q))
    (λ x. ⊎_elim (λ y. inl (omega (arith, x.0, y))) (λ y. inr (omega (arith, x.0, y.0), omega (arith, x.1, y.1))) q) p

-- some more of the piece was taken
taken_more : (a b c : Stage) (piece left part rest : List ℕ) → left ≡ part ++ rest → HasTaken a piece left b → GoesOn Lawful b part c → IsNearer (length part) b c → HasTaken a piece rest c
taken_more a b c piece left part rest e h g n = record {
  front = h.front ++ part;
  split = h.split ∙ (ap (λ t. h.front ++ t) e ∙ sym (append_assoc h.front part rest));
  goes_on = goes_on_then Lawful a b c h.front part h.goes_on g;
  nearer = subst (λ (k : ℕ). IsNearer k a c) (sym (length-append h.front part)) (nearer_then (length h.front) (length part) a b c h.nearer n);
}

-- a line of the piece was taken, and is lawful
pub taken_line : (checked : Checked) (a b c : Stage) (piece left part rest : List ℕ) → checked ≡ Lawful → left ≡ (part ++ 10 ∷ []) ++ rest → HasTaken a piece left b → GoesOn checked b (part ++ 10 ∷ []) c → (checked ≡ Lawful → IsNearer (length part + 1) b c) → HasTaken a piece rest c
taken_line checked a b c piece left part rest lawful e h g n =
    taken_more a b c piece left (part ++ 10 ∷ []) rest e h
    (subst (λ (s : Checked). GoesOn s b (part ++ 10 ∷ []) c) lawful g)
    (subst (λ (k : ℕ). IsNearer k b c) (sym (length-append part (10 ∷ []))) (n lawful))

-- some more of the piece was taken, and decides
pub taken_decided : (checked : Checked) (a b c : Stage) (piece left part rest : List ℕ) → checked ≢ Lawful → left ≡ part ++ rest → HasTaken a piece left b → GoesOn checked b part c → GoesOn checked a piece c
taken_decided checked a b c piece left part rest decided e h g =
    subst (λ (xs : List ℕ). GoesOn checked a xs c) (append_assoc h.front part rest ∙ (ap (λ t. h.front ++ t) (sym e) ∙ sym h.split))
    (decided_early checked a c (h.front ++ part) rest decided (goes_on_then checked a b c h.front part h.goes_on g))

-- the rest of the piece was taken
pub taken_last : (checked : Checked) (a b c : Stage) (piece left part : List ℕ) → left ≡ part ++ [] → HasTaken a piece left b → GoesOn checked b part c → GoesOn checked a piece c
taken_last checked a b c piece left part e h g =
    subst (λ (xs : List ℕ). GoesOn checked a xs c) (ap (λ t. h.front ++ t) (sym (e ∙ append-nil part)) ∙ sym h.split) (goes_on_then checked a b c h.front part h.goes_on g)

pub nearer_last : (a b c : Stage) (piece left part : List ℕ) → left ≡ part ++ [] → HasTaken a piece left b → IsNearer (length part) b c → IsNearer (length piece) a c
nearer_last a b c piece left part e h n =
    let whole : piece ≡ h.front ++ part = h.split ∙ ap (λ t. h.front ++ t) (e ∙ append-nil part) in
    subst (λ (k : ℕ). IsNearer k a c) (sym (ap length whole ∙ length-append h.front part)) (nearer_then (length h.front) (length part) a b c h.nearer n)

-- the walk may go on
pub still_ready : (a b : Stage) (piece left : List ℕ) → IsReady a → HasTaken a piece left b → IsReady b
still_ready a b piece left ready h = (ready.0 ++ h.front, h.goes_on ready.0 ready.1)
