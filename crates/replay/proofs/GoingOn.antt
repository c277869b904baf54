-- One piece after another.
use Rattle.std.proofs.Common.{◌≡◌, ℕ, ◌+◌, Bool, true, false, List, ◌++◌, length, sym, ap, ◌∙◌, inl, inr, ⊎_elim, arith, subst, append_assoc, length-append}
use Rattle.router.specs.Networks.{Networks}
use Rattle.replay.specs.Output.{IsRefusedOutput}
use Rattle.replay.specs.Stream.{HasStepped, IsRefusedAt, GoesOn, IsNearer, HasTaken}

pub goes_on_then : (quiet accepted : Bool) (a b c : ℕ × Networks × ℕ × List ℕ) (xs ys before middle now : List ℕ) → GoesOn quiet true a xs before middle b → GoesOn quiet accepted b ys middle now c → GoesOn quiet accepted a (xs ++ ys) before now c
goes_on_then quiet true a b c xs ys before middle now f g = λ read taken was. subst (λ (r : List ℕ). HasStepped quiet r c.0 c.1 c.2 c.3 (taken ++ now)) (append_assoc read xs ys) (g (read ++ xs) taken (f read taken was))
goes_on_then quiet false a b c xs ys before middle now f g = λ read taken was. subst (λ (r : List ℕ). IsRefusedAt quiet r (taken ++ now)) (append_assoc read xs ys) (g (read ++ xs) taken (f read taken was))

-- a text that is refused stays so, however it goes on
pub refused_early : (quiet : Bool) (a c : ℕ × Networks × ℕ × List ℕ) (xs ys : List ℕ) (before now : List ℕ) → GoesOn quiet false a xs before now c → GoesOn quiet false a (xs ++ ys) before now c
refused_early quiet a c xs ys before now f = λ read taken was more.
    let e : (read ++ xs) ++ (ys ++ more) ≡ (read ++ (xs ++ ys)) ++ more = append_assoc read xs (ys ++ more) ∙ (ap (λ t. read ++ t) (sym (append_assoc xs ys more)) ∙ sym (append_assoc read (xs ++ ys) more)) in
    subst (λ (t : List ℕ). IsRefusedOutput quiet t (taken ++ now)) e (f read taken was (ys ++ more))

nearer_then : (j k : ℕ) (a b c : ℕ × Networks × ℕ × List ℕ) → IsNearer j a b → IsNearer k b c → IsNearer (j + k) a c
nearer_then j k a b c p q =
    ⊎_elim (λ x. inl (⊎_elim (λ y. omega (arith, x, y)) (λ y. omega (arith, x, y.0)) q))
    (λ x. ⊎_elim (λ y. inl (omega (arith, x.0, y))) (λ y. inr (omega (arith, x.0, y.0), omega (arith, x.1, y.1))) q) p

-- some more of the piece was taken
pub taken_more : (quiet : Bool) (a b c : ℕ × Networks × ℕ × List ℕ) (piece left part rest before middle now : List ℕ) → left ≡ part ++ rest → HasTaken quiet a piece left before middle b → GoesOn quiet true b part middle now c → IsNearer (length part) b c → HasTaken quiet a piece rest before now c
taken_more quiet a b c piece left part rest before middle now e h g n = record {
  front = h.front ++ part;
  split = h.split ∙ (ap (λ t. h.front ++ t) e ∙ sym (append_assoc h.front part rest));
  goes_on = goes_on_then quiet true a b c h.front part before middle now h.goes_on g;
  nearer = subst (λ (k : ℕ). IsNearer k a c) (sym (length-append h.front part)) (nearer_then (length h.front) (length part) a b c h.nearer n);
}

-- some more of the piece was taken, and is refused
pub taken_refused : (quiet : Bool) (a b c : ℕ × Networks × ℕ × List ℕ) (piece left part rest before middle now : List ℕ) → left ≡ part ++ rest → HasTaken quiet a piece left before middle b → GoesOn quiet false b part middle now c → GoesOn quiet false a piece before now c
taken_refused quiet a b c piece left part rest before middle now e h g =
    subst (λ (xs : List ℕ). GoesOn quiet false a xs before now c) (append_assoc h.front part rest ∙ (ap (λ t. h.front ++ t) (sym e) ∙ sym h.split))
    (refused_early quiet a c (h.front ++ part) rest before now (goes_on_then quiet false a b c h.front part before middle now h.goes_on g))

-- the same, by what the journal and the answer are known to be
pub as_known : (quiet other answer known : Bool) (a : ℕ × Networks × ℕ × List ℕ) (piece before now : List ℕ) (b : ℕ × Networks × ℕ × List ℕ) → quiet ≡ other → answer ≡ known → GoesOn quiet answer a piece before now b → GoesOn other known a piece before now b
as_known quiet other answer known a piece before now b e f g = subst (λ (x : Bool). GoesOn other x a piece before now b) f (subst (λ (q : Bool). GoesOn q answer a piece before now b) e g)
