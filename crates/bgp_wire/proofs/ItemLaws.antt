-- Items one after the other: what is read is in the grammar, and what is in the grammar is read.
use Rattle.std.proofs.Common.{◌≡◌, ℕ, zero, suc, ◌≤◌, ◌<◌, List, [], ◌∷◌, ◌++◌, length, Result, Ok, Err, refl, sym, ap, subst, ◌∙◌, append_assoc, arith}
use Rattle.std.proofs.lemmas.List.{append-nil, length-append}
use Rattle.bgp_wire.specs.declared.notice.Notice.{Notice}
use Rattle.bgp_wire.specs.declared.notice.Refusal.{Refusal}
use Rattle.bgp_wire.specs.declared.notice.Refusal.TheVariants as refusals
use Rattle.bgp_wire.specs.Faults.{Fails, ◌>>=◌}
use Rattle.bgp_wire.specs.Items.{AreItems, items_within, items_at}
use Rattle.bgp_wire.proofs.ResultLemmas.{bind_ok, same_ok}

-- an item takes octets
abbrev pub Shortens : {A : Type 0} → (List ℕ → Result (A × List ℕ) Notice) → Type 0
Shortens {A = A} f = (bytes : List ℕ) (x : A × List ℕ) → f bytes ≡ Ok x → length x.1 < length bytes

by_first : {A : Type 0} (f : List ℕ → Result (A × List ℕ) Notice) (n m : ℕ) (r : Result (A × List ℕ) Notice) → ((first : A × List ℕ) → r ≡ Ok first → items_within f n first.1 ≡ items_within f m first.1)
    → (r >>= λ first. items_within f n first.1 >>= λ others. Ok (first.0 ∷ others)) ≡ (r >>= λ first. items_within f m first.1 >>= λ others. Ok (first.0 ∷ others))
by_first f n m (Err e) same = refl
by_first f n m (Ok first) same = ap (λ r. r >>= λ others. Ok (first.0 ∷ others)) (same first refl)

-- more turns than octets change nothing
pub items_enough : {A : Type 0} (f : List ℕ → Result (A × List ℕ) Notice) (n m : ℕ) (bytes : List ℕ) → Shortens f → length bytes ≤ n → length bytes ≤ m → items_within f n bytes ≡ items_within f m bytes
unfolding items_within
items_enough f zero zero [] shorter a b = refl
items_enough f zero (suc m) [] shorter a b = refl
items_enough f (suc n) zero [] shorter a b = refl
items_enough f (suc n) (suc m) [] shorter a b = refl
items_enough f zero m (x ∷ bytes) shorter a b = absurd (omega arith)
items_enough f (suc n) zero (x ∷ bytes) shorter a b = absurd (omega arith)
items_enough f (suc n) (suc m) (x ∷ bytes) shorter a b =
    by_first f n m (f (x ∷ bytes)) (λ first h.
    let less = shorter (x ∷ bytes) first h in
    items_enough f n m first.1 shorter (omega arith) (omega arith))

pub items_step : {A : Type 0} (f : List ℕ → Result (A × List ℕ) Notice) (bytes : List ℕ) (x : A × List ℕ) → Shortens f → 0 < length bytes → f bytes ≡ Ok x → items_at f bytes ≡ (items_at f x.1 >>= λ others. Ok (x.0 ∷ others))
unfolding items_within
items_step f [] x shorter some e = absurd (omega arith)
items_step f (b ∷ bytes) x shorter some e =
    let less = shorter (b ∷ bytes) x e in
    ap (λ r. r >>= λ first. items_within f (length bytes) first.1 >>= λ others. Ok (first.0 ∷ others)) e
    ∙ ap (λ r. r >>= λ others. Ok (x.0 ∷ others)) (items_enough f (length bytes) (length x.1) x.1 shorter (omega arith) (omega arith))

pub items_fail : {A : Type 0} (f : List ℕ → Result (A × List ℕ) Notice) (bytes : List ℕ) (n : Notice) → 0 < length bytes → f bytes ≡ Err n → items_at f bytes ≡ Err n
unfolding items_within
items_fail f [] n some e = absurd (omega arith)
items_fail f (b ∷ bytes) n some e = ap (λ r. r >>= λ first. items_within f (length bytes) first.1 >>= λ others. Ok (first.0 ∷ others)) e

pub items_end : {A : Type 0} (f : List ℕ → Result (A × List ℕ) Notice) (bytes : List ℕ) → length bytes ≡ 0 → items_at f bytes ≡ Ok []
unfolding items_within
items_end f [] e = refl
items_end f (b ∷ bytes) e = absurd (omega arith)

-- ---- a loop that reads them

-- what was read before, and what is still read
abbrev pub with_front : {A : Type 0} → List A → Result (List A) Notice → Result (List A) Notice
with_front front read = read >>= λ x. Ok (front ++ x)

regroup : {A : Type 0} (front : List A) (x : A) (read : Result (List A) Notice) → with_front front (read >>= λ xs. Ok (x ∷ xs)) ≡ with_front (front ++ x ∷ []) read
regroup front x (Ok xs) = ap (λ ys. Ok ys) (simp append_assoc)
regroup front x (Err f) = refl

pub goes_on : {A : Type 0} (front : List A) (x : A) (here after total : Result (List A) Notice) → here ≡ (after >>= λ xs. Ok (x ∷ xs)) → with_front front here ≡ total → with_front (front ++ x ∷ []) after ≡ total
goes_on front x here after total step so_far = sym (regroup front x after) ∙ ap (with_front front) (sym step) ∙ so_far

pub ends : {A : Type 0} (front : List A) (here total : Result (List A) Notice) → here ≡ Ok [] → with_front front here ≡ total → total ≡ Ok front
ends front here total e so_far = sym so_far ∙ ap (with_front front) e ∙ ap (λ ys. Ok ys) (append-nil front)

pub breaks : {A : Type 0} (e : Refusal) (front : List A) (here total : Result (List A) Notice) → Fails e here → with_front front here ≡ total → Fails e total
breaks refusals.Memory front here total fails so_far = tt
breaks (refusals.Fault n) front here total fails so_far = sym so_far ∙ ap (with_front front) fails

pub items_break : {A : Type 0} (f : List ℕ → Result (A × List ℕ) Notice) (e : Refusal) (bytes : List ℕ) → 0 < length bytes → Fails e (f bytes) → Fails e (items_at f bytes)
items_break f refusals.Memory bytes some fails = tt
items_break f (refusals.Fault n) bytes some fails = items_fail f bytes n some fails

-- ---- the laws

-- what is read as an item is one
abbrev pub Takes : {A : Type 0} → (List ℕ → Result (A × List ℕ) Notice) → (List ℕ → A → Type 0) → Type 0
Takes {A = A} f Is = (bytes : List ℕ) (x : A × List ℕ) → f bytes ≡ Ok x → (octets : List ℕ) × (bytes ≡ octets ++ x.1) × Is octets x.0

-- an item is read, whatever follows it
abbrev pub ReadsBack : {A : Type 0} → (List ℕ → Result (A × List ℕ) Notice) → (List ℕ → A → Type 0) → Type 0
ReadsBack {A = A} f Is = (octets rest : List ℕ) (x : A) → Is octets x → (0 < length octets) × (f (octets ++ rest) ≡ Ok (x, rest))

within_take : {A : Type 0} (f : List ℕ → Result (A × List ℕ) Notice) (Is : List ℕ → A → Type 0) (n : ℕ) (bytes : List ℕ) (xs : List A) → Shortens f → Takes f Is → length bytes ≤ n → items_within f n bytes ≡ Ok xs → AreItems Is bytes xs
unfolding items_within
within_take f Is n [] xs shorter takes le e = subst (AreItems Is []) (same_ok [] xs e) refl
within_take f Is zero (b ∷ bytes) xs shorter takes le e = absurd (omega arith)
within_take f Is (suc n) (b ∷ bytes) xs shorter takes le e =
    let x = bind_ok (f (b ∷ bytes)) (λ first. items_within f n first.1 >>= λ others. Ok (first.0 ∷ others)) xs e in
    let y = bind_ok (items_within f n x.0.1) (λ others. Ok (x.0.0 ∷ others)) xs x.2 in
    let t = takes (b ∷ bytes) x.0 x.1 in
    let less = shorter (b ∷ bytes) x.0 x.1 in
    let here : AreItems Is (b ∷ bytes) (x.0.0 ∷ y.0) = (t.0, x.0.1, t.1, t.2, within_take f Is n x.0.1 y.0 shorter takes (omega arith) y.1) in
    subst (AreItems Is (b ∷ bytes)) (same_ok (x.0.0 ∷ y.0) xs y.2) here

pub items_take : {A : Type 0} (f : List ℕ → Result (A × List ℕ) Notice) (Is : List ℕ → A → Type 0) (bytes : List ℕ) (xs : List A) → Shortens f → Takes f Is → items_at f bytes ≡ Ok xs → AreItems Is bytes xs
items_take f Is bytes xs shorter takes e = within_take f Is (length bytes) bytes xs shorter takes (omega arith) e

pub items_again : {A : Type 0} (f : List ℕ → Result (A × List ℕ) Notice) (Is : List ℕ → A → Type 0) (bytes : List ℕ) (xs : List A) → Shortens f → ReadsBack f Is → AreItems Is bytes xs → items_at f bytes ≡ Ok xs
items_again f Is bytes [] shorter back is = items_end f bytes (ap length is)
items_again f Is bytes (x ∷ xs) shorter back is =
    let b = back is.0 is.1 x is.3 in
    let some : 0 < length (is.0 ++ is.1) = omega (arith, b.0, length-append is.0 is.1) in
    ap (items_at f) is.2 ∙ items_step f (is.0 ++ is.1) (x, is.1) shorter some b.1
    ∙ ap (λ r. r >>= λ others. Ok (x ∷ others)) (items_again f Is is.1 xs shorter back is.4)
