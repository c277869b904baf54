-- Attributes one after the other.
use Rattle.std.proofs.Common.{◌≡◌, ℕ, zero, suc, ◌*◌, ◌/◌, ◌%◌, ◌+◌, ◌≤◌, ◌<◌, Bool, true, false, cond, eqb, ltb, ◌||◌, List, [], ◌∷◌, ◌++◌, length, drop, Option, Some, None, Result, Ok, Err, refl, sym, ap, ◌∙◌, append_assoc, arith}
use Rattle.std.specs.Prelude.{option_and_then}
use Rattle.std.proofs.lemmas.List.{append-nil, length-drop}
use Rattle.std.proofs.lemmas.Bool.{ltb-false}
use Rattle.bgp_wire.specs.declared.notice.Refusal.{Refusal}
use Rattle.bgp_wire.specs.declared.notice.Refusal.TheVariants as refusals
use Rattle.bgp_attr.specs.declared.speaker.Profile.{Profile}
use Rattle.bgp_wire.specs.declared.attributes.Verdict.{Verdict}
use Rattle.bgp_wire.specs.declared.attributes.Verdict.TheVariants.{Keep, Discard, Withdraw}
use Rattle.bgp_wire.specs.declared.notice.Notice.{Notice}
use Rattle.bgp_wire.specs.Faults.{notice, Fails, Refuses, ◌>>=◌}
use Rattle.bgp_wire.specs.Found.{added}
use Rattle.bgp_wire.specs.Attributes.{Attribute, Kept, size_at, cut, attribute_at, judgement, with_verdict, attributes_step, attributes_within, attributes_at}

-- what was kept before, and what still is
abbrev pub with_kept : Kept → Result Kept Notice → Result Kept Notice
with_kept front read = read >>= λ k. Ok (front.0 ++ k.0, front.1 || k.1)

taken : {A B : Type 0} (b : Bool) (a : A) (r : B) (x : A × B) → cond b None (Some (a, r)) ≡ Some x → (b ≡ false) × (r ≡ x.1)
taken true a r x e = absurd (cc)
taken false a r x e = (refl, cc)

header_long : (bytes : List ℕ) (h : ℕ × ℕ) → size_at bytes ≡ Some h → 0 < h.1
unfolding size_at
header_long [] h e = absurd (cc)
header_long (flags ∷ []) h e = absurd (cc)
header_long (flags ∷ kind ∷ []) h e = absurd (cc)
header_long (flags ∷ kind ∷ high ∷ []) h e = by_bit (eqb (flags / 16 % 2) 1) e
  where
    by_bit : (b : Bool) → cond b None (Some (high, 3)) ≡ Some h → 0 < h.1
    by_bit true e = absurd (cc)
    by_bit false e = let is : (high, 3) ≡ h = cc in omega (arith, ap (λ (x : ℕ × ℕ). x.1) is)
header_long (flags ∷ kind ∷ high ∷ low ∷ rest) h e = by_bit (eqb (flags / 16 % 2) 1) e
  where
    by_bit : (b : Bool) → cond b (Some (high * 256 + low, 4)) (Some (high, 3)) ≡ Some h → 0 < h.1
    by_bit true e = let is : (high * 256 + low, 4) ≡ h = cc in omega (arith, ap (λ (x : ℕ × ℕ). x.1) is)
    by_bit false e = let is : (high, 3) ≡ h = cc in omega (arith, ap (λ (x : ℕ × ℕ). x.1) is)

by_header : (bytes : List ℕ) (o : Option (ℕ × ℕ)) (x : Attribute × List ℕ) → ((h : ℕ × ℕ) → o ≡ Some h → 0 < h.1) → option_and_then (cut bytes) o ≡ Some x → length x.1 < length bytes
by_header bytes None x long e = absurd (cc)
by_header bytes (Some h) x long e =
    let t = taken (ltb (length bytes) (h.1 + h.0)) _ (drop (h.1 + h.0) bytes) x e in
    omega (arith, long h refl, ltb-false _ _ t.0, ap length t.1, length-drop (h.1 + h.0) bytes)

pub attribute_shorter : (bytes : List ℕ) (x : Attribute × List ℕ) → attribute_at bytes ≡ Some x → length x.1 < length bytes
attribute_shorter bytes x e = by_header bytes (size_at bytes) x (header_long bytes) e

by_attribute : (p : Profile) (external : Bool) (seen : List ℕ) (o : Option (Attribute × List ℕ)) (f g : List ℕ → List ℕ → Result Kept Notice) → ((x : Attribute × List ℕ) → o ≡ Some x → (kinds : List ℕ) → f kinds x.1 ≡ g kinds x.1) → attributes_step p external seen o f ≡ attributes_step p external seen o g
by_attribute p external seen None f g same = refl
by_attribute p external seen (Some x) f g same = ap (λ later. judgement p external seen x.0 >>= λ verdict. later >>= λ kept. Ok (with_verdict verdict x.0 kept)) (same x refl (seen ++ x.0.kind ∷ []))

pub attributes_enough : (n m : ℕ) (p : Profile) (external : Bool) (seen bytes : List ℕ) → length bytes ≤ n → length bytes ≤ m → attributes_within n p external seen bytes ≡ attributes_within m p external seen bytes
unfolding attributes_within
attributes_enough zero zero p external seen [] a b = refl
attributes_enough zero (suc m) p external seen [] a b = refl
attributes_enough (suc n) zero p external seen [] a b = refl
attributes_enough (suc n) (suc m) p external seen [] a b = refl
attributes_enough zero m p external seen (x ∷ bytes) a b = absurd (omega arith)
attributes_enough (suc n) zero p external seen (x ∷ bytes) a b = absurd (omega arith)
attributes_enough (suc n) (suc m) p external seen (x ∷ bytes) a b =
    by_attribute p external seen (attribute_at (x ∷ bytes)) (λ kinds rest. attributes_within n p external kinds rest) (λ kinds rest. attributes_within m p external kinds rest)
    (λ y e kinds. let less = attribute_shorter (x ∷ bytes) y e in attributes_enough n m p external kinds y.1 (omega arith) (omega arith))

-- the first attribute, and the others
pub attributes_first : (p : Profile) (external : Bool) (seen bytes : List ℕ) → 0 < length bytes → attributes_at p external seen bytes ≡ attributes_step p external seen (attribute_at bytes) (λ kinds rest. attributes_at p external kinds rest)
unfolding attributes_within
attributes_first p external seen [] some = absurd (omega arith)
attributes_first p external seen (b ∷ bytes) some =
    by_attribute p external seen (attribute_at (b ∷ bytes)) (λ kinds rest. attributes_within (length bytes) p external kinds rest) (λ kinds rest. attributes_at p external kinds rest)
    (λ y e kinds. let less = attribute_shorter (b ∷ bytes) y e in attributes_enough (length bytes) (length y.1) p external kinds y.1 (omega arith) (omega arith))

pub attributes_end : (p : Profile) (external : Bool) (seen bytes : List ℕ) → length bytes ≡ 0 → attributes_at p external seen bytes ≡ Ok ([], false)
unfolding attributes_within
attributes_end p external seen [] e = refl
attributes_end p external seen (b ∷ bytes) e = absurd (omega arith)

-- ---- the loop

or_false : (b : Bool) → (b || false) ≡ b
or_false true = refl
or_false false = refl

or_true : (b : Bool) → (b || true) ≡ true
or_true true = refl
or_true false = refl

settled : (v : Verdict) (a : Attribute) (front : Kept) (later : Result Kept Notice) → with_kept front (later >>= λ k. Ok (with_verdict v a k)) ≡ with_kept (added v a front) later
settled v a front (Err n) = refl
settled Keep a front (Ok k) = λ i. Ok (sym (append_assoc front.0 (a ∷ []) k.0) i, front.1 || k.1)
settled Discard a front (Ok k) = refl
settled Withdraw a front (Ok k) = λ i. Ok (front.0 ++ k.0, or_true front.1 i)

pub goes_on : (p : Profile) (external : Bool) (seen bytes : List ℕ) (front : Kept) (x : Attribute × List ℕ) (v : Verdict) (total : Result Kept Notice) → 0 < length bytes → Some x ≡ attribute_at bytes → judgement p external seen x.0 ≡ Ok v
    → with_kept front (attributes_at p external seen bytes) ≡ total → with_kept (added v x.0 front) (attributes_at p external (seen ++ x.0.kind ∷ []) x.1) ≡ total
goes_on p external seen bytes front x v total some at judged so_far =
    let first = attributes_first p external seen bytes some ∙ ap (λ o. attributes_step p external seen o (λ kinds rest. attributes_at p external kinds rest)) (sym at)
    ∙ ap (λ j. j >>= λ verdict. attributes_at p external (seen ++ x.0.kind ∷ []) x.1 >>= λ kept. Ok (with_verdict verdict x.0 kept)) judged in
    sym (settled v x.0 front (attributes_at p external (seen ++ x.0.kind ∷ []) x.1)) ∙ ap (with_kept front) (sym first) ∙ so_far

pub refuses : (e : Refusal) (p : Profile) (external : Bool) (seen bytes : List ℕ) (front : Kept) (x : Attribute × List ℕ) (total : Result Kept Notice) → 0 < length bytes → Some x ≡ attribute_at bytes → Fails e (judgement p external seen x.0)
    → with_kept front (attributes_at p external seen bytes) ≡ total → Fails e total
refuses refusals.Memory p external seen bytes front x total some at fails so_far = tt
refuses (refusals.Fault f) p external seen bytes front x total some at fails so_far =
    let first = attributes_first p external seen bytes some ∙ ap (λ o. attributes_step p external seen o (λ kinds rest. attributes_at p external kinds rest)) (sym at)
    ∙ ap (λ j. j >>= λ verdict. attributes_at p external (seen ++ x.0.kind ∷ []) x.1 >>= λ kept. Ok (with_verdict verdict x.0 kept)) fails in
    sym so_far ∙ ap (with_kept front) first

pub runs_out : (p : Profile) (external : Bool) (seen bytes : List ℕ) (front : Kept) (total : Result Kept Notice) → 0 < length bytes → None ≡ attribute_at bytes
    → with_kept front (attributes_at p external seen bytes) ≡ total → with_kept front (cond p.revised (Ok ([], true)) (Err (notice 3 1 []))) ≡ total
runs_out p external seen bytes front total some at so_far =
    let first = attributes_first p external seen bytes some ∙ ap (λ o. attributes_step p external seen o (λ kinds rest. attributes_at p external kinds rest)) (sym at) in
    ap (with_kept front) (sym first) ∙ so_far

pub withdrawn_out : (b : Bool) (front : Kept) (total : Result Kept Notice) → b ≡ true → with_kept front (cond b (Ok ([], true)) (Err (notice 3 1 []))) ≡ total → total ≡ Ok (front.0, true)
withdrawn_out true front total e so_far = sym so_far ∙ (λ i. Ok (append-nil front.0 i, or_true front.1 i))
withdrawn_out false front total e so_far = absurd (cc)

pub refused_out : (b : Bool) (front : Kept) (total : Result Kept Notice) (e : Refusal) → b ≡ false → Refuses e (notice 3 1 []) → with_kept front (cond b (Ok ([], true)) (Err (notice 3 1 []))) ≡ total → Fails e total
refused_out true front total e f refuses so_far = absurd (cc)
refused_out false front total refusals.Memory f refuses so_far = tt
refused_out false front total (refusals.Fault x) f refuses so_far = sym so_far ∙ ap (λ n. Err n) refuses

pub ends : (p : Profile) (external : Bool) (seen bytes : List ℕ) (front : Kept) (total : Result Kept Notice) → length bytes ≡ 0 → with_kept front (attributes_at p external seen bytes) ≡ total → total ≡ Ok front
ends p external seen bytes front total e so_far = sym so_far ∙ ap (with_kept front) (attributes_end p external seen bytes e) ∙ (λ i. Ok (append-nil front.0 i, or_false front.1 i))
