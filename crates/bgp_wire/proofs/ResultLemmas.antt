-- What is read, step after step.
use Rattle.std.proofs.Common.{◌≡◌, Bool, true, false, cond, eqb, ℕ, ◌<◌, List, [], ◌∷◌, length, Result, Ok, Err, refl, sym, ◌∙◌, arith}
use Rattle.std.proofs.lemmas.Bool.{eqb-true}
use Rattle.bgp_wire.specs.declared.notice.Notice.{Notice}
use Rattle.bgp_wire.specs.Faults.{◌>>=◌}

pub bind_ok : {A B : Type 0} (r : Result A Notice) (f : A → Result B Notice) (y : B) → (r >>= f) ≡ Ok y → (x : A) × (r ≡ Ok x) × (f x ≡ Ok y)
bind_ok (Ok x) f y e = (x, refl, e)
bind_ok (Err d) f y e = absurd cc

pub same_ok : {A : Type 0} (y x : A) → ◌≡◌ {A = Result A Notice} (Ok y) (Ok x) → y ≡ x
same_ok y x e = cc

pub not_both : {A : Type 0} (n : Notice) (x : A) → ◌≡◌ {A = Result A Notice} (Err n) (Ok x) → ⊥
not_both n x e = absurd (cc)

pub guard_ok : {A : Type 0} (b : Bool) (n : Notice) (r : Result A Notice) (y : A) → cond b (Err n) r ≡ Ok y → (b ≡ false) × (r ≡ Ok y)
guard_ok true n r y e = absurd (cc)
guard_ok false n r y e = (refl, e)

pub not_empty : (bytes : List ℕ) (b : Bool) → b ≡ eqb (length bytes) 0 → b ≡ false → 0 < length bytes
not_empty [] b e t = absurd (cc)
not_empty (x ∷ bytes) b e t = omega arith

pub is_empty_from : (bytes : List ℕ) (b : Bool) → b ≡ eqb (length bytes) 0 → b ≡ true → length bytes ≡ 0
is_empty_from bytes b e t = eqb-true _ _ (sym e ∙ t)
