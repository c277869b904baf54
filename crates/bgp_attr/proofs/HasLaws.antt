-- Whether an AS is in a path.
use Rattle.std.proofs.Common.{◌≡◌, ℕ, zero, suc, Bool, true, false, List, ◌∷◌, sym, subst, arith}
use Rattle.std.specs.Prelude.{IsTrue, ◌↔◌, Contains}
use Rattle.std.specs.List.{Any}
use Rattle.bgp_attr.specs.declared.path.Segment.{Segment}
use Rattle.bgp_attr.specs.Paths.{HasAs}

later : (P : Segment → Type 0) (x : Segment) (xs : List Segment) → Any P xs → Any P (x ∷ xs)
later P x xs (i, y, less, at, is) = (suc i, y, omega (arith, less), at, is)

not_first : (P : Segment → Type 0) (x : Segment) (xs : List Segment) → (P x → ⊥) → Any P (x ∷ xs) → Any P xs
not_first P x xs isnt (zero, y, less, at, is) = absurd (isnt (subst P (sym at) is))
not_first P x xs isnt (suc i, y, less, at, is) = (i, y, omega (arith, less), at, is)

pub has_rest : (path from : List Segment) (s : Segment) (rest : List Segment) (asn : ℕ) → from ≡ s ∷ rest → (b : Bool) → (IsTrue b ↔ Contains s.numbers asn) → b ≡ false → (HasAs path asn ↔ HasAs from asn) → HasAs path asn ↔ HasAs rest asn
has_rest path from s rest asn e b has is iff =
    let P : Segment → Type 0 = λ x. Contains x.numbers asn in
    let isnt : P s → ⊥ = λ h. let t : b ≡ true = has.1 h in cc in (
      λ h. not_first P s rest isnt (subst (Any P) e (iff.0 h)),
      λ h. iff.1 (subst (Any P) (sym e) (later P s rest h)),
    )
