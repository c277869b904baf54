-- What contracts see of a slot.
use Rattle.std.specs.Prelude.{ℕ, Option, refl}
use Rattle.std.specs.Coded.{Coded, code_by, coded×, coded_ℕ, coded_option}

-- the row, if it wasn't removed, and how many iterators stand there
pub record Slot (V : Type 0) : Type 0 where
  pub value : Option V
  pub readers : ℕ

abbrev pub slot_code : {V : Type 0} → Coded V → Coded (Slot V)
slot_code {V} c = code_by (Option V × ℕ) (coded× (coded_option c) coded_ℕ) (λ s. (s.value, s.readers)) (λ p. record { value = p.0; readers = p.1 }) (λ _. refl)
