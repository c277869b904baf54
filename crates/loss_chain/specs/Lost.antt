-- What contracts see of a deletion stage.
use Rattle.std.specs.Prelude.{ℕ, refl}
use Rattle.std.specs.Coded.{Coded, code_by, coded×, coded_ℕ}
use Rattle.std.specs.FinMap as map
use Rattle.std.specs.FinMap.{FinMap}
use Rattle.addr4.specs.Prefixes.{prefix_cmp, address_prefix_code}

-- the number of the session or loss, and the rows whose deletes weren't sent yet
pub record Lost (R : Type 0) : Type 0 where
  pub number : ℕ
  pub rows : FinMap prefix_cmp R

abbrev pub lost_code : {R : Type 0} → Coded R → Coded (Lost R)
lost_code {R} c =
    code_by (ℕ × FinMap prefix_cmp R) (coded× coded_ℕ (map.code address_prefix_code c))
    (λ d. (d.number, d.rows)) (λ p. record { number = p.0; rows = p.1 }) (λ _. refl)
