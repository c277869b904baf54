-- A register: the interior rows, and the match of each interest.
use Rattle.std.specs.Prelude.{◌≡◌, ℕ, Option, Some, None, refl}
use Rattle.std.specs.Coded.{Coded, code_by, coded×, coded_option}
use Rattle.std.specs.FinMap as map
use Rattle.addr4.specs.Prefixes.{AddressPrefix, prefix_cmp, address_prefix_code, Holds}
use Rattle.register_interest.specs.Width.{width}
use Rattle.register_interest.specs.Covers.{longest, Stands}
use Rattle.register_interest.specs.Interests.{Interest}
use Rattle.register_interest.specs.Interests.{Interests, interest_code, IsProper}

pub record Registry (R : Type 0) : Type 0 where
  pub rows : map.FinMap prefix_cmp R
  pub interests : Interests

abbrev pub registry_code : {R : Type 0} → Coded R → Coded (Registry R)
registry_code {R} c =
    code_by (map.FinMap prefix_cmp R × Interests)
    (coded× (map.code address_prefix_code c) (map.code interest_code (coded_option address_prefix_code)))
    (λ r. (r.rows, r.interests)) (λ p. record { rows = p.0; interests = p.1 }) (λ _. refl)

module _ {R : Type 0} where
  -- each address of a kept interest's subnet has the recorded match
  abbrev pub AllStand : Registry R → Type 0
  AllStand r = (k : Interest) (m : Option AddressPrefix) → map.get r.interests k ≡ Some m → IsProper width k × Stands width (map.get r.rows) k.subnet m

  -- the map with this row at the prefix, or none
  abbrev pub put_row : map.FinMap prefix_cmp R → AddressPrefix → Option R → map.FinMap prefix_cmp R
  put_row rows p None = map.remove rows p
  put_row rows p (Some v) = map.insert rows p v

  -- an interest that is kept was kept before, and each address of its subnet has the longest row that it had
  abbrev pub KeepsAnswers : Registry R → Registry R → Type 0
  KeepsAnswers old new = (k : Interest) (m : Option AddressPrefix) → map.get new.interests k ≡ Some m
      → (map.get old.interests k ≡ Some m) × ((a : ℕ) → Holds width k.subnet a → longest width (map.get new.rows) a ≡ longest width (map.get old.rows) a)
