-- Interests by subnet and client.
use Rattle.std.specs.Prelude.{◌≡◌, ℕ, ◌<◌, ◌≤◌, ◌⊎◌, ◌++◌, List, [], ◌∷◌, Option, Some, refl}
use Rattle.std.specs.List.{Contains}
use Rattle.std.specs.List.Sorted.{IsStrictlySortedBy}
use Rattle.std.specs.Coded.{Coded, code_by, coded×, coded_ℕ}
use Rattle.std.specs.declared.cmp.Ordering.{Ordering}
use Rattle.std.specs.Ordering.{nat_cmp, ordering_then}
use Rattle.std.specs.BTreeMap.Range.{IsLeBy}
use Rattle.std.specs.FinMap as map
use Rattle.addr4.specs.Prefixes.{AddressPrefix, prefix_cmp, address_prefix_code, IsMasked}
use Rattle.register_interest.specs.Covers.{IsHit}
use Rattle.register_interest.specs.declared.interests.Interest as declared

-- an interest, whatever the family of its subnet
abbrev pub Interest : Type 0
Interest = declared.Interest AddressPrefix

-- by subnet, then client
abbrev pub interest_cmp : Interest → Interest → Ordering
interest_cmp p q = ordering_then (prefix_cmp p.subnet q.subnet) (nat_cmp p.client q.client)

abbrev pub interest_code : Coded Interest
interest_code = code_by (AddressPrefix × ℕ) (coded× address_prefix_code coded_ℕ) (λ p. (p.subnet, p.client)) (λ p. record { subnet = p.0; client = p.1 }) (λ _. refl)

-- interests with the match of each
abbrev pub Interests : Type 0
Interests = map.FinMap interest_cmp (Option AddressPrefix)

-- the subnet is one of the family, and the client an octet
abbrev pub IsProper : ℕ → Interest → Type 0
IsProper width k = IsMasked width k.subnet × (k.client < 256)

-- no subnet has more bits than this
abbrev pub AreShortIn : ℕ → Interests → Type 0
AreShortIn most interests = (k : Interest) (m : Option AddressPrefix) → map.get interests k ≡ Some m → k.subnet.length ≤ most

abbrev pub AreProper : ℕ → Interests → Type 0
AreProper width interests = (k : Interest) (m : Option AddressPrefix) → map.get interests k ≡ Some m → IsProper width k

-- the list has the interest more exactly where a change at p reaches it
abbrev pub Pushes : ℕ → AddressPrefix → Interest × Option AddressPrefix → List Interest → List Interest → Type 0
Pushes width p e before now = (IsHit width p e.0.subnet e.1 × (now ≡ before ++ e.0 ∷ [])) ⊎ ((IsHit width p e.0.subnet e.1 → ⊥) × (now ≡ before))

abbrev pub IsBetween : Interest → Interest → Interest → Type 0
IsBetween from to k = IsLeBy interest_cmp from k × IsLeBy interest_cmp k to

-- appended were, in order, those of the chosen that a change at p reaches
pub record Appends (width : ℕ) (p : AddressPrefix) (interests : Interest → Option (Option AddressPrefix)) (Chosen : Interest → Type 0) (before now : List Interest) : Type 0 where
  pub hits : List Interest
  pub is : now ≡ before ++ hits
  pub sorted : IsStrictlySortedBy interest_cmp hits
  pub only : (k : Interest) → Contains hits k → (m : Option AddressPrefix) × (interests k ≡ Some m) × IsHit width p k.subnet m × Chosen k
  pub all : (k : Interest) (m : Option AddressPrefix) → interests k ≡ Some m → IsHit width p k.subnet m → Chosen k → Contains hits k

-- the listed interests are those that a change at p reaches, in order and so each once
pub record AreReached (width : ℕ) (p : AddressPrefix) (interests : Interest → Option (Option AddressPrefix)) (out : List Interest) : Type 0 where
  pub only : (k : Interest) → Contains out k → (m : Option AddressPrefix) × (interests k ≡ Some m) × IsHit width p k.subnet m
  pub all : (k : Interest) (m : Option AddressPrefix) → interests k ≡ Some m → IsHit width p k.subnet m → Contains out k
  pub sorted : IsStrictlySortedBy interest_cmp out

abbrev pub without : Interests → List Interest → Interests
without m [] = m
without m (k ∷ ks) = without (map.remove m k) ks
