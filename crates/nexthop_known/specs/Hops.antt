-- The known next hops, by address.
use Rattle.std.specs.Prelude.{◌≡◌, ◌≢◌, ◌⊎◌, ℕ, ◌≤◌, Bool, false, not, cond, is_some, Option, Some, None, refl}
use Rattle.std.specs.Option.{option_map}
use Rattle.std.specs.Coded.{Coded, code_by, coded×, coded_option}
use Rattle.std.specs.Ordering.{nat_cmp}
use Rattle.std.specs.FinMap as map
use Rattle.addr4.specs.Prefixes.{AddressPrefix, address_prefix_code, same_prefix}
use Rattle.nexthop_known.specs.declared.answer.Hop as declared

-- a known next hop, whatever the family
abbrev pub Hop : Type 0 → Type 0
Hop A = declared.Hop A AddressPrefix

abbrev pub hop_code : {A : Type 0} → Coded A → Coded (Hop A)
hop_code {A} c = code_by (A × (A × Option AddressPrefix)) (coded× c (coded× c (coded_option address_prefix_code))) (λ h. (h.in_force, (h.fresh, h.came))) (λ p. record { in_force = p.0; fresh = p.1.0; came = p.1.1 }) (λ _. refl)

-- next hops by address
abbrev pub Hops : Type 0 → Type 0
Hops A = map.FinMap nat_cmp (Hop A)

-- whether the subnet is this one
abbrev pub is_with : AddressPrefix → Option AddressPrefix → Bool
is_with s None = false
is_with s (Some t) = same_prefix t s

module _ {A : Type 0} where
  -- the subnet of a known one's answer
  abbrev pub came_at : Option (Hop A) → Option AddressPrefix
  came_at None = None
  came_at (Some h) = h.came

  -- whether it is known and stale
  abbrev pub is_stale_at : Option (Hop A) → Bool
  is_stale_at None = false
  is_stale_at (Some h) = not (is_some h.came)

  -- how many pass a test
  abbrev pub count_of : (Option (Hop A) → Bool) → Hops A → ℕ
  count_of test hops = map.len (map.retain_keys hops (λ a. test (map.get hops a)))

  -- how many are stale
  abbrev pub stale_count : Hops A → ℕ
  stale_count hops = count_of is_stale_at hops

  -- stale where its answer came with the subnet
  abbrev pub staled : AddressPrefix → Hop A → Hop A
  staled s h = record { in_force = h.in_force; fresh = h.fresh; came = cond (is_with s h.came) None h.came }

  -- its fresh answer in force
  abbrev pub settled : Hop A → Hop A
  settled h = record { in_force = h.fresh; fresh = h.fresh; came = h.came }

  -- the same next hops, each changed by f
  abbrev pub IsMapped : (Hop A → Hop A) → Hops A → Hops A → Type 0
  IsMapped f old new = (a : ℕ) → map.get new a ≡ option_map f (map.get old a)

  -- the same next hops, each as it was or changed by f
  abbrev pub IsPartlyMapped : (Hop A → Hop A) → Hops A → Hops A → Type 0
  IsPartlyMapped f old new = (a : ℕ) → (map.get new a ≡ map.get old a) ⊎ (map.get new a ≡ option_map f (map.get old a))

  -- a first answer, in force at once
  abbrev pub learnt : AddressPrefix → A → Hop A
  learnt s answer = record { in_force = answer; fresh = answer; came = Some s }

  -- the answer in force, or else this one
  abbrev pub in_force_or : A → Option (Hop A) → A
  in_force_or answer None = answer
  in_force_or answer (Some h) = h.in_force

  -- this answer is the fresh one
  abbrev pub renewed : AddressPrefix → A → Option (Hop A) → Hop A
  renewed s answer h = record { in_force = in_force_or answer h; fresh = answer; came = Some s }

  -- a known next hop has this answer as its fresh one
  abbrev pub IsRenewed : Hops A → Hops A → ℕ → AddressPrefix → A → Type 0
  IsRenewed old new a s answer = new ≡ map.insert old a (renewed s answer (map.get old a))

  -- the least of the stale next hops, or there is none
  abbrev pub IsLeastStale : (ℕ → Option (Hop A)) → Option ℕ → Type 0
  IsLeastStale hops None = (a : ℕ) (h : Hop A) → hops a ≡ Some h → h.came ≢ None
  IsLeastStale hops (Some least) = ((h : Hop A) × (hops least ≡ Some h) × (h.came ≡ None)) × ((a : ℕ) (h : Hop A) → hops a ≡ Some h → h.came ≡ None → least ≤ a)

  -- the fresh answer of a next hop, if it is known, is in force, and it isn't
  abbrev pub IsSettledAt : Option (Hop A) → Type 0
  IsSettledAt None = Unit {0}
  IsSettledAt (Some h) = h.fresh ≡ h.in_force

  abbrev pub IsDifferingAt : Option (Hop A) → Type 0
  IsDifferingAt None = ⊥
  IsDifferingAt (Some h) = h.fresh ≢ h.in_force

  -- every fresh answer is in force
  abbrev pub IsSettled : (ℕ → Option (Hop A)) → Type 0
  IsSettled hops = (a : ℕ) (h : Hop A) → hops a ≡ Some h → h.fresh ≡ h.in_force

  -- some fresh answer isn't the one in force
  abbrev pub IsDiffering : (ℕ → Option (Hop A)) → Type 0
  IsDiffering hops = (a : ℕ) × (h : Hop A) × (hops a ≡ Some h) × (h.fresh ≢ h.in_force)

  -- the answer of some next hop came with the subnet
  abbrev pub IsWithSome : (ℕ → Option (Hop A)) → AddressPrefix → Type 0
  IsWithSome hops s = (a : ℕ) × (h : Hop A) × (hops a ≡ Some h) × (h.came ≡ Some s)

  abbrev pub IsWithNone : (ℕ → Option (Hop A)) → AddressPrefix → Type 0
  IsWithNone hops s = (a : ℕ) (h : Hop A) → hops a ≡ Some h → h.came ≢ Some s

  -- the subnet with which an answer came, where no answer of these next hops came with it
  abbrev pub IsUnshared : (ℕ → Option (Hop A)) → Option AddressPrefix → Option AddressPrefix → Type 0
  IsUnshared hops came None = (came ≡ None) ⊎ ((s : AddressPrefix) × (came ≡ Some s) × IsWithSome hops s)
  IsUnshared hops came (Some s) = (came ≡ Some s) × IsWithNone hops s

  -- the subnet is that of the one taken out, and of no other
  abbrev pub IsGivenUp : (ℕ → Option (Hop A)) → (ℕ → Option (Hop A)) → ℕ → Option AddressPrefix → Type 0
  IsGivenUp old new a s = (h : Hop A) → old a ≡ Some h → IsUnshared new h.came s
