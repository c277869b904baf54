-- Items one after the other, to the end.
use Rattle.std.specs.Prelude.{◌≡◌, ℕ, zero, suc, List, [], ◌∷◌, ◌++◌, length, Result, Ok}
use Rattle.bgp_wire.specs.declared.notice.Notice.{Notice}
use Rattle.bgp_wire.specs.Faults.{◌>>=◌}

-- octets that are these items, by what the octets of one item are
abbrev pub AreItems : {A : Type 0} → (List ℕ → A → Type 0) → List ℕ → List A → Type 0
AreItems Is bytes [] = bytes ≡ []
AreItems Is bytes (x ∷ xs) = (octets rest : List ℕ) × (bytes ≡ octets ++ rest) × Is octets x × AreItems Is rest xs

-- what octets are, by how the first item and what follows it are read; at most so many items
unfoldable pub items_within : {A : Type 0} → (List ℕ → Result (A × List ℕ) Notice) → ℕ → List ℕ → Result (List A) Notice
items_within first_of n [] = Ok []
items_within first_of zero (b ∷ bytes) = Ok []
items_within first_of (suc n) (b ∷ bytes) = do
  first ← first_of (b ∷ bytes)
  others ← items_within first_of n first.1
  Ok (first.0 ∷ others)

-- an item has at least one octet
abbrev pub items_at : {A : Type 0} → (List ℕ → Result (A × List ℕ) Notice) → List ℕ → Result (List A) Notice
items_at first_of bytes = items_within first_of (length bytes) bytes
