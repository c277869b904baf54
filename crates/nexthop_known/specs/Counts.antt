-- How many rows name each next hop: what the numbers mean, and what one row more or less makes of them.
use Rattle.std.specs.Prelude.{◌≡◌, ◌↔◌, ℕ, zero, suc, ◌+◌, ◌-◌, ◌==◌, Bool, true, false, cond, if◌then◌else◌, List, [], ◌∷◌, length, Option, Some, None}
use Rattle.std.specs.List.{Contains}
use Rattle.std.specs.Option.{option_map}
use Rattle.std.specs.Ordering.{nat_cmp}
use Rattle.std.specs.BTreeMap.{BTreeMap, is_at}
use Rattle.std.specs.BTreeMap as tree
use Rattle.std.specs.FinMap as map
use Rattle.addr4.specs.Prefixes.{AddressPrefix}
use Rattle.link_change.specs.Rows.{Rows}

-- of each next hop that some row names, how many rows name it beside one
abbrev pub Counts : Type 0
Counts = map.FinMap nat_cmp ℕ

-- that one and the others, or none
abbrev pub counted_in : Option ℕ → ℕ
counted_in None = 0
counted_in (Some others) = suc others

-- how many rows name the next hop
abbrev pub counted : Counts → ℕ → ℕ
counted counts a = counted_in (map.get counts a)

-- whether one row names it
abbrev pub is_one : Option ℕ → Bool
is_one None = false
is_one (Some zero) = true
is_one (Some (suc n)) = false

-- those that named it are beside the one that names it too
abbrev pub one_more : Counts → ℕ → Counts
one_more counts a = map.insert counts a (counted counts a)

abbrev pub one_less_of : Counts → ℕ → Option ℕ → Counts
one_less_of counts a None = counts
one_less_of counts a (Some zero) = map.remove counts a
one_less_of counts a (Some (suc n)) = map.insert counts a n

-- one row less names it, if one did
abbrev pub one_less : Counts → ℕ → Counts
one_less counts a = one_less_of counts a (map.get counts a)

-- ---- what they mean
-- the rows of a link, each as the next hop that it names
-- no prefix stands twice
abbrev pub AllApart : List AddressPrefix → Type 0
AllApart [] = Unit {0}
AllApart (p ∷ ps) = (Contains ps p → ⊥) × AllApart ps

-- so many rows name a: they stand at the prefixes of a list without repeats
pub record IsCount (named : Rows ℕ) (a n : ℕ) : Type 0 where
  pub list : List AddressPrefix
  pub apart : AllApart list
  pub exact : (q : AddressPrefix) → Contains list q ↔ (named q ≡ Some a)
  pub size : length list ≡ n

-- each next hop's count is the number of rows that name it
abbrev pub AreCounted : Rows ℕ → Counts → Type 0
AreCounted named counts = (a : ℕ) → IsCount named a (counted counts a)

-- how often a row names it, which names this next hop or none
abbrev pub once : Option ℕ → ℕ → ℕ
once None a = 0
once (Some b) a = if b == a then 1 else 0

-- the counts after a row changed that named the first next hop, and names the second now
abbrev pub Recounts : Option ℕ → Option ℕ → Counts → Counts → Type 0
Recounts before after old new = (a : ℕ) → counted new a ≡ (counted old a + once after a) - once before a

-- the map has this number at the address, if it had one, and at the others what it had
abbrev pub PutsCount : BTreeMap ℕ ℕ → BTreeMap ℕ ℕ → ℕ → ℕ → Type 0
PutsCount old new a n = (q : ℕ) → tree.get nat_cmp new q ≡ cond (is_at (nat_cmp a) q) (option_map (λ _. n) (tree.get nat_cmp old a)) (tree.get nat_cmp old q)
