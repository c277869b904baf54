-- What the index of a queue's entries keeps.
use Rattle.std.specs.Prelude.{◌≡◌, ℕ, suc, ◌≤◌, ◌<◌, nat_eq, nat_le, Bool, true, false, not, cond, ◌&&◌, ◌||◌, List, [], ◌∷◌, Option, Some, None}
use Rattle.std.specs.declared.cmp.Ordering.{Ordering}
use Rattle.std.specs.Ordering.{nat_cmp, eq_by_cmp, is_gt, is_lt, ordering_then}
use Rattle.std.specs.declared.ops.Bound.{Bound}
use Rattle.std.specs.declared.ops.Bound.TheVariants.{Excluded, Unbounded}
use Rattle.std.specs.BTreeMap.Range.{IsLeBy, IsLtBy}
use Rattle.std.specs.BTreeSet.{BTreeSet, contains, keys_between}
use Rattle.addr4.specs.Prefixes.{AddressPrefix, prefix_cmp, ComesBefore}
use Rattle.addr4.specs.Places.{IsBeyond}
use Rattle.link_change.specs.Changes.{Change}

-- a prefix, and the number of an entry at it
abbrev pub Key : Type 0
Key = AddressPrefix × ℕ

-- by prefix, then number
abbrev pub key_cmp : Key → Key → Ordering
key_cmp x y = ordering_then (prefix_cmp x.0 y.0) (nat_cmp x.1 y.1)

-- the answer is the first key at or beyond this one
abbrev pub IsFirstKey : BTreeSet Key → Key → Option Key → Type 0
IsFirstKey index from None = (q : Key) → IsLeBy key_cmp from q → contains key_cmp index q ≡ false
IsFirstKey index from (Some key) =
    IsLeBy key_cmp from key × (contains key_cmp index key ≡ true)
    × ((q : Key) → IsLeBy key_cmp from q → IsLtBy key_cmp q key → contains key_cmp index q ≡ false)

-- the answer is the least number from this one on of a key at the prefix
abbrev pub IsFirstNumber : BTreeSet Key → AddressPrefix → ℕ → Option ℕ → Type 0
IsFirstNumber index p from None = (n : ℕ) → from ≤ n → contains key_cmp index (p, n) ≡ false
IsFirstNumber index p from (Some number) =
    (from ≤ number) × (contains key_cmp index (p, number) ≡ true)
    × ((n : ℕ) → from ≤ n → n < number → contains key_cmp index (p, n) ≡ false)

-- whether the prefix lies beyond the place
abbrev pub is_beyond : Option AddressPrefix → AddressPrefix → Bool
is_beyond None q = true
is_beyond (Some p) q = is_lt (prefix_cmp p q)

-- whether the prefix isn't before the other one
abbrev pub is_reached : Option AddressPrefix → AddressPrefix → Bool
is_reached None p = false
is_reached (Some other) p = cond (is_gt (prefix_cmp other p)) false true

-- the prefix, where it lies beyond the place and before the other one, or else the other one
abbrev pub lesser : Option AddressPrefix → AddressPrefix → Option AddressPrefix → Option AddressPrefix
lesser after p other = cond (is_beyond after p && not (is_reached other p)) (Some p) other

-- whether the entry has this number or a later one, or its prefix isn't before the other one
abbrev pub stops : ℕ → Option AddressPrefix → Key → Bool
stops place other key = nat_le place key.1 || is_reached other key.0

-- the keys of the prefixes beyond a place, with numbers below 2 ^ 64, begin behind this
abbrev pub behind : Option AddressPrefix → Bound Key
behind None = Unbounded
behind (Some p) = Excluded (p, 18446744073709551615)

-- the keys from a bound on
abbrev pub keys_from : Bound Key → BTreeSet Key → List Key
keys_from from index = keys_between key_cmp from Unbounded index

-- the answer is the first key beyond the place at which the search stops
abbrev pub IsFirstStop : BTreeSet Key → (Key → Bool) → Option AddressPrefix → Option Key → Type 0
IsFirstStop index test after None = (key : Key) → contains key_cmp index key ≡ true → IsBeyond after key.0 → test key ≡ false
IsFirstStop index test after (Some key) =
    IsBeyond after key.0 × (contains key_cmp index key ≡ true) × (test key ≡ true)
    × ((q : Key) → contains key_cmp index q ≡ true → IsBeyond after q.0 → ComesBefore q.0 key.0 → test q ≡ false)

module _ {R : Type 0} where
  -- whether the entry of this number, where the first has the number base, is one at the prefix
  abbrev pub is_entry : ℕ → List (Change R) → AddressPrefix → ℕ → Bool
  is_entry base [] p number = false
  is_entry base (c ∷ cs) p number = (nat_eq number base && eq_by_cmp prefix_cmp c.prefix p) || is_entry (suc base) cs p number

  -- the keys from the number base on are those of the entries below another number
  pub record IsIndexed (base : ℕ) (entries : List (Change R)) (index : BTreeSet Key) (indexed : ℕ) : Type 0 where
    pub below : (p : AddressPrefix) (n : ℕ) → base ≤ n → n < indexed → contains key_cmp index (p, n) ≡ is_entry base entries p n
    pub above : (p : AddressPrefix) (n : ℕ) → base ≤ n → indexed ≤ n → contains key_cmp index (p, n) ≡ false
