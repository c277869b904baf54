-- What contracts see of a trie.
use Rattle.std.specs.Prelude.{◌≡◌, ℕ, List, Option, Some, None, IsSome, slice_index_or, refl}
use Rattle.std.specs.Coded.{Coded, code_by, coded×, coded_list, coded_option}
use Rattle.std.specs.FinMap.{FinMap, code, get, insert}
use Rattle.addr4.specs.Prefixes.{AddressPrefix, prefix_cmp, address_prefix_code}

-- its map, and of each key in its nodes the prefix of the leaf that lies there
pub record Contents (V : Type 0) : Type 0 where
  pub rows : FinMap prefix_cmp V
  pub leaves : List (Option AddressPrefix)

abbrev pub contents_code : {V : Type 0} → Coded V → Coded (Contents V)
contents_code {V} c = code_by (FinMap prefix_cmp V × List (Option AddressPrefix)) (coded× (code address_prefix_code c) (coded_list (coded_option address_prefix_code))) (λ t. (t.rows, t.leaves)) (λ p. record { rows = p.0; leaves = p.1 }) (λ _. refl)

module _ {V : Type 0} where
  abbrev pub HasKey : FinMap prefix_cmp V → AddressPrefix → Type 0
  HasKey rows p = IsSome (get rows p)

-- the leaf at a key is that of a prefix
abbrev pub LiesAt : List (Option AddressPrefix) → ℕ → AddressPrefix → Type 0
LiesAt leaves key p = slice_index_or leaves key None ≡ Some p

module _ {V : Type 0} where
  -- nothing stood at a prefix, and this value does now
  pub record IsEntered (old new : Contents V) (p : AddressPrefix) (value : V) : Type 0 where
    pub absent : get old.rows p ≡ None
    pub rows : new.rows ≡ insert old.rows p value

  -- a value stands at a prefix, whose leaf lies at a key, and stays; the one that is handed in comes back
  pub record IsOccupied (old new : Contents V) (p : AddressPrefix) (value : V) (found : ℕ × V) : Type 0 where
    pub there : HasKey new.rows p
    pub lies : LiesAt new.leaves found.0 p
    pub back : found.1 ≡ value
    pub stays : new ≡ old
