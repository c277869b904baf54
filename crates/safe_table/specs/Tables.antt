-- What contracts see of a table.
use Rattle.std.specs.Prelude.{◌≡◌, ℕ, Option, Some, None, MatchOption, refl}
use Rattle.std.specs.Ordering.{nat_cmp}
use Rattle.std.specs.Coded.{Coded, code_by, coded×, coded_ℕ, coded_option}
use Rattle.std.specs.FinMap as map
use Rattle.std.specs.FinMap.{FinMap}
use Rattle.slab.specs.Slab.{Slab}
use Rattle.addr4.specs.Places.{key_of, IsNextRow}
use Rattle.addr4.specs.Prefixes.{AddressPrefix, prefix_cmp, address_prefix_code}
use Rattle.addr4.specs.Places.{Place}
use Rattle.addr4.specs.declared.place.Place.TheVariants.{Before, At}
use Rattle.nibble_trie.specs.Leaves.{Node}
use Rattle.nibble_trie.specs.Nodes.{HasNode}

-- its rows, and where its live iterators stand
pub record Rows (V : Type 0) : Type 0 where
  pub rows : FinMap prefix_cmp V
  pub iterators : FinMap nat_cmp Place

module _ {V : Type 0} where
  -- the iterator goes to the first row beyond its place, or stays where there is none
  pub record Moves (old new : Rows V) (it : ℕ) (result : Option AddressPrefix) : Type 0 where
    pub place : Place
    pub stood : map.get old.iterators it ≡ Some place
    pub found : IsNextRow (map.get old.rows) (key_of place) result
    pub moved : MatchOption result (new.iterators ≡ old.iterators) (λ p. new.iterators ≡ map.insert old.iterators it (At p))

  -- each prefix at which an iterator stands has a node
  abbrev pub HasPlaces : Slab (Node V) → FinMap nat_cmp Place → Type 0
  HasPlaces nodes iterators = (it : ℕ) (p : AddressPrefix) → map.get iterators it ≡ Some (At p) → HasNode nodes p

-- ---- how these maps are stored
abbrev split : Place → Option AddressPrefix
split Before = None
split (At p) = Some p

abbrev join : Option AddressPrefix → Place
join None = Before
join (Some p) = At p

pub join-split : (x : Place) → join (split x) ≡ x
join-split Before = refl
join-split (At p) = refl

abbrev pub coded_place : Coded Place
coded_place = code_by (Option AddressPrefix) (coded_option address_prefix_code) split join join-split

abbrev pub rows_code : {V : Type 0} → Coded V → Coded (Rows V)
rows_code {V} c = code_by (FinMap prefix_cmp V × FinMap nat_cmp Place) (coded× (map.code address_prefix_code c) (map.code coded_ℕ coded_place)) (λ t. (t.rows, t.iterators)) (λ p. record { rows = p.0; iterators = p.1 }) (λ _. refl)
