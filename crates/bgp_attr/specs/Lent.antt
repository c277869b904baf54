-- What lent attributes are made of.
use Rattle.std.specs.Prelude.{ℕ, List, ◌∷◌, Option, Some, None}

-- the clusters behind the one in front, if one stands there
abbrev pub clusters_behind : Option ℕ → List ℕ → List ℕ
clusters_behind None others = others
clusters_behind (Some front) others = front ∷ others
