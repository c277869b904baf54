-- Where a link leads.
use Rattle.std.specs.Prelude.{ℕ, ◌-◌, get_or, Option, Some, None, if◌then◌else◌, nat_eq, nat_lt}
use Rattle.nibble_trie.specs.declared.link.Link.{Link}
use Rattle.nibble_trie.specs.declared.link.Target.{Target}
use Rattle.nibble_trie.specs.declared.link.Target.TheVariants.{Nothing, Leaf, Inner}
use Rattle.nibble_trie.specs.declared.branch.Branch.{Branch}

-- 0 leads to nothing, a number below 2 ^ 31 to the leaf before it, one from there on to a branch
unfoldable pub target_of : ℕ → Target
target_of word = if nat_eq word 0 then Nothing else (if nat_lt word 2147483648 then Leaf (word - 1) else Inner (word - 2147483648))

abbrev pub leads : Link → Target
leads link = target_of link.word

-- where the link at a digit leads
unfoldable pub target_at : Branch → ℕ → Target
target_at branch digit = leads (get_or branch.links digit (record { word = 0 }))

-- the key of a leaf
abbrev pub leaf_of : Target → Option ℕ
leaf_of Nothing = None
leaf_of (Leaf key) = Some key
leaf_of (Inner key) = None

-- no branch
abbrev pub IsCell : Target → Type 0
IsCell Nothing = Unit {0}
IsCell (Leaf key) = Unit {0}
IsCell (Inner key) = ⊥
