-- What a trie ends as, where a `&mut` to one of its values is returned.
use Rattle.std.specs.Prelude.{Option}
use Rattle.std.specs.FinMap as map
use Rattle.std.specs.Borrow.{Lends, LendsIf, Fml, RattleType, MutBor}
use Rattle.addr4.specs.declared.family.Family.{Ghosts}
use Rattle.addr4.specs.Prefixes.{AddressPrefix}
use Rattle.nibble_trie.specs.Contents.{Contents}
use Rattle.nibble_trie.specs.contracts.trie.Trie.{the_row}

-- once the borrow r ends, the last value written through r stands at the prefix
abbrev pub lends_value : (V F : RattleType) → Ghosts F.Denot → MutBor (Contents V.Denot) → AddressPrefix → MutBor V.Denot → Fml
lends_value V F g s p r = Lends (the_row V F g) V s r (λ v. record s.now { rows = map.insert s.now.rows p v })

-- the same where r is a reference, and at `None` the trie stays as it is
abbrev pub lends_get : (V F : RattleType) → Ghosts F.Denot → MutBor (Contents V.Denot) → AddressPrefix → Option (MutBor V.Denot) → Fml
lends_get V F g s p r = LendsIf (the_row V F g) V s r (λ v. record s.now { rows = map.insert s.now.rows p v }) s.now
