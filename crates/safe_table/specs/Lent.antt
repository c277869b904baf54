-- What a slot and a table end as, where a `&mut` to a row is returned.
use Rattle.std.specs.Prelude.{Option, Some}
use Rattle.std.specs.FinMap as map
use Rattle.std.specs.Borrow.{Lends, LendsIf, Fml, RattleType, MutBor}
use Rattle.addr4.specs.Prefixes.{AddressPrefix}
use Rattle.safe_table.specs.declared.slot.Slot.{Slot}
use Rattle.safe_table.specs.declared.slot.Kept.{Kept}
use Rattle.safe_table.specs.declared.slot.Kept.TheVariants.{Row, Removed}
use Rattle.safe_table.specs.Tables.{Rows}
use Rattle.addr4.specs.declared.family.Family.{Ghosts}
use Rattle.safe_table.specs.contracts.slot.Slot as slot
use Rattle.safe_table.specs.contracts.slot.Kept as kept
use Rattle.safe_table.specs.contracts.table.Table as table

-- with another row
abbrev pub with_row : {V : Type 0} → Kept V → V → Kept V
with_row (Row readers row) v = Row readers v
with_row (Removed readers) v = Removed readers

-- once the borrow r ends, the row is the last value written through r
abbrev pub lends_kept : (V : RattleType) → MutBor (Kept V.Denot) → MutBor V.Denot → Fml
lends_kept V s r = Lends (kept.the_row V) V s r (with_row s.now)

abbrev pub lends_slot : (V : RattleType) → MutBor (Slot V.Denot) → MutBor V.Denot → Fml
lends_slot V s r = Lends (slot.the_row V) V s r (λ v. record s.now { value = Some v })

-- once the borrow r ends, the last value written through r stands at the prefix, and at `None` the table stays as it is
abbrev pub lends_get : (V F : RattleType) → Ghosts F.Denot → MutBor (Rows V.Denot) → AddressPrefix → Option (MutBor V.Denot) → Fml
lends_get V F g s p r = LendsIf (table.the_row V F g) V s r (λ v. record s.now { rows = map.insert s.now.rows p v }) s.now
