-- What a slot's field means.
use Rattle.std.specs.Prelude.{Some, None}
use Rattle.safe_table.specs.declared.slot.Kept.{Kept}
use Rattle.safe_table.specs.declared.slot.Kept.TheVariants.{Row, Removed}
use Rattle.safe_table.specs.Slots.{Slot}

abbrev pub slot_of : {V : Type 0} → Kept V → Slot V
slot_of (Row readers row) = record { value = Some row; readers = readers }
slot_of (Removed readers) = record { value = None; readers = readers }
