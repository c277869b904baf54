-- What the fields of a walk mean.
use Rattle.std.specs.Prelude.{Option, Some, None}
use Rattle.addr4.specs.Prefixes.{AddressPrefix}
use Rattle.addr4.specs.Places.{key_of}
use Rattle.pass_core.specs.declared.pass.Walk.{Walk}
use Rattle.pass_core.specs.Passed.{Walked}

module _ {F : Type 0} where
  abbrev pub walked : Walk F AddressPrefix → Walked F
  walked w = record { next = w.next; place = key_of w.place; waiting = w.waiting }

  abbrev pub walk_of : Option (Walk F AddressPrefix) → Option (Walked F)
  walk_of None = None
  walk_of (Some w) = Some (walked w)
