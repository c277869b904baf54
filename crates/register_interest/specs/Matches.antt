-- Matches as the prefix and the row.
use Rattle.std.specs.Prelude.{Option, Some, None}
use Rattle.std.specs.Borrow.{Bor}
use Rattle.addr4.specs.Prefixes.{AddressPrefix}
use Rattle.register_interest.specs.declared.register.Match as declared

module _ {R : Type 0} where
  abbrev pub match_of : Option (declared.Match R AddressPrefix) → Option (AddressPrefix × R)
  match_of None = None
  match_of (Some m) = Some (m.prefix, m.row)

  -- one that is lent
  abbrev pub lent_match : Option (AddressPrefix × Bor R) → Option (AddressPrefix × R)
  lent_match None = None
  lent_match (Some m) = Some (m.0, m.1.now)
