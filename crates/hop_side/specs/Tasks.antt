-- What the loops over the resolvers find.
use Rattle.std.specs.Prelude.{ℕ, if◌then◌else◌, List, [], ◌∷◌, Option, Some, None, option_map}
use Rattle.addr4.specs.Prefixes.{AddressPrefix}
use Rattle.nexthop_resolver.specs.declared.rows.Metric.{Metric}
use Rattle.nexthop_resolver.specs.Kept.{route_hop}
use Rattle.nexthop_resolver.specs.Left.{is_busy, hop_lags}
use Rattle.nexthop_resolver.specs.Resolving.{Resolving}
use Rattle.hop_side.specs.Resolvers.{PeerRows, same_metric}

-- the number of the first resolver that has work
abbrev pub first_of : List (ℕ × Resolving Metric) → Option ℕ
first_of [] = None
first_of (e ∷ es) = if is_busy same_metric e.1 then Some e.0 else first_of es

-- of the first one that holds up a prefix, where these are the rows of the links `filt.K`
abbrev pub first_lagging : PeerRows → AddressPrefix → List (ℕ × Resolving Metric) → Option ℕ
first_lagging uppers p [] = None
first_lagging uppers p (e ∷ es) = if hop_lags same_metric e.1 p (option_map route_hop (uppers e.0 p)) then Some e.0 else first_lagging uppers p es
