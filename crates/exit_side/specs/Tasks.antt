-- What the loop over the chains finds.
use Rattle.std.specs.Prelude.{◌≡◌, ℕ, Bool, if◌then◌else◌, List, [], ◌∷◌, Option, Some, None, IsSome}
use Rattle.std.specs.Ordering.{nat_cmp}
use Rattle.std.specs.BTreeMap.{BTreeMap, get}
use Rattle.std.specs.FinMap as tables
use Rattle.addr4.specs.Prefixes.{AddressPrefix}
use Rattle.bgp_attr.specs.Routes.{Route}
use Rattle.fanout_queue.specs.Queues.{Queued}
use Rattle.fanout_queue.specs.Readers.{unread_by}
use Rattle.out_chain.specs.Chains.{OutChained, has_out_work, out_lags, has_refresh_work}

-- the number of the first chain that has work
abbrev pub first_of : Queued Route → List (ℕ × OutChained) → Option ℕ
first_of queued [] = None
first_of queued (e ∷ es) = if has_out_work e.1 (unread_by queued e.1.reader) then Some e.0 else first_of queued es

-- of the first one that holds up a prefix, where this tells whether the best rows have one there
abbrev pub first_lagging : Queued Route → Bool → AddressPrefix → List (ℕ × OutChained) → Option ℕ
first_lagging queued has_best p [] = None
first_lagging queued has_best p (e ∷ es) = if out_lags e.1 (unread_by queued e.1.reader) p has_best then Some e.0 else first_lagging queued has_best p es

-- of the first one on which the walk of a refresh is on
abbrev pub first_refreshing : List (ℕ × OutChained) → Option ℕ
first_refreshing [] = None
first_refreshing (e ∷ es) = if has_refresh_work e.1 then Some e.0 else first_refreshing es

-- each chain's reader is one of the queue's
abbrev pub HaveReaders : Queued Route → BTreeMap ℕ OutChained → Type 0
HaveReaders queued m = (j : ℕ) (c : OutChained) → get nat_cmp m j ≡ Some c → IsSome (tables.get queued c.reader)
