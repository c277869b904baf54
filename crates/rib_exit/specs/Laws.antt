-- Laws of the RIB's exit, for the crates above.
use Rattle.std.specs.Prelude.{◌≡◌, ◌≢◌, ◌↔◌, ℕ, ◌+◌, ◌*◌, ◌≤◌, true, false, List, length, Option, Some, None, IsSome}
use Rattle.std.specs.List.{Contains}
use Rattle.std.specs.FinMap as map
use Rattle.addr4.specs.Prefixes.{AddressPrefix}
use Rattle.register_interest.specs.Width.{width}
use Rattle.bgp_attr.specs.Routes.{Route}
use Rattle.link_change.specs.Rows.{Rows, Candidates, no_rows, CoversRows}
use Rattle.rib_route.specs.Rows.{Interior}
use Rattle.register_interest.specs.Covers.{longest}
use Rattle.register_interest.specs.Registers.{Registry}
use Rattle.nexthop_resolver.specs.Registered.{interest_of, KeepsOthers}
use Rattle.rib_split.specs.Splitting.{external_row}
use Rattle.ext_int.specs.Laws.{table_from}
use Rattle.journal_text.specs.declared.link.Link.{Link}
use Rattle.journal_text.specs.Lines.{Entry}
use Rattle.journal_text.specs.Lines.{Value}
use Rattle.journal_text.specs.Walk.{Links, Leads}
use Rattle.rib_exit.specs.RibExits.{RibExit}
use Rattle.rib_exit.specs.Exits.{ext_rows, ext_candidates, fib_over, exit_links, is_exit_link, IsExit, AgreesWith, StandsOver, has_ext_work, ext_lags, known_in, stale_in, rows_in, left_in}
use Rattle.rib_exit.specs.Steps.{LeadsExit}

-- ---- at first
-- No row stands on a link, and all that is claimed holds.
pub record StandsAtFirst (e : RibExit) : Type 0 where
  pub rows : (link : Link) (rows : Rows Value) → exit_links e no_rows link ≡ Some rows → rows ≡ no_rows
  pub sound : IsExit e
  pub stands : StandsOver no_rows e
  pub agree : (r : Registry Interior) → ((s : AddressPrefix) → interest_of 0 r s ≡ false) → AgreesWith e r
  pub known : known_in e ≡ 0
  pub left : (beyond : Option AddressPrefix → ℕ) → left_in beyond e ≡ 0

-- ---- links
-- links that have these among them, and the same elsewhere
pub record AreAmong (old new before after : Links Value) : Type 0 where
  pub was : (link : Link) → is_exit_link link ≡ true → before link ≡ old link
  pub is : (link : Link) → is_exit_link link ≡ true → after link ≡ new link
  pub same : (link : Link) → is_exit_link link ≡ false → after link ≡ before link

-- What leads the four links on leads them on among any, in whatever region they are.
abbrev pub LeadsAnywhere : Type 0
LeadsAnywhere = (old new before after : Links Value) (entries : List (Entry Value)) → LeadsExit old entries new → AreAmong old new before after → Leads before entries after

-- ---- from the best routes
-- The row of `ext` is what forwarding needs of the best route, where a peer sent that.
abbrev pub ExtIsOfBest : Type 0
ExtIsOfBest = (e : RibExit) (best : Rows Route) → StandsOver best e → ext_rows e ≡ (λ q. external_row (best q))

-- At a prefix that the task doesn't hold up, the forwarding table has, of the interior route and of the row of `ext`, over the longest
-- interior route that holds its next hop, the one of least distance.
abbrev pub ExactUnlessHeldUp : Type 0
ExactUnlessHeldUp =
    (e : RibExit) (best : Rows Route) (int : Rows Interior) (r : Registry Interior) (p : AddressPrefix) → IsExit e → StandsOver best e → AgreesWith e r → ext_lags e p ≡ false
    → fib_over e int p ≡ table_from (longest width (map.get r.rows)) int (ext_rows e) p

-- Without work it holds up none.
abbrev pub NoneHeldUpWithoutWork : Type 0
NoneHeldUpWithoutWork = (e : RibExit) (p : AddressPrefix) → has_ext_work e ≡ false → ext_lags e p ≡ false

-- ---- the register
-- What another client does, leaves the agreement.
abbrev pub StrangersAgree : Type 0
StrangersAgree = (e : RibExit) (client : ℕ) (was is : Registry Interior) → IsExit e → client ≢ 0 → KeepsOthers client was is → AgreesWith e was → AgreesWith e is

-- ---- how many turns are left
-- None exactly without work,
abbrev pub NoneLeftWithoutWork : Type 0
NoneLeftWithoutWork = (e : RibExit) (beyond : Option AddressPrefix → ℕ) → (has_ext_work e ≡ false) ↔ (left_in beyond e ≡ 0)

-- at most those of two whole walks, and one for each stale next hop, of which there are no more than known ones.
pub record IsBounded (beyond : Option AddressPrefix → ℕ) (e : RibExit) : Type 0 where
  pub turns : left_in beyond e ≤ 2 * (beyond None + 1) + stale_in e
  pub stale : stale_in e ≤ known_in e

abbrev pub TurnsAreBounded : Type 0
TurnsAreBounded = (e : RibExit) (beyond : Option AddressPrefix → ℕ) → ((place : Option AddressPrefix) → beyond place ≤ beyond None) → IsBounded beyond e

-- Where no more candidates lie beyond any place than before, no more are left.
abbrev pub LeftFollows : Type 0
LeftFollows = (e : RibExit) (before now : Option AddressPrefix → ℕ) → ((place : Option AddressPrefix) → now place ≤ before place) → left_in now e ≤ left_in before e

-- Walks over `ext` go to candidates of the best routes alone.
abbrev pub CandidatesAreOfBest : Type 0
CandidatesAreOfBest =
    (e : RibExit) (best : Rows Route) (candidates : Candidates) (q : AddressPrefix) → StandsOver best e → CoversRows candidates best → ext_candidates e q ≡ true → candidates q ≡ true

-- ---- how many rows and next hops there are
-- No more rows stand on `ebgp` and `ibgp` together than routes of peers were read: than the prefixes of a list that has the prefix of
-- each best route that a peer sent. A route of this speaker's own has a row on neither.
abbrev pub RowsAreFew : Type 0
RowsAreFew =
    (e : RibExit) (best : Rows Route) (prefixes : List AddressPrefix) → StandsOver best e → ((q : AddressPrefix) → IsSome (external_row (best q)) → Contains prefixes q)
    → rows_in e ≤ length prefixes

-- No more than the rows that name them: than the prefixes of a list that has the prefix of each row of `ext`.
abbrev pub KnownAreFew : Type 0
KnownAreFew =
    (e : RibExit) (best : Rows Route) (prefixes : List AddressPrefix) → IsExit e → StandsOver best e → ((q : AddressPrefix) → IsSome (ext_rows e q) → Contains prefixes q)
    → known_in e ≤ length prefixes
