-- Laws of outgoing chains, for the crates above.
use Rattle.std.specs.Prelude.{◌≡◌, ◌≢◌, ◌↔◌, Bool, false, is_some, ℕ, ◌+◌, ◌*◌, ◌≤◌, length, List, [], Option, Some, None}
use Rattle.std.specs.Option.{ForSome}
use Rattle.std.specs.FinMap as map
use Rattle.std.specs.FinMap.{FinMap}
use Rattle.addr4.specs.Prefixes.{AddressPrefix, prefix_cmp}
use Rattle.addr4.specs.Places.{IsBeyond}
use Rattle.bgp_attr.specs.Attributes.{Attrs}
use Rattle.bgp_attr.specs.Routes.{Route}
use Rattle.link_change.specs.Rows.{Rows, Candidates, CoversRows}
use Rattle.link_change.specs.Changes.{IsSent}
use Rattle.link_change.specs.Changes.{Change}
use Rattle.pass_core.specs.Passed.{present}
use Rattle.pass_core.specs.Left.{CountsBeyond}
use Rattle.peer_out.specs.Changes.{MayBeHeard}
use Rattle.fanout_queue.specs.Queues.{Queued, AppendsToAll}
use Rattle.fanout_queue.specs.Readers.{unread_by, read_rows, KeepsOtherReaders}
use Rattle.journal_text.specs.Lines.{Line}
use Rattle.out_chain.specs.Chains.{OutChained, made_by, out_links, IsOutChain, HasSent, OutStands, has_out_work, out_lags, out_turns_left, walk_on, refreshed, refresh_left, has_refresh_work}
use Rattle.out_chain.specs.Steps.{Resends}

-- At a prefix that nothing holds up the reader has the best row, and the peer was sent exactly what the latest rules make of it.
abbrev pub ExactUnlessHeldUp : Type 0
ExactUnlessHeldUp =
    (c : OutChained) (queued : Queued Route) (best : Rows Route) (p : AddressPrefix) → HasSent c (read_rows queued c.reader best)
    → out_lags c (unread_by queued c.reader) p (is_some (read_rows queued c.reader best p)) ≡ false
    → (read_rows queued c.reader best p ≡ best p) × (map.get c.sent p ≡ made_by c (present c.filter) p (best p))

-- Without work nothing holds up a prefix.
abbrev pub NoneHeldUpWithoutWork : Type 0
NoneHeldUpWithoutWork =
    (c : OutChained) (unread : List (Change Route)) (p : AddressPrefix) (has_row : Bool) → has_out_work c unread ≡ false → out_lags c unread p has_row ≡ false

-- Where the reader has taken all, it has the best row. So whether there is a best row tells as much as whether the reader has one.
abbrev pub BestRowTells : Type 0
BestRowTells =
    (c : OutChained) (queued : Queued Route) (best : Rows Route) (p : AddressPrefix)
    → out_lags c (unread_by queued c.reader) p (is_some (best p)) ≡ out_lags c (unread_by queued c.reader) p (is_some (read_rows queued c.reader best p))

-- ---- what others do
-- A change of the best rows that is put leaves a session standing, where the row after it may be heard.
abbrev pub PutKeepsStanding : Type 0
PutKeepsStanding =
    (c : OutChained) (queued put : Queued Route) (best now : Rows Route) (p : AddressPrefix) (change : Change Route) → OutStands c queued best
    → AppendsToAll change queued put → IsSent best now p (Some change) → ForSome change.after (λ r. MayBeHeard c.exit.profile r.attrs) → OutStands c put now

-- So does what another reader does.
abbrev pub OthersKeepStanding : Type 0
OthersKeepStanding =
    (c : OutChained) (queued left : Queued Route) (best : Rows Route) (other : ℕ) → c.reader ≢ other → KeepsOtherReaders other queued left
    → OutStands c queued best → OutStands c left best

-- ---- turns
-- No turn is left exactly where the reader has taken all and no walk is on.
abbrev pub NoTurnsWithoutWork : Type 0
NoTurnsWithoutWork =
    (beyond : Option AddressPrefix → ℕ) (c : OutChained) (unread : List (Change Route)) → out_turns_left beyond c unread ≡ 0 → (unread ≡ []) × (c.filter.walk ≡ None)

-- At most two whole walks are left beside what is unread.
abbrev pub OutTurnsAreBounded : Type 0
OutTurnsAreBounded =
    (candidates : Candidates) (beyond : Option AddressPrefix → ℕ) (c : OutChained) (unread : List (Change Route)) → CountsBeyond candidates beyond
    → out_turns_left beyond c unread ≤ length unread + 2 * (beyond None + 1)

-- ---- the walk of a refresh
-- A refresh and its turns change no row, no rule and nothing that the reader hasn't taken: the chain is the same but for the walk,
pub record IsSameButRefresh (old new : OutChained) : Type 0 where
  pub is : new ≡ record old { refresh = new.refresh }
  pub links : (read : Rows Route) → out_links new read ≡ out_links old read
  pub stands : (queued : Queued Route) (best : Rows Route) → OutStands old queued best → OutStands new queued best

abbrev pub RefreshKeeps : Type 0
RefreshKeeps = (c : OutChained) → IsSameButRefresh c (refreshed c)

abbrev pub ResendKeeps : Type 0
ResendKeeps = (old new : OutChained) (said : List Line) → Resends old new said → IsSameButRefresh old new

-- No turn of it is left exactly where none is on.
abbrev pub NoneLeftWithoutRefresh : Type 0
NoneLeftWithoutRefresh = (c : OutChained) → IsOutChain c → (has_refresh_work c ≡ false) ↔ (refresh_left c ≡ 0)

-- A walk that is over has no row beyond its place.
abbrev pub OverWithoutRowsBeyond : Type 0
OverWithoutRowsBeyond = (rows : FinMap prefix_cmp Attrs) (place : Option AddressPrefix) (q : AddressPrefix) → walk_on rows place ≡ None → IsBeyond place q → map.get rows q ≡ None

-- Where the reader has taken all, what was sent stands at candidates of the best rows, so that no more turns are left than these are.
abbrev pub RefreshIsBounded : Type 0
RefreshIsBounded =
    (candidates : Candidates) (beyond : Option AddressPrefix → ℕ) (c : OutChained) (queued : Queued Route) (best : Rows Route) → CountsBeyond candidates beyond → CoversRows candidates best
    → OutStands c queued best → has_out_work c (unread_by queued c.reader) ≡ false → refresh_left c ≤ beyond None
