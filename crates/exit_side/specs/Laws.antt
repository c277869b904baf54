-- Laws of the side of the exits, for the crates above.
use Rattle.std.specs.Prelude.{◌≡◌, ◌≢◌, ◌↔◌, ℕ, ◌+◌, ◌*◌, ◌≤◌, true, false, List, [], Option, Some, None, IsSome}
use Rattle.std.specs.List.{Contains}
use Rattle.std.specs.FinMap as tables
use Rattle.addr4.specs.Prefixes.{AddressPrefix}
use Rattle.bgp_attr.specs.Attributes.{Attrs}
use Rattle.bgp_attr.specs.Routes.{Route}
use Rattle.bgp_attr.specs.Speakers.{Speaker}
use Rattle.bgp_attr.specs.declared.speaker.Neighbour.{Neighbour}
use Rattle.link_change.specs.Rows.{Rows, Candidates, CoversRows}
use Rattle.link_change.specs.Changes.{Change}
use Rattle.policy_rules.specs.Rules.{Rule}
use Rattle.pass_core.specs.Passed.{present}
use Rattle.pass_core.specs.Left.{CountsBeyond}
use Rattle.fanout_queue.specs.Queues.{Queued, Takes, IsMostUnread}
use Rattle.fanout_queue.specs.Readers.{read_rows, KeepsOtherReaders}
use Rattle.journal_text.specs.declared.link.Link.{Link}
use Rattle.journal_text.specs.declared.link.Link.TheVariants.{Best}
use Rattle.journal_text.specs.Lines.{Line}
use Rattle.journal_text.specs.Lines.{Entry}
use Rattle.journal_text.specs.Lines.{Value}
use Rattle.journal_text.specs.Walk.{Links, Leads}
use Rattle.journal_text.specs.Values.{route_rows}
use Rattle.out_chain.specs.Chains.{OutChained, made_by}
use Rattle.exit_side.specs.Exits.{Exited, chain_at, with_queue, exit_links, exit_candidates, IsExits, AllStand, AreOutChains, has_exit_work, exit_holds_up, left_in, has_refresh, refreshes_left, refreshed_exits}
use Rattle.exit_side.specs.Steps.{is_exit, LeadsExits, LeadsWithBest, BeginsExit, EndsExit, EditsExit, PutsExit, TurnsExit, ResendsExit}

-- ---- at first
-- Where no peer is up, no link is live, and all that is claimed holds.
pub record StandsAtFirst (e : Exited) : Type 0 where
  pub links : (best : Rows Route) (link : Link) → exit_links e best link ≡ None
  pub sound : IsExits e
  pub stand : (best : Rows Route) → AllStand best e
  pub left : (beyond : Option AddressPrefix → ℕ) → left_in beyond e ≡ 0

-- ---- links
-- links that have these among them, and the same elsewhere
pub record AreAmong (old new before after : Links Value) : Type 0 where
  pub was : (link : Link) → is_exit link ≡ true → before link ≡ old link
  pub is : (link : Link) → is_exit link ≡ true → after link ≡ new link
  pub same : (link : Link) → is_exit link ≡ false → after link ≡ before link

-- What leads the links of the exits on leads them on, in whatever region they are;
abbrev pub LeadsAnywhere : Type 0
LeadsAnywhere = (old new before after : Links Value) (entries : List (Entry Value)) → LeadsExits old entries new → AreAmong old new before after → Leads before entries after

-- so does what leads them on beside `best`, where it has these rows.
abbrev pub LeadsAnywhereWithBest : Type 0
LeadsAnywhereWithBest =
    (best : Rows Route) (old new before after : Links Value) (entries : List (Entry Value)) → LeadsWithBest best old entries new → before Best ≡ Some (route_rows best)
    → AreAmong old new before after → Leads before entries after

-- ---- what is held up
-- At a prefix that the task of a peer's exit doesn't hold up, its reader has the row of `best`, and the peer was sent exactly what the
-- latest rules make of it.
abbrev pub ExactUnlessHeldUp : Type 0
ExactUnlessHeldUp =
    (e : Exited) (best : Rows Route) (j : ℕ) (c : OutChained) (p : AddressPrefix) → AllStand best e → chain_at j e ≡ Some c → exit_holds_up e best j p ≡ false
    → (read_rows e.queue c.reader best p ≡ best p) × (tables.get c.sent p ≡ made_by c (present c.filter) p (best p))

-- Without work it holds up nothing.
abbrev pub NoneHeldUpWithoutWork : Type 0
NoneHeldUpWithoutWork = (e : Exited) (best : Rows Route) (j : ℕ) (p : AddressPrefix) → has_exit_work e j ≡ false → exit_holds_up e best j p ≡ false

-- A task with work is a peer's that has an exit.
abbrev pub WorkIsListed : Type 0
WorkIsListed = (e : Exited) (j : ℕ) → has_exit_work e j ≡ true → Contains (tables.keys e.chains) j

-- ---- how many turns are left
-- None exactly where no task has work,
abbrev pub NoneLeftWithoutWork : Type 0
NoneLeftWithoutWork = (e : Exited) (beyond : Option AddressPrefix → ℕ) → ((j : ℕ) → has_exit_work e j ≡ false) ↔ (left_in beyond e ≡ 0)

-- and, for each peer, at most as many as the most that a reader hasn't taken, and two whole walks.
abbrev pub TurnsAreBounded : Type 0
TurnsAreBounded =
    (candidates : Candidates) (beyond : Option AddressPrefix → ℕ) (e : Exited) (most : ℕ) → CountsBeyond candidates beyond → IsMostUnread e.queue most
    → left_in beyond e ≤ tables.len e.chains * (most + 2 * (beyond None + 1))

-- Where no more candidates lie beyond any place than before, no more are left.
abbrev pub LeftFollows : Type 0
LeftFollows =
    (e : Exited) (before now : Option AddressPrefix → ℕ) → ((place : Option AddressPrefix) → now place ≤ before place) → left_in now e ≤ left_in before e

-- ---- readers that are no peer's
abbrev pub IsStranger : ℕ → Exited → Type 0
IsStranger reader e = (j : ℕ) (c : OutChained) → chain_at j e ≡ Some c → c.reader ≢ reader

-- What such a reader takes, and that it joins or leaves, leaves the exits as they were.
pub record StaysWithQueue (e : Exited) (queue : Queued Route) : Type 0 where
  pub links : (best : Rows Route) → exit_links (with_queue queue e) best ≡ exit_links e best
  pub stand : (best : Rows Route) → AllStand best e → AllStand best (with_queue queue e)
  pub left : (beyond : Option AddressPrefix → ℕ) → left_in beyond (with_queue queue e) ≡ left_in beyond e
  pub sound : IsExits (with_queue queue e)

abbrev pub StrangersReadOn : Type 0
StrangersReadOn =
    (e : Exited) (queue : Queued Route) (reader : ℕ) → IsExits e → IsStranger reader e → KeepsOtherReaders reader e.queue queue → StaysWithQueue e queue

-- A reader that joins by itself is no peer's.
abbrev pub StrangersJoin : Type 0
StrangersJoin =
    (e : Exited) (reader : ℕ) → IsExits e → tables.get e.queue reader ≡ None → IsStranger reader e × StaysWithQueue e (tables.insert e.queue reader [])

abbrev pub StrangersTake : Type 0
StrangersTake =
    (e : Exited) (queue : Queued Route) (reader : ℕ) (result : Option (Change Route)) → IsExits e → IsStranger reader e → Takes e.queue queue reader result → StaysWithQueue e queue

-- It stays no peer's, and hasn't taken what it hadn't taken, when a session begins,
pub record KeepsStranger (reader : ℕ) (e e' : Exited) : Type 0 where
  pub own : IsStranger reader e'
  pub unread : tables.get e'.queue reader ≡ tables.get e.queue reader

abbrev pub BeginKeepsStrangers : Type 0
BeginKeepsStrangers =
    (reader : ℕ) (me : Speaker) (peer : Neighbour) (session : ℕ) (rules : List Rule) (e e' : Exited) (entries : List (Entry Value)) → IsExits e → IsStranger reader e
    → IsSome (tables.get e.queue reader) → BeginsExit me peer session rules e e' entries → KeepsStranger reader e e'

-- when one ends,
abbrev pub EndKeepsStrangers : Type 0
EndKeepsStrangers =
    (reader j : ℕ) (e e' : Exited) (entries : List (Entry Value)) → IsExits e → IsStranger reader e → EndsExit j e e' entries → KeepsStranger reader e e'

-- when rules are edited,
abbrev pub EditKeepsStrangers : Type 0
EditKeepsStrangers = (reader j : ℕ) (rules : List Rule) (e e' : Exited) → IsExits e → IsStranger reader e → EditsExit j rules e e' → KeepsStranger reader e e'

-- and when a peer's exit takes a turn. A change of `best` joins what it hasn't taken.
abbrev pub TurnKeepsStrangers : Type 0
TurnKeepsStrangers =
    (reader j : ℕ) (candidates : Candidates) (best : Rows Route) (sent : Option (Change Attrs)) (e e' : Exited) (said : List Line) → IsExits e → IsStranger reader e
    → TurnsExit j candidates best sent e e' said → KeepsStranger reader e e'

abbrev pub PutKeepsStrangers : Type 0
PutKeepsStrangers = (reader : ℕ) (change : Change Route) (e e' : Exited) → IsStranger reader e → PutsExit change e e' → IsStranger reader e'

-- ---- the walks of refreshes
-- A refresh of peer j, and a turn of its walk, change no link and no turn of any other task: all is the same but for that walk.
pub record AreSameButRefresh (j : ℕ) (e e' : Exited) : Type 0 where
  pub profile : e'.profile ≡ e.profile
  pub queue : e'.queue ≡ e.queue
  pub others : (k : ℕ) → k ≢ j → chain_at k e' ≡ chain_at k e
  pub sound : IsExits e'
  pub stand : (best : Rows Route) → AllStand best e → AllStand best e'
  pub links : (best : Rows Route) → exit_links e' best ≡ exit_links e best
  pub candidates : (best : Candidates) → exit_candidates e' best ≡ exit_candidates e best
  pub left : (beyond : Option AddressPrefix → ℕ) → left_in beyond e' ≡ left_in beyond e
  pub work : (k : ℕ) → has_exit_work e' k ≡ has_exit_work e k
  pub held : (best : Rows Route) (k : ℕ) (p : AddressPrefix) → exit_holds_up e' best k p ≡ exit_holds_up e best k p
  pub strangers : (reader : ℕ) → IsStranger reader e → IsStranger reader e'

abbrev pub RefreshKeeps : Type 0
RefreshKeeps = (j : ℕ) (e : Exited) → IsExits e → AreSameButRefresh j e (refreshed_exits j e)

abbrev pub ResendKeeps : Type 0
ResendKeeps = (j : ℕ) (e e' : Exited) (said : List Line) → IsExits e → ResendsExit j e e' said → AreSameButRefresh j e e'

-- What ties the exits to the rows of `best` tells of each chain what the walks need.
abbrev pub StandingAreChains : Type 0
StandingAreChains = (e : Exited) (best : Rows Route) → AllStand best e → AreOutChains e

-- A walk that is on is a peer's that has an exit.
abbrev pub RefreshIsListed : Type 0
RefreshIsListed = (e : Exited) (j : ℕ) → has_refresh e j ≡ true → Contains (tables.keys e.chains) j

-- No turn is left exactly where no walk is on, and each turn leaves fewer.
abbrev pub NoneLeftWithoutRefresh : Type 0
NoneLeftWithoutRefresh = (e : Exited) → AreOutChains e → ((j : ℕ) → has_refresh e j ≡ false) ↔ (refreshes_left e ≡ 0)

abbrev pub ResendLeavesFewer : Type 0
ResendLeavesFewer = (j : ℕ) (e e' : Exited) (said : List Line) → ResendsExit j e e' said → refreshes_left e' + 1 ≤ refreshes_left e

-- Where no exit has work, the rows that were sent stand at candidates of `best`: so that for each peer no more turns are left than these are.
abbrev pub RefreshesAreBounded : Type 0
RefreshesAreBounded =
    (candidates : Candidates) (beyond : Option AddressPrefix → ℕ) (e : Exited) (best : Rows Route) → CountsBeyond candidates beyond → CoversRows candidates best
    → AllStand best e → ((j : ℕ) → has_exit_work e j ≡ false) → refreshes_left e ≤ tables.len e.chains * beyond None
