-- What the router's own calls make of chains and moments, with what they keep.
use Rattle.std.specs.List.{AllByRecursion}
use Rattle.std.specs.Prelude.{◌≡◌, ℕ, ◌+◌, ◌≤◌, ◌⊎◌, true, false, is_some, List, ◌++◌, Option, Some, None, IsSome}
use Rattle.addr4.specs.Prefixes.{AddressPrefix}
use Rattle.bgp_attr.specs.Attributes.{Attrs}
use Rattle.link_change.specs.Changes.{Change}
use Rattle.journal_text.specs.declared.link.Task.{Task}
use Rattle.journal_text.specs.Lines.{Line}
use Rattle.journal_text.specs.Walk.{Leads}
use Rattle.journal_text.specs.Texts.{entries_of}
use Rattle.journal_text.specs.Journals.{Journaled, with_lines, with_entries, flushed}
use Rattle.event_text.specs.declared.declared.DeclaredPeer.{DeclaredPeer}
use Rattle.event_text.specs.Declarations.{peer_at}
use Rattle.peer_side.specs.Peers.{chain_at, overdue_at, rows_in, IsPeersBut}
use Rattle.nexthop_known.specs.Hops.{is_stale_at}
use Rattle.hop_side.specs.Resolvers.{resolver_at, known_in, IsHops, AllAgree}
use Rattle.rib_exit.specs.Exits.{known_in as external_known, stale_in as external_stale, IsExit}
use Rattle.peer_side.specs.Steps.{LosesInward, WeldsInward}
use Rattle.bgp_attr.specs.Routes.{Route}
use Rattle.journal_text.specs.Lines.{Entry}
use Rattle.journal_text.specs.Lines.{Value}
use Rattle.journal_text.specs.Values.{route_value, sent_entries}
use Rattle.rib_route.specs.Rows.{FibRow}
use Rattle.rib_exit.specs.Steps.{TakesExternal}
use Rattle.router_moments.specs.declared.tasks.Done.{Done}
use Rattle.router_moments.specs.declared.tasks.Done.TheVariants.{Nothing, Taken}
use Rattle.rib_route.specs.declared.Proto.{Proto}
use Rattle.rib_route.specs.Rows.{Interior}
use Rattle.rib_tree.specs.Trees.{int_rows, tree_count}
use Rattle.rib_tree.specs.Steps.{lost_tree, welded_tree, tree_overdue, tree_loss_entries, tree_weld_entries, fed_tree}
use Rattle.std.specs.FinMap as tables
use Rattle.bgp_attr.specs.Speakers.{Speaker}
use Rattle.bgp_attr.specs.declared.speaker.Profile.{Profile}
use Rattle.peer_out.specs.Changes.{IsSender, MayBeHeard}
use Rattle.journal_text.specs.declared.link.Link.TheVariants.{Best, ReadRib}
use Rattle.journal_text.specs.declared.entry.Entry.TheVariants.{Inherit}
use Rattle.std.specs.Prelude.{[], ◌∷◌}
use Rattle.fanout_queue.specs.Queues.{AllBelowRead}
use Rattle.exit_side.specs.Exits.{with_queue, chain_at as exit_at, IsExits}
use Rattle.exit_side.specs.Steps.{BeginsExit}
use Rattle.router_moments.specs.Bests.{all_at, best_entries, own_entries, DecidesOn, Queues}
use Rattle.router_moments.specs.Moments.{Moment, own_of, most_unread, with_chains, with_hops, with_rib, with_tree, with_exits, rules_to, router_links, bound_of, Gives}
use Rattle.live_state.specs.Lives.{LiveState, LiveAfter, live_fed, heard, ended, interior_lost}
use Rattle.router_moments.specs.Lives.{live_state}
use Rattle.router_moments.specs.Stands.{Stands}
use Rattle.router_moments.specs.Printable.{IsHeard}
use Rattle.router_moments.specs.Refreshes.{ServesOn}
use Rattle.router_moments.specs.Scratch.{IsExact}
use Rattle.router_moments.specs.declared.tasks.Phase.{Phase}
use Rattle.router_moments.specs.declared.tasks.Phase.TheVariants as phases
use Rattle.router_moments.specs.Turns.{ResolvesOn, Invalidates, FollowsOwn, BelowInt, journal_lines, InPeers, FeedsAll, FallsRoute, phase_of, IsTurn, Turns, RunsPhase, RunsAll, has_work, phase_bound, rise_bound, IsOver, IsSettled, WeldsRoute}
use Rattle.router_moments.specs.Phases.{all_phases, counts, changes_left, earlier, left_from, is_stale_by, stale_in}
use Rattle.router_moments.specs.Blocks.{RunsFirst, Loses, Hears, Idles, IsBlock, ended as ended_moment}
use Rattle.router_moments.specs.declared.tasks.Idle.{Idle}
use Rattle.event_text.specs.Event.{Event}
use Rattle.std.specs.Option.{ForSome}
use Rattle.bgp_wire.specs.declared.message.Message.{Message}
use Rattle.bgp_wire.specs.declared.message.Message.TheVariants as messages
use Rattle.bgp_wire.specs.Readable.{said_of}
use Rattle.rib_tree.specs.Falls.{way_of_route}

-- these lines were pushed, and this is said of them
abbrev pub Pushes : (List Line → Type 0) → Journaled → Journaled → Type 0
Pushes P before now = (lines : List Line) × (now ≡ with_lines before lines) × P lines

-- What every step keeps: its entries lead from the old links to the new ones by the rules of the journal, this is live then, what
-- holds between two steps holds, and the peers hear what they are sent.
pub record Keeps (live_then : LiveState) (m m' : Moment) (said : List Line) : Type 0 where
  pub leads : Leads (router_links m) (entries_of said) (router_links m')
  pub live : live_state m' ≡ live_then
  pub stands : Stands m'
  pub heard : IsHeard m said m'

-- No row of a peer or of a protocol is added, live or in a deletion stage.
pub record AddsNoRows (m m' : Moment) : Type 0 where
  pub peers : rows_in m'.chains ≤ rows_in m.chains
  pub protocols : tree_count m'.tree ≤ tree_count m.tree

-- No more next hops are known than before. But a row that new rules let through to `filt.K`, or that the forwarding side reads, may name a
-- new one: so of peers no claim is made in walks of filters, nor of external rows in the forwarding side's turns.
abbrev pub KnowsNoMore : Phase → Moment → Moment → Type 0
KnowsNoMore phases.Fin m m' = external_known m'.rib ≤ external_known m.rib
KnowsNoMore phases.ReadRib m m' = known_in m'.hops ≤ known_in m.hops
KnowsNoMore other m m' = (known_in m'.hops ≤ known_in m.hops) × (external_known m'.rib ≤ external_known m.rib)

-- No next hop becomes stale: one that is, in the resolver of a peer or in the RIB's exit, was stale there before. So there are no more.
pub record NoneGoesStale (m m' : Moment) : Type 0 where
  pub peers : (k a : ℕ) → is_stale_by (resolver_at k m'.hops) a ≡ true → is_stale_by (resolver_at k m.hops) a ≡ true
  pub external : (a : ℕ) → is_stale_at (tables.get m'.rib.forwarding.known a) ≡ true → is_stale_at (tables.get m.rib.forwarding.known a) ≡ true
  pub fewer : stale_in m'.hops ≤ stale_in m.hops
  pub fewer_external : external_stale m'.rib ≤ external_stale m.rib

-- Next hops become stale with a change of `int` alone. In background work that comes of the deletion stages of protocols and of nothing
-- else: so of their phase no claim is made, and of every other one that none becomes stale.
abbrev pub MakesNoneStale : Phase → Moment → Moment → Type 0
MakesNoneStale phases.Rdel m m' = Unit {0}
MakesNoneStale other m m' = NoneGoesStale m m'

-- Background work of a phase: what is live stays, and so many turns are spent, of the phase and of an idle from that phase on. Nothing is
-- added to an earlier phase, and no row; next hops become stale in the phase of protocols' deletion stages alone; and what the slowest
-- reader hasn't taken grows by no more changes than the phase has yet to make.
pub record IsWork (phase : Phase) (turns : ℕ) (m m' : Moment) (said : List Line) : Type 0 where
  pub keeps : Keeps (live_state m) m m' said
  pub falls : counts m' phase + turns ≤ counts m phase
  pub left : left_from phase m' + turns ≤ left_from phase m
  pub earlier : AllByRecursion (λ e. counts m' e ≤ counts m e) (earlier phase)
  pub rows : AddsNoRows m m'
  pub known : KnowsNoMore phase m m'
  pub stale : MakesNoneStale phase m m'
  pub unread : most_unread m'.exits + changes_left phase m' ≤ most_unread m.exits + changes_left phase m

-- One turn of a task. Who asked for all routes again is told them in its lines, too.
pub record IsUnit (task : Task) (m m' : Moment) (said : List Line) : Type 0 where
  pub turn : IsTurn task m said m'
  pub work : IsWork (phase_of task) 1 m m' said
  pub serves : ServesOn m said m'

-- what the code tells of a turn of a task: the relation, and where there is no work, that nothing changes
abbrev pub TakesTurn : Task → Moment → Moment → Journaled → Journaled → Done → Type 0
TakesTurn task m m' before now Nothing = (has_work task m ≡ false) × (m' ≡ m) × (now ≡ before)
TakesTurn task m m' before now Taken = Gives (λ said. IsTurn task m said m') before now

-- what a turn of a task came to; where there is no work, nothing changes
abbrev pub Comes : Task → Moment → Moment → Journaled → Journaled → Done → Type 0
Comes task m m' before now Nothing = (has_work task m ≡ false) × (m' ≡ m) × (now ≡ before)
Comes task m m' before now Taken = Gives (IsUnit task m m') before now

-- at most n turns of a task, and fewer only where it then has no work
pub record AreTurns (task : Task) (n : ℕ) (m : Moment) (turns : ℕ) (m' : Moment) (said : List Line) : Type 0 where
  pub taken : Turns turns task m said m'
  pub most : turns ≤ n
  pub ended : (turns ≡ n) ⊎ (has_work task m' ≡ false)

-- a task has run to its end
pub record HasDrained (task : Task) (m : Moment) (turns : ℕ) (m' : Moment) (said : List Line) : Type 0 where
  pub taken : Turns turns task m said m'
  pub ended : has_work task m' ≡ false

-- a phase has run to its end, and no turn of it is left
pub record RunsOut (phase : Phase) (m : Moment) (turns : ℕ) (m' : Moment) (said : List Line) : Type 0 where
  pub runs : RunsPhase phase m said turns m'
  pub none : counts m' phase ≡ 0

-- A phase of an idle has run to its end.
pub record HaveDrained (phase : Phase) (m : Moment) (turns : ℕ) (m' : Moment) (said : List Line) : Type 0 where
  pub runs : RunsPhase phase m said turns m'
  pub work : IsWork phase turns m m' said
  pub most : turns ≤ phase_bound phase m
  pub rises : most_unread m'.exits ≤ most_unread m.exits + rise_bound phase m
  pub over : IsOver phase m'
  pub serves : ServesOn m said m'

-- every task has run to its end
pub record AllHaveDrained (m : Moment) (turns : ℕ) (m' : Moment) (said : List Line) : Type 0 where
  pub runs : RunsAll all_phases m said turns m'
  pub keeps : Keeps (live_state m) m m' said
  pub most : turns ≤ bound_of m
  pub rows : AddsNoRows m m'
  pub settled : IsSettled m'
  pub exact : IsExact m'

-- the peer is up
abbrev pub IsUpAt : ℕ → Moment → Type 0
IsUpAt k m = (p : DeclaredPeer) × (peer_at k m.declared.peers ≡ Some p) × (p.up ≡ true)

-- the attributes of each announcement are some that a neighbour's octets may hold
abbrev pub AreHeard : Profile → List (AddressPrefix × Option Attrs) → Type 0
AreHeard profile changes = AllByRecursion (λ c. ForSome c.1 (MayBeHeard profile)) changes

-- and so are those of an UPDATE
abbrev pub IsHeardMessage : Profile → Message → Type 0
IsHeardMessage profile (messages.Update u) = ForSome (said_of profile.second u).attrs (MayBeHeard profile)
IsHeardMessage profile other = Unit {0}

-- The prefixes of an UPDATE from peer k were announced and withdrawn, one after the other.
pub record HaveFed (k : ℕ) (changes : List (AddressPrefix × Option Attrs)) (m m' : Moment) (said : List Line) : Type 0 where
  pub feeds : FeedsAll k changes m said m'
  pub keeps : Keeps (live_fed (live_state m) k changes) m m' said

-- the same peers have exits
abbrev pub HaveSameExits : Moment → Moment → Type 0
HaveSameExits m m' = (k : ℕ) → is_some (exit_at k m'.exits) ≡ is_some (exit_at k m.exits)

-- There is room for the loss of a session in the chain of peer k.
pub record HasRoom (k : ℕ) (m room : Moment) (said : List Line) : Type 0 where
  pub there : IsSome (chain_at k m.chains)
  pub runs : RunsFirst (overdue_at k m.chains) m said room
  pub keeps : Keeps (live_state m) m room said
  pub free : overdue_at k room.chains ≡ None
  pub same : HaveSameExits m room

-- session s of the peer is up
abbrev pub IsSession : ℕ → ℕ → Moment → Type 0
IsSession k s m = (p : DeclaredPeer) × (peer_at k m.declared.peers ≡ Some p) × (p.up ≡ true) × (p.session ≡ s)

-- session s of peer k was lost
pub record HasLost (k s : ℕ) (m m' : Moment) (said : List Line) : Type 0 where
  pub loses : Loses k s m said m'
  pub keeps : Keeps (ended (live_state m) k) m m' said

-- the loss alone, where there is room
pub record Ends (k s : ℕ) (m m' : Moment) (said : List Line) : Type 0 where
  pub between : Moment
  pub loses : InPeers (LosesInward k s m.chains) m said between
  pub after : m' ≡ ended_moment between k
  pub keeps : Keeps (ended (live_state m) k) m m' said

-- an idle was answered by its bound and its turns
pub record HasIdled (m : Moment) (idle : Idle) (m' : Moment) (said : List Line) : Type 0 where
  pub idles : Idles m said idle.turns m'
  pub bound : idle.bound ≡ bound_of m
  pub keeps : Keeps (live_state m) m m' said
  pub rows : AddsNoRows m m'
  pub serves : ServesOn m said m'

-- an event was stepped, and what stands then
pub record HasStepped (m : Moment) (event : Event) (turns : ℕ) (m' : Moment) (said : List Line) : Type 0 where
  pub block : IsBlock m event said turns m'
  pub live : LiveState
  pub after : LiveAfter (live_state m) event live
  pub keeps : Keeps live m m' said

-- a message from peer k, which is up, was heard
pub record HasHeard (k : ℕ) (p : DeclaredPeer) (m : Moment) (message : Message) (m' : Moment) (said : List Line) : Type 0 where
  pub hears : Hears k p m message said m'
  pub keeps : Keeps (heard (live_state m) k message) m m' said

-- ---- next hops

-- What a fall in the chain of peer k leaves, may go on: at most the chain has an empty stage, and all that is below stands.
pub record MaySettle (k : ℕ) (m : Moment) : Type 0 where
  pub chains : IsPeersBut k m.chains
  pub there : IsSome (chain_at k m.chains)
  pub hops : IsHops m.hops
  pub resolver : IsSome (resolver_at k m.hops)
  pub agree : AllAgree m.hops m.registry
  pub small : k ≤ 64
  pub exits : IsExits m.exits

-- What follows a change on `filt.K`, what follows that on `res.K`, and behind them the stage of the peer that was emptied goes, if there is one.
pub record SettlesPeer (k : ℕ) (sent : Option (Change Route)) (m m' : Moment) (entries : List (Entry Value)) : Type 0 where
  pub resolved : List (Entry Value)
  pub passed : Option (Change Route)
  pub below : ResolvesOn k sent passed m.registry m'.registry m.hops m'.hops resolved
  pub best : List (Entry Value)
  pub decided : DecidesOn k passed (all_at (own_of m) m.chains m'.hops) best
  pub weld : List (Entry Value)
  pub welds : WeldsInward k m.chains m'.chains weld
  pub queued : Queues decided.best m.exits m'.exits
  pub lines : entries ≡ resolved ++ (best ++ weld)
  pub after : m' ≡ with_exits (with_hops (with_chains m m'.chains) m'.registry m'.hops) m'.exits

-- A change of `best`, if one came, was said, and joined the queue.
pub record JoinsQueue (best : Option (Change Route)) (m m' : Moment) (entries : List (Entry Value)) : Type 0 where
  pub lines : entries ≡ best_entries best
  pub queued : Queues best m.exits m'.exits
  pub after : m' ≡ with_exits m m'.exits

-- What follows a change that came on `res.K`, or on `red` (0), if one did: the decision, and the queue.
pub record Decides (k : ℕ) (sent : Option (Change Route)) (m m' : Moment) (entries : List (Entry Value)) : Type 0 where
  pub decided : DecidesOn k sent (all_at (own_of m) m.chains m.hops) entries
  pub queued : Queues decided.best m.exits m'.exits
  pub after : m' ≡ with_exits m m'.exits

-- ---- interior routes

-- A protocol's route at a prefix is this one from now on, or gone.
abbrev pub SetsRoute : Moment → Proto → AddressPrefix → Option Interior → List Line → Moment → Type 0
SetsRoute m proto p new said m' = FallsRoute m (fed_tree m.tree proto p new) proto p (way_of_route proto m.tree) said m'

-- there is room for a loss of the protocol
pub record HasProtocolRoom (proto : Proto) (m room : Moment) (said : List Line) : Type 0 where
  pub runs : RunsFirst (tree_overdue proto m.tree) m said room
  pub keeps : Keeps (live_state m) m room said
  pub free : tree_overdue proto room.tree ≡ None

-- the loss alone, where there is room
pub record EndsProtocol (proto : Proto) (m m' : Moment) (said : List Line) : Type 0 where
  pub lines : said ≡ journal_lines (tree_loss_entries proto m.tree)
  pub after : m' ≡ with_tree m (lost_tree proto m.tree)
  pub keeps : Keeps (interior_lost (live_state m) proto) m m' said

-- The register and its clients heard of a change of `int`.
pub record Informs (change : Change Interior) (m m' : Moment) : Type 0 where
  pub informed : Invalidates change m.registry m'.registry m.hops m'.hops m.rib m'.rib
  pub after : m' ≡ record m { registry = m'.registry; hops = m'.hops; rib = m'.rib }

-- What redistribution sent, if it sent something, was said, and what follows it.
pub record SendsOwn (own : Option (Change Route)) (m m' : Moment) (entries : List (Entry Value)) : Type 0 where
  pub best : List (Entry Value)
  pub decides : Decides 0 own m m' best
  pub lines : entries ≡ own_entries own ++ best

-- A change of `int` went on through redistribution.
pub record Redistributes (change : Change Interior) (m m' : Moment) (entries : List (Entry Value)) : Type 0 where
  pub me : Speaker
  pub local : m.declared.speaker ≡ Some me
  pub own : FollowsOwn me change m.redist m.chains m.hops (int_rows m.tree) m.exits m'.exits entries
  pub after : m' ≡ with_exits m m'.exits

-- A change of `int` may go on: what is below stands, and `local` was declared.
pub record MayFollow (m : Moment) : Type 0 where
  pub hops : IsHops m.hops
  pub rib : IsExit m.rib
  pub exits : IsExits m.exits
  pub since : IsSome m.declared.speaker

-- What follows a change that came out on `int`, if one did.
abbrev pub Follows : Option (Change Interior) → Moment → Moment → List (Entry Value) → Type 0
Follows sent m m' entries = BelowInt sent (int_rows m.tree) m m' entries

-- the same, and behind it the stage of the protocol that was emptied goes, if there is one
pub record Settles (proto : Proto) (sent : Option (Change Interior)) (m m' : Moment) (entries : List (Entry Value)) : Type 0 where
  pub followed : Moment
  pub below : List (Entry Value)
  pub below_int : BelowInt sent (int_rows m.tree) m followed below
  pub after : m' ≡ with_tree followed (welded_tree proto m.tree)
  pub lines : entries ≡ below ++ tree_weld_entries proto m.tree
  pub welds : WeldsRoute proto m.tree

-- the same, and the text of its lines
abbrev pub Turned : Proto → Option (Change Interior) → Moment → Moment → Journaled → Journaled → Done → Type 0
Turned proto sent m m' before now Nothing = ⊥
Turned proto sent m m' before now Taken = (entries : List (Entry Value)) × Settles proto sent m m' entries × (now ≡ flushed (with_entries before entries))

-- ---- what reads `best`
-- With `local` the forwarding side begins to read: `read.rib` inherits `best`.
pub record BeginsReading (m m' : Moment) (entries : List (Entry Value)) : Type 0 where
  pub reader : ℕ
  pub fresh : tables.get m.exits.queue reader ≡ None
  pub least : AllBelowRead m.exits.queue reader
  pub lines : entries ≡ Inherit ReadRib Best ∷ []
  pub after : m' ≡ record m { exits = with_queue (tables.insert m.exits.queue reader []) m.exits; reader = Some reader }

-- A change that it has read comes on `read.rib`, and goes down through the RIB's exit.
pub record Forwards (change : Change Route) (m m' : Moment) (entries : List (Entry Value)) : Type 0 where
  pub fib : Option (Change FibRow)
  pub below : List (Entry Value)
  pub external : TakesExternal change (int_rows m.tree) fib m.registry m'.registry m.rib m'.rib below
  pub lines : entries ≡ sent_entries route_value ReadRib (Some change) ++ below
  pub after : m' ≡ with_rib m m'.registry m'.rib

-- messages may be written by this speaker
abbrev pub SendsAs : Option Speaker → Profile → Type 0
SendsAs None profile = ⊥
SendsAs (Some me) profile = IsSender profile me

-- the session of a peer that was declared up begins
pub record BeginsSession (k : ℕ) (m m' : Moment) (entries : List (Entry Value)) : Type 0 where
  pub me : Speaker
  pub local : m.declared.speaker ≡ Some me
  pub peer : DeclaredPeer
  pub at : peer_at k m.declared.peers ≡ Some peer
  pub begins : BeginsExit me peer.words peer.session (rules_to k m.outgoing) m.exits m'.exits entries
  pub after : m' ≡ with_exits m m'.exits
