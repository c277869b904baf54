-- Turns of background work, and the falls of messages (NSDI 2005, sections 5.1 and 5.1.2).
use Rattle.std.specs.Prelude.{◌≡◌, ℕ, zero, suc, ◌+◌, ◌*◌, Bool, false, List, [], ◌∷◌, ◌++◌, map, Option, Some, None, is_some}
use Rattle.std.specs.List.{find}
use Rattle.addr4.specs.Prefixes.{AddressPrefix}
use Rattle.bgp_attr.specs.Attributes.{Attrs}
use Rattle.bgp_attr.specs.Routes.{Route}
use Rattle.link_change.specs.Changes.{IsSent}
use Rattle.link_change.specs.Changes.{Change}
use Rattle.link_change.specs.Turns.{Turn}
use Rattle.link_change.specs.declared.turn.Turn.TheVariants as turns
use Rattle.journal_text.specs.declared.link.Link.TheVariants.{ReadRib}
use Rattle.journal_text.specs.declared.link.Task.{Task}
use Rattle.journal_text.specs.declared.link.Task.TheVariants as tasks
use Rattle.journal_text.specs.Lines.{Value}
use Rattle.journal_text.specs.Lines.{Entry}
use Rattle.journal_text.specs.Lines.{Line}
use Rattle.journal_text.specs.declared.line.Line.TheVariants as lines
use Rattle.in_chain.specs.Chains.{Chained, filt_rows, filt_candidates}
use Rattle.hop_side.specs.Resolvers.{Resolvers, PeerRows, AllCounted, has_hop_work}
use Rattle.hop_side.specs.Steps.{TakesHop, TurnsBelow, ReachesBelow, KeepsAgreed, ComesOn, GoesOn, res_entries}
use Rattle.peer_side.specs.Peers.{Chains, chain_at, peer_of, has_peer_work, deletion_tasks, filter_tasks, rows_in}
use Rattle.peer_side.specs.Steps.{FeedsInward, TakesInward, WeldsInward}
use Rattle.router_moments.specs.declared.tasks.Phase.{Phase}
use Rattle.router_moments.specs.declared.tasks.Phase.TheVariants as phases
use Rattle.std.specs.FinMap as tables
use Rattle.std.specs.FinMap.{FinMap}
use Rattle.addr4.specs.Prefixes.{prefix_cmp}
use Rattle.loss_chain.specs.Covering.{IsLeastRow}
use Rattle.rib_route.specs.declared.Proto.{Proto}
use Rattle.rib_route.specs.Rows.{Interior}
use Rattle.rib_route.specs.Rows.{FibRow}
use Rattle.journal_text.specs.declared.link.Link.{Link}
use Rattle.loss_chain.specs.Steps.{table_of}
use Rattle.rib_tree.specs.Trees.{Treed, branch_of, int_rows, int_candidates, tree_count, tree_tasks, IsTree, IsFull}
use Rattle.rib_tree.specs.Steps.{welded_tree, swept_tree, tree_weld_entries, has_tree_turn}
use Rattle.rib_tree.specs.Falls.{FallsTree, way_of_sweep, LeadsTree}
use Rattle.register_interest.specs.Width.{width}
use Rattle.register_interest.specs.Interests.{Interest}
use Rattle.register_interest.specs.Interests.{AreReached, without}
use Rattle.register_interest.specs.Registers.{Registry, KeepsAnswers, put_row}
use Rattle.bgp_attr.specs.Speakers.{Speaker}
use Rattle.link_change.specs.Rows.{Rows}
use Rattle.pass_core.specs.Passed.{Passed}
use Rattle.pass_core.specs.Turns.{IsPassedOn, Walks, passed_rows}
use Rattle.redist.specs.declared.protos.Protos.{Protos}
use Rattle.redist.specs.Local.{redistributed}
use Rattle.rib_exit.specs.RibExits.{RibExit}
use Rattle.rib_exit.specs.Exits.{has_ext_work, stale_in as external_stale}
use Rattle.rib_exit.specs.Steps.{TakesExternal, TakesInterior, ReachesExit, TurnsExit as TurnsExternal}
use Rattle.fanout_queue.specs.Queues.{Takes}
use Rattle.out_chain.specs.Chains.{is_unread}
use Rattle.exit_side.specs.Exits.{Exited, with_queue, has_exit_work, has_refresh}
use Rattle.exit_side.specs.Steps.{TurnsExit, ResendsExit}
use Rattle.journal_text.specs.Values.{route_value, sent_entries}
use Rattle.router_moments.specs.Bests.{all_at, own_entries, DecidesOn, Queues}
use Rattle.router_moments.specs.Phases.{unread_if, external_beyond, stale_in, sent_in}
use Rattle.router_moments.specs.Moments.{Moment, own_of, best_of, candidates_of, most_unread, with_chains, with_hops, with_tree, with_exits, with_redist, with_rib}
use Rattle.exit_side.specs.Laws.{StaysWithQueue}

abbrev pub journal_lines : List (Entry Value) → List Line
journal_lines entries = map (λ e. lines.Journal e) entries

-- The chains of the peers changed, and nothing else: these are they then, and this is said of them and of their entries.
pub record InPeers (P : Chains → List (Entry Value) → Type 0) (m : Moment) (said : List Line) (m' : Moment) : Type 0 where
  pub chains : Chains
  pub entries : List (Entry Value)
  pub part : P chains entries
  pub lines : said ≡ journal_lines entries
  pub after : m' ≡ with_chains m chains

-- A change on `filt.K` of peer k, if one came out, goes through its resolver.
abbrev pub Resolves : ℕ → Option (Change Route) → Option (Change Route) → Registry Interior → Registry Interior → Resolvers → Resolvers → List (Entry Value) → Type 0
Resolves k None sent r r' h h' entries = (sent ≡ None) × (r' ≡ r) × (h' ≡ h)
Resolves k (Some change) sent r r' h h' entries = TakesHop k change sent r h h' entries

-- What follows a change that came out on `filt.K` of peer k, if one did: its resolver takes it in, which asks the register about a next
-- hop that came, and forgets one that no row names any more; what goes on comes on `res.K`, whatever the rows of all `filt.K` are which
-- the change leads on.
pub record ResolvesOn (k : ℕ) (sent below : Option (Change Route)) (r r' : Registry Interior) (h h' : Resolvers) (entries : List (Entry Value)) : Type 0 where
  pub lines : entries ≡ res_entries k below
  pub resolves : Resolves k sent below r r' h h' entries
  pub agreed : KeepsAgreed k r r' h h'
  pub goes : (uppers now : PeerRows) (p : AddressPrefix) → AllCounted uppers h → ComesOn k p sent uppers now → GoesOn k p below h h' entries uppers now

-- A fall in the chain of peer k, of which this is said, what follows the change on `filt.K`, what follows that on `res.K`, and behind
-- them the weld of the stage that the fall emptied, if any.
pub record FallsPeer (k : ℕ) (sent : Option (Change Route)) (P : Chains → List (Entry Value) → Type 0) (m : Moment) (said : List Line) (m' : Moment) : Type 0 where
  pub fallen : Chains
  pub entries : List (Entry Value)
  pub part : P fallen entries
  pub resolved : List (Entry Value)
  pub passed : Option (Change Route)
  pub below : ResolvesOn k sent passed m.registry m'.registry m.hops m'.hops resolved
  pub best : List (Entry Value)
  pub decided : DecidesOn k passed (all_at (own_of m) fallen m'.hops) best
  pub weld : List (Entry Value)
  pub welds : WeldsInward k fallen m'.chains weld
  pub queued : Queues decided.best m.exits m'.exits
  pub lines : said ≡ journal_lines (entries ++ (resolved ++ (best ++ weld)))
  pub after : m' ≡ with_exits (with_hops (with_chains m m'.chains) m'.registry m'.hops) m'.exits

-- One prefix of an UPDATE from peer k is announced or withdrawn.
abbrev pub Feeds : ℕ → AddressPrefix × Option Attrs → Moment → List Line → Moment → Type 0
Feeds k change m said m' = (sent : Option (Change Route)) × FallsPeer k sent (FeedsInward k change.0 change.1 sent m.chains) m said m'

-- one prefix after the other
abbrev pub FeedsAll : ℕ → List (AddressPrefix × Option Attrs) → Moment → List Line → Moment → Type 0
FeedsAll k [] m said m' = (said ≡ []) × (m' ≡ m)
FeedsAll k (c ∷ cs) m said m' =
    (first rest : List Line) × (between : Moment) × Feeds k c m first between × FeedsAll k cs between rest m' × (said ≡ first ++ rest)

-- What the register makes of a change of `int`: it has the row, and these are the interests that the change reaches, which are given
-- up; all else stays, and the answers that go with kept interests are the present ones.
pub record Registers (change : Change Interior) (reached : List Interest) (r r' : Registry Interior) : Type 0 where
  pub rows : r'.rows ≡ put_row r.rows change.prefix change.after
  pub reaches : AreReached width change.prefix (tables.get r.interests) reached
  pub interests : r'.interests ≡ without r.interests reached
  pub answers : KeepsAnswers r r'

-- What the register makes of a change of `int`, and its clients of what they hear: each of its own interests that were given up, the
-- resolvers and the RIB's exit. The answers that came with those are stale.
pub record Invalidates (change : Change Interior) (r r' : Registry Interior) (h h' : Resolvers) (x x' : RibExit) : Type 0 where
  pub reached : List Interest
  pub registers : Registers change reached r r'
  pub resolvers : ReachesBelow reached h h'
  pub external : ReachesExit reached x x'

-- What redistribution makes of a change of `int`, from whatever rows it leads: a change of `red`, if one comes, and the decision over
-- this speaker's own rows and these of all `res.K`; what comes on `best` joins the queue.
pub record FollowsOwn (me : Speaker) (change : Change Interior) (s : Passed Protos) (chains : Chains) (h : Resolvers) (int : Rows Interior) (e e' : Exited) (entries : List (Entry Value)) : Type 0 where
  pub own : Option (Change Route)
  pub passed : IsPassedOn (redistributed me) s change own
  pub best : List (Entry Value)
  pub decided : DecidesOn 0 own (all_at (passed_rows (redistributed me) s int) chains h) best
  pub queued : Queues decided.best e e'
  pub lines : entries ≡ own_entries own ++ best

-- What follows a change that came out on `int`, where it has these rows now: the register and its clients, which say nothing; then
-- redistribution and all that it causes; then `fib`.
pub record FollowsInt (change : Change Interior) (int : Rows Interior) (m m' : Moment) (entries : List (Entry Value)) : Type 0 where
  pub me : Speaker
  pub local : m.declared.speaker ≡ Some me
  pub informed : Invalidates change m.registry m'.registry m.hops m'.hops m.rib m'.rib
  pub own_lines : List (Entry Value)
  pub own : FollowsOwn me change m.redist m.chains m'.hops int m.exits m'.exits own_lines
  pub fib : Option (Change FibRow)
  pub fib_lines : List (Entry Value)
  pub forwards : TakesInterior change fib m'.rib fib_lines
  pub lines : entries ≡ own_lines ++ fib_lines

-- without a change nothing follows
abbrev pub BelowInt : Option (Change Interior) → Rows Interior → Moment → Moment → List (Entry Value) → Type 0
BelowInt None int m m' entries = (m' ≡ m) × (entries ≡ [])
BelowInt (Some change) int m m' entries =
    FollowsInt change int m m' entries × (m' ≡ record m { registry = m'.registry; hops = m'.hops; exits = m'.exits; rib = m'.rib })

-- The weld of the stage of a protocol that a change emptied, if any, is a quiet step: no row of `int` changes, and the next step finds the
-- tree as each asks for it.
pub record WeldsRoute (proto : Proto) (t : Treed) : Type 0 where
  pub leads : LeadsTree t (tree_weld_entries proto t) (welded_tree proto t)
  pub int : int_rows (welded_tree proto t) ≡ int_rows t
  pub tree : IsTree (welded_tree proto t)
  pub full : IsFull (welded_tree proto t)

-- A change of an interior route at a prefix made this of the tree: its messages go down to `int`, then all follows that is below, and
-- behind that stands the weld of the stage that it emptied, if any.
pub record FallsRoute (m : Moment) (new : Treed) (proto : Proto) (p : AddressPrefix) (way : List Link) (said : List Line) (m' : Moment) : Type 0 where
  pub sent : Option (Change Interior)
  pub entries : List (Entry Value)
  pub falls : FallsTree m.tree new p way sent entries
  pub rows : IsSent (int_rows m.tree) (int_rows new) p sent
  pub followed : Moment
  pub below : List (Entry Value)
  pub below_int : BelowInt sent (int_rows new) (with_tree m new) followed below
  pub lines : said ≡ journal_lines (entries ++ (below ++ tree_weld_entries proto new))
  pub welds : WeldsRoute proto new
  pub after : m' ≡ with_tree followed (welded_tree proto new)

-- the change that a turn sent, if it sent one
abbrev pub sent_of : {R : Type 0} → Turn R → Option (Change R)
sent_of turns.Nothing = None
sent_of turns.Quiet = None
sent_of (turns.Sent change) = Some change

-- a task of a peer's chain
abbrev pub IsOfPeers : Task → Type 0
IsOfPeers (tasks.Del k s) = Unit {0}
IsOfPeers (tasks.Fin k) = Unit {0}
IsOfPeers other = ⊥

-- One turn of a task of a peer: of the deletion stage of a session, or of the walk of a filter.
abbrev pub IsPeerTurn : Task → Moment → List Line → Moment → Type 0
IsPeerTurn task m said m' = (sent : Option (Change Route)) × FallsPeer (peer_of task) sent (TakesInward task sent m.chains) m said m'

-- One turn of the stage of a protocol's loss: its least row goes.
pub record IsRouteTurn (proto : Proto) (n : ℕ) (m : Moment) (said : List Line) (m' : Moment) : Type 0 where
  pub prefix : AddressPrefix
  pub row : Interior
  pub table : FinMap prefix_cmp Interior
  pub stands : table_of n (branch_of proto m.tree).tables.deletions ≡ Some table
  pub least : IsLeastRow (tables.get table) prefix (Some row)
  pub falls : FallsRoute m (swept_tree proto n prefix m.tree) proto prefix (way_of_sweep proto n m.tree) said m'

-- One turn of the next hops of peer k, over the rows of its `filt.K`, and what follows a change on `res.K`.
pub record IsHopTurn (k : ℕ) (m : Moment) (said : List Line) (m' : Moment) : Type 0 where
  pub chain : Chained
  pub at : chain_at k m.chains ≡ Some chain
  pub sent : Option (Change Route)
  pub entries : List (Entry Value)
  pub turn : TurnsBelow k (filt_candidates chain) (filt_rows chain) sent m.registry m'.registry m.hops m'.hops entries
  pub best : List (Entry Value)
  pub decided : DecidesOn k sent (all_at (own_of m) m.chains m'.hops) best
  pub queued : Queues decided.best m.exits m'.exits
  pub lines : said ≡ journal_lines (entries ++ best)
  pub after : m' ≡ with_exits (with_hops m m'.registry m'.hops) m'.exits

-- One turn of the exit of peer k, over the rows of `best`: what it says is its links' entries, and the UPDATE that the peer is sent.
pub record IsOutTurn (k : ℕ) (m : Moment) (said : List Line) (m' : Moment) : Type 0 where
  pub sent : Option (Change Attrs)
  pub turn : TurnsExit k (candidates_of m) (best_of m) sent m.exits m'.exits said
  pub after : m' ≡ with_exits m m'.exits

-- One turn of the refresh of peer k: the next of the rows that it was sent is said to it again, and nothing else changes (RFC 2918, section 4).
pub record IsRefreshTurn (k : ℕ) (m : Moment) (said : List Line) (m' : Moment) : Type 0 where
  pub turn : ResendsExit k m.exits m'.exits said
  pub after : m' ≡ with_exits m m'.exits

-- One turn of the forwarding side: the first change that it hasn't read comes on `read.rib`, and goes down through the RIB's exit; the
-- exits of peers stay as they were.
pub record IsReadTurn (m : Moment) (said : List Line) (m' : Moment) : Type 0 where
  pub reader : ℕ
  pub reads : m.reader ≡ Some reader
  pub change : Change Route
  pub takes : Takes m.exits.queue m'.exits.queue reader (Some change)
  pub stays : StaysWithQueue m.exits m'.exits.queue
  pub fib : Option (Change FibRow)
  pub entries : List (Entry Value)
  pub external : TakesExternal change (int_rows m.tree) fib m.registry m'.registry m.rib m'.rib entries
  pub lines : said ≡ journal_lines (sent_entries route_value ReadRib (Some change) ++ entries)
  pub after : m' ≡ with_rib (with_exits m (with_queue m'.exits.queue m.exits)) m'.registry m'.rib

-- One turn of the walk of redistribution, over the rows of `int`, and what follows a change of `red`.
pub record IsOwnTurn (m : Moment) (said : List Line) (m' : Moment) : Type 0 where
  pub me : Speaker
  pub local : m.declared.speaker ≡ Some me
  pub own : Option (Change Route)
  pub walks : Walks (redistributed me) (int_candidates m.tree) (int_rows m.tree) m.redist m'.redist own
  pub best : List (Entry Value)
  pub decided : DecidesOn 0 own (all_at (own_of m') m.chains m.hops) best
  pub queued : Queues decided.best m.exits m'.exits
  pub lines : said ≡ journal_lines (own_entries own ++ best)
  pub after : m' ≡ with_exits (with_redist m m'.redist) m'.exits

-- One turn of the next hops of external routes.
pub record IsExternalTurn (m : Moment) (said : List Line) (m' : Moment) : Type 0 where
  pub fib : Option (Change FibRow)
  pub entries : List (Entry Value)
  pub turn : TurnsExternal (int_rows m.tree) fib m.registry m'.registry m.rib m'.rib entries
  pub lines : said ≡ journal_lines entries
  pub after : m' ≡ with_rib m m'.registry m'.rib

-- one turn of a task
abbrev pub IsTurn : Task → Moment → List Line → Moment → Type 0
IsTurn (tasks.Del k s) m said m' = IsPeerTurn (tasks.Del k s) m said m'
IsTurn (tasks.Fin k) m said m' = IsPeerTurn (tasks.Fin k) m said m'
IsTurn (tasks.Nh k) m said m' = IsHopTurn k m said m'
IsTurn tasks.ReadRib m said m' = IsReadTurn m said m'
IsTurn (tasks.Out k) m said m' = IsOutTurn k m said m'
IsTurn (tasks.Rdel proto n) m said m' = IsRouteTurn proto n m said m'
IsTurn tasks.Red m said m' = IsOwnTurn m said m'
IsTurn tasks.Ext m said m' = IsExternalTurn m said m'
IsTurn (tasks.Ref k) m said m' = IsRefreshTurn k m said m'

-- whether a task has work
abbrev pub has_work : Task → Moment → Bool
has_work (tasks.Del k s) m = has_peer_work m.chains (tasks.Del k s)
has_work (tasks.Fin k) m = has_peer_work m.chains (tasks.Fin k)
has_work (tasks.Nh k) m = has_hop_work m.hops k
has_work tasks.ReadRib m = is_unread (unread_if m.exits.queue m.reader)
has_work (tasks.Out k) m = has_exit_work m.exits k
has_work (tasks.Rdel proto n) m = has_tree_turn m.tree (tasks.Rdel proto n)
has_work tasks.Red m = is_some m.redist.walk
has_work tasks.Ext m = has_ext_work m.rib
has_work (tasks.Ref k) m = has_refresh m.exits k

-- so many turns of a task
abbrev pub Turns : ℕ → Task → Moment → List Line → Moment → Type 0
Turns zero task m said m' = (said ≡ []) × (m' ≡ m)
Turns (suc n) task m said m' =
    (first rest : List Line) × (between : Moment) × IsTurn task m first between × Turns n task between rest m' × (said ≡ first ++ rest)

-- a task to its end
abbrev pub Drains : Task → Moment → List Line → ℕ → Moment → Type 0
Drains task m said turns m' = Turns turns task m said m' × (has_work task m' ≡ false)

-- ---- the tables: a line for each task, and for each phase

abbrev pub phase_of : Task → Phase
phase_of (tasks.Rdel proto n) = phases.Rdel
phase_of tasks.Red = phases.Red
phase_of (tasks.Del k s) = phases.Del
phase_of (tasks.Fin k) = phases.Fin
phase_of (tasks.Nh k) = phases.Nh
phase_of tasks.ReadRib = phases.ReadRib
phase_of (tasks.Out k) = phases.Out
phase_of tasks.Ext = phases.Ext
phase_of (tasks.Ref k) = phases.Ref

-- the tasks of a phase of an idle, in their order
abbrev pub phase_tasks : Phase → Moment → List Task
phase_tasks phases.Rdel m = tree_tasks m.tree
phase_tasks phases.Red m = tasks.Red ∷ []
phase_tasks phases.Del m = deletion_tasks m.chains
phase_tasks phases.Fin m = filter_tasks m.chains
phase_tasks phases.Nh m = map (λ k. tasks.Nh k) (tables.keys m.hops)
phase_tasks phases.ReadRib m = tasks.ReadRib ∷ []
phase_tasks phases.Out m = map (λ k. tasks.Out k) (tables.keys m.exits.chains)
phase_tasks phases.Ext m = tasks.Ext ∷ []
phase_tasks phases.Ref m = map (λ k. tasks.Ref k) (tables.keys m.exits.chains)

-- how many turns a phase takes at most
abbrev pub phase_bound : Phase → Moment → ℕ
phase_bound phases.Rdel m = tree_count m.tree
phase_bound phases.Red m = 2 * (tree_count m.tree + 1)
phase_bound phases.Del m = rows_in m.chains
phase_bound phases.Fin m = 2 * (rows_in m.chains + tables.len m.chains)
phase_bound phases.Nh m = stale_in m.hops + 2 * (rows_in m.chains + tables.len m.chains)
phase_bound phases.ReadRib m = most_unread m.exits
phase_bound phases.Out m = tables.len m.exits.chains * (most_unread m.exits + 2 * (rows_in m.chains + tree_count m.tree + 1))
phase_bound phases.Ext m = external_stale m.rib + 2 * (external_beyond m.rib None + 1)
phase_bound phases.Ref m = sent_in m.exits

-- by how much the most changes that a reader hasn't taken rise in a phase at most
abbrev pub rise_bound : Phase → Moment → ℕ
rise_bound phases.Rdel m = tree_count m.tree
rise_bound phases.Red m = 2 * tree_count m.tree
rise_bound phases.Del m = rows_in m.chains
rise_bound phases.Fin m = 2 * rows_in m.chains
rise_bound phases.Nh m = 2 * rows_in m.chains
rise_bound other m = 0

-- no stage of the phase stands, no walk of it is on, and no next hop has work
abbrev pub IsOver : Phase → Moment → Type 0
IsOver phases.Rdel m = (proto : Proto) → (branch_of proto m.tree).tables.deletions ≡ []
IsOver phases.Red m = m.redist.walk ≡ None
IsOver phases.Del m = (k : ℕ) (c : Chained) → chain_at k m.chains ≡ Some c → c.incoming.tables.deletions ≡ []
IsOver phases.Fin m = (k : ℕ) (c : Chained) → chain_at k m.chains ≡ Some c → c.filter.walk ≡ None
IsOver phases.Nh m = (k : ℕ) → has_hop_work m.hops k ≡ false
IsOver phases.ReadRib m = unread_if m.exits.queue m.reader ≡ []
IsOver phases.Out m = (k : ℕ) → has_exit_work m.exits k ≡ false
IsOver phases.Ext m = has_ext_work m.rib ≡ false
IsOver phases.Ref m = (k : ℕ) → has_refresh m.exits k ≡ false

-- ---- the same for any table

-- the first task of a phase that has work
abbrev pub next_task : Phase → Moment → Option Task
next_task phase m = find (λ task. has_work task m) (phase_tasks phase m)

-- So many tasks of a phase one after the other, each to its end: always the first that has work.
abbrev pub Runs : Phase → ℕ → Moment → List Line → ℕ → Moment → Type 0
Runs phase zero m said turns m' = (said ≡ []) × (turns ≡ 0) × (m' ≡ m)
Runs phase (suc n) m said turns m' =
    (first last : List Line) × (a b : ℕ) × (between : Moment) × Runs phase n m first a between
    × ((task : Task) × (next_task phase between ≡ Some task) × Drains task between last b m') × (said ≡ first ++ last) × (turns ≡ a + b)

-- a phase to its end: until none of its tasks has work
pub record RunsPhase (phase : Phase) (m : Moment) (said : List Line) (turns : ℕ) (m' : Moment) : Type 0 where
  pub count : ℕ
  pub runs : Runs phase count m said turns m'
  pub none : next_task phase m' ≡ None

-- one phase after the other, each to its end
abbrev pub RunsAll : List Phase → Moment → List Line → ℕ → Moment → Type 0
RunsAll [] m said turns m' = (said ≡ []) × (turns ≡ 0) × (m' ≡ m)
RunsAll (phase ∷ later) m said turns m' =
    (first rest : List Line) × (a b : ℕ) × (between : Moment) × RunsPhase phase m first a between × RunsAll later between rest b m'
    × (said ≡ first ++ rest) × (turns ≡ a + b)

-- no task has work
abbrev pub IsSettled : Moment → Type 0
IsSettled m = (phase : Phase) → IsOver phase m
