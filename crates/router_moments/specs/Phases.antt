-- How many turns are left, phase by phase, and how many an idle takes from a phase on.
use Rattle.std.specs.Prelude.{ℕ, length, Option, None, Some, is_some, Bool, true, false, ◌+◌, ◌*◌, List, [], ◌∷◌, take}
use Rattle.bgp_attr.specs.Attributes.{Attrs}
use Rattle.policy_rules.specs.Rules.{Rule}
use Rattle.pass_core.specs.Passed.{Walked}
use Rattle.pass_core.specs.Left.{turns_left as own_left}
use Rattle.rib_exit.specs.RibExits.{RibExit}
use Rattle.rib_exit.specs.Exits.{left_in as external_left}
use Rattle.redist.specs.declared.protos.Protos.{Protos}
use Rattle.loss_chain.specs.Tables.{Tables, lost_count, tables_count, table_beyond, tables_beyond}
use Rattle.nexthop_known.specs.Hops.{is_stale_at, stale_count}
use Rattle.nexthop_resolver.specs.declared.rows.Metric.{Metric}
use Rattle.nexthop_resolver.specs.Resolving.{Resolving}
use Rattle.nexthop_resolver.specs.Left.{differing_count, is_needed}
use Rattle.std.specs.FinMap as tables
use Rattle.addr4.specs.Prefixes.{AddressPrefix}
use Rattle.hop_side.specs.Resolvers.{Resolvers, Beyonds, same_metric, left_in as hops_left_in}
use Rattle.in_chain.specs.Chains.{Chained, filt_beyond}
use Rattle.peer_side.specs.Peers.{Chains, chain_at, rows_in, lost_in, left_in}
use Rattle.rib_tree.specs.Trees.{Treed, tree_count}
use Rattle.router_moments.specs.declared.tasks.Phase.{Phase}
use Rattle.router_moments.specs.declared.tasks.Phase.TheVariants.{Rdel, Red, Del, Fin, Nh, ReadRib, Out, Ext, Ref}
use Rattle.router_moments.specs.Moments.{Moment, most_unread}
use Rattle.std.specs.List.{sum_by}
use Rattle.bgp_attr.specs.Routes.{Route}
use Rattle.link_change.specs.Changes.{Change}
use Rattle.fanout_queue.specs.Queues.{Queued}
use Rattle.fanout_queue.specs.Readers.{unread_by}
use Rattle.exit_side.specs.Exits.{Exited, left_in as exits_left_in, refreshes_left}

-- how many rows the stages of the protocols' losses have
abbrev pub tree_lost : Treed → ℕ
tree_lost t = lost_count t.connected.tables.deletions + (lost_count t.statics.tables.deletions + (lost_count t.ospf.tables.deletions + lost_count t.rip.tables.deletions))

-- how many rows of `in.K` lie beyond a place
abbrev pub beyond_by : Option Chained → Option AddressPrefix → ℕ
beyond_by None place = 0
beyond_by (Some c) place = filt_beyond c place

abbrev pub beyonds : Chains → Beyonds
beyonds a k = beyond_by (chain_at k a)

-- how many rows the peers that are up were sent
abbrev pub sent_in : Exited → ℕ
sent_in e = sum_by (λ c. tables.len c.sent) (tables.values e.chains)

-- ---- the table: a line for each phase

-- the phases of an idle, in their order
abbrev pub all_phases : List Phase
all_phases = Rdel ∷ Red ∷ Del ∷ Fin ∷ Nh ∷ ReadRib ∷ Out ∷ Ext ∷ Ref ∷ []

-- how many of them come before a phase
abbrev pub phase_place : Phase → ℕ
phase_place Rdel = 0
phase_place Red = 1
phase_place Del = 2
phase_place Fin = 3
phase_place Nh = 4
phase_place ReadRib = 5
phase_place Out = 6
phase_place Ext = 7
phase_place Ref = 8

-- how many changes of `best` the forwarding side hasn't read
abbrev pub unread_if : Queued Route → Option ℕ → List (Change Route)
unread_if queued None = []
unread_if queued (Some reader) = unread_by queued reader

-- how many rows of the four `org.PROTO` lie beyond a place: so many candidates of `int` there are at most
abbrev pub tree_beyond : Treed → Option AddressPrefix → ℕ
tree_beyond t place = tables_beyond place t.connected.tables + (tables_beyond place t.statics.tables + (tables_beyond place t.ospf.tables + tables_beyond place t.rip.tables))

-- how many rows of `ebgp` and `ibgp` lie beyond a place: so many candidates of `ext` there are at most
abbrev pub external_beyond : RibExit → Option AddressPrefix → ℕ
external_beyond x place = table_beyond place x.splitter.ebgp + table_beyond place x.splitter.ibgp

-- how many candidates of `best` lie beyond a place, at most: those of each peer, and those of `int`
abbrev pub best_beyond : Chains → Treed → Option AddressPrefix → ℕ
best_beyond a t place = sum_by (λ c. filt_beyond c place) (tables.values a) + tree_beyond t place

-- how many turns a phase takes, if nothing else happens
abbrev pub counts : Moment → Phase → ℕ
counts m Rdel = tree_lost m.tree
counts m Red = own_left (tree_beyond m.tree) m.redist
counts m Del = lost_in m.chains
counts m Fin = left_in m.chains
counts m Nh = hops_left_in (beyonds m.chains) m.hops
counts m ReadRib = length (unread_if m.exits.queue m.reader)
counts m Out = exits_left_in (best_beyond m.chains m.tree) m.exits
counts m Ext = external_left (external_beyond m.rib) m.rib
counts m Ref = refreshes_left m.exits

-- how many next hops of a peer are stale, and how many those of all peers are, each peer's its own
abbrev pub stale_of : Resolving Metric → ℕ
stale_of s = stale_count s.known

abbrev pub stale_in : Resolvers → ℕ
stale_in a = sum_by stale_of (tables.values a)

-- whether a next hop is stale in the resolver of a peer, which knows it then
abbrev pub is_stale_by : Option (Resolving Metric) → ℕ → Bool
is_stale_by None a = false
is_stale_by (Some s) a = is_stale_at (tables.get s.known a)

-- how many turns next hops take at most, whatever became stale: each names a row, and two whole walks of each peer may be left
abbrev pub most_of : Moment → ℕ
most_of m = 3 * rows_in m.chains + 2 * tables.len m.chains

-- ---- how many changes of `best` may come yet: no more than lost rows, and candidates that walks have yet to go to
abbrev pub waiting_candidates : ℕ → Option (List Rule) → ℕ
waiting_candidates rows None = 0
waiting_candidates rows (Some rules) = rows

abbrev pub walk_candidates : Tables Attrs → Option (Walked (List Rule)) → ℕ
walk_candidates t None = 0
walk_candidates t (Some w) = tables_beyond w.place t + waiting_candidates (tables_count t) w.waiting

-- of the walk of a filter, and of the one that waits
abbrev pub fin_sends_of : Chained → ℕ
fin_sends_of c = walk_candidates c.incoming.tables c.filter.walk

abbrev pub fin_sends : Chains → ℕ
fin_sends a = sum_by fin_sends_of (tables.values a)

abbrev pub place_candidates : (Option AddressPrefix → ℕ) → Option (Option AddressPrefix) → ℕ
place_candidates beyond None = 0
place_candidates beyond (Some place) = beyond place

abbrev pub next_candidates : (Option AddressPrefix → ℕ) → Bool → ℕ
next_candidates beyond true = beyond None
next_candidates beyond false = 0

-- of the walk of a peer's next hops, and of the one that comes next: nothing is sent where a next hop is asked for again
abbrev pub nh_sends_of : Beyonds → Resolving Metric → ℕ
nh_sends_of beyonds s =
    place_candidates (beyonds s.client) s.walk + next_candidates (beyonds s.client) (is_needed (is_some s.walk) (stale_count s.known) (differing_count same_metric s.known))

abbrev pub nh_sends : Beyonds → Resolvers → ℕ
nh_sends beyonds a = sum_by (nh_sends_of beyonds) (tables.values a)

-- ---- a line for each phase

-- how many turns all readers take at most, where so many changes of `best` may come: each change once, and two whole walks
abbrev pub reading : ℕ → ℕ → ℕ → ℕ → ℕ
reading exits unread rows sends = (1 + exits) * (unread + sends) + 2 * (exits * (rows + 1))

abbrev pub reading_of : Moment → ℕ → ℕ
reading_of m sends = reading (tables.len m.exits.chains) (most_unread m.exits) (rows_in m.chains + tree_count m.tree) sends

-- how many changes of `red` the walk of redistribution may make, and the one that waits
abbrev pub own_waiting : ℕ → Option Protos → ℕ
own_waiting rows None = 0
own_waiting rows (Some on) = rows

abbrev pub own_sends_by : Treed → Option (Walked Protos) → ℕ
own_sends_by t None = 0
own_sends_by t (Some w) = tree_beyond t w.place + own_waiting (tree_beyond t None) w.waiting

abbrev pub own_sends : Moment → ℕ
own_sends m = own_sends_by m.tree m.redist.walk

-- how many turns the task of external next hops takes at most behind all reads, whatever became stale: `ext` then has no more rows
-- than `best`, each next hop names one, and two whole walks may be left
abbrev pub external_most : Moment → ℕ
external_most m = 3 * (rows_in m.chains + tree_count m.tree) + 2

-- how many turns the tasks of refreshes take at most behind all exits: what each peer was sent then are rows of `best`
abbrev pub refresh_most : Moment → ℕ
refresh_most m = tables.len m.exits.chains * (rows_in m.chains + tree_count m.tree)

-- how many changes of `best` the phases from each on may make
abbrev pub sends_from_fin : Moment → ℕ
sends_from_fin m = fin_sends m.chains + 2 * rows_in m.chains

abbrev pub sends_from_del : Moment → ℕ
sends_from_del m = counts m Del + sends_from_fin m

abbrev pub sends_from_red : Moment → ℕ
sends_from_red m = own_sends m + sends_from_del m

-- how many changes of `best` a phase may make
abbrev pub changes_left : Phase → Moment → ℕ
changes_left Rdel m = counts m Rdel
changes_left Red m = own_sends m
changes_left Del m = counts m Del
changes_left Fin m = fin_sends m.chains
changes_left Nh m = nh_sends (beyonds m.chains) m.hops
changes_left other m = 0

-- how many turns an idle takes at most from a phase on
abbrev pub left_from : Phase → Moment → ℕ
left_from Rdel m = counts m Rdel + (counts m Red + counts m Del + counts m Fin + most_of m + reading_of m (counts m Rdel + sends_from_red m) + external_most m + refresh_most m)
left_from Red m = counts m Red + counts m Del + counts m Fin + most_of m + reading_of m (sends_from_red m) + external_most m + refresh_most m
left_from Del m = counts m Del + counts m Fin + most_of m + reading_of m (sends_from_del m) + external_most m + refresh_most m
left_from Fin m = counts m Fin + most_of m + reading_of m (sends_from_fin m) + external_most m + refresh_most m
left_from Nh m = counts m Nh + reading_of m (nh_sends (beyonds m.chains) m.hops) + external_most m + refresh_most m
left_from ReadRib m = counts m ReadRib + counts m Out + external_most m + refresh_most m
left_from Out m = counts m Out + counts m Ext + refresh_most m
left_from Ext m = counts m Ext + counts m Ref
left_from Ref m = counts m Ref

-- the phases before this one, to which its turns add nothing
abbrev pub earlier : Phase → List Phase
earlier r = take (phase_place r) all_phases
