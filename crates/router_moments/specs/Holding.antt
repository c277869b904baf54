-- Which tasks hold up a prefix: their work may keep the rows there from what the live state alone asks for (NSDI 2005, sections 5.1.1
-- and 5.1.2).
use Rattle.std.specs.Prelude.{ℕ, Bool, false, ◌||◌, List, Option, Some, None, option_map}
use Rattle.std.specs.List.{find, flat_map, list_any, range_with_len}
use Rattle.addr4.specs.Prefixes.{AddressPrefix}
use Rattle.link_change.specs.InOrder.{changed_in}
use Rattle.pass_core.specs.Turns.{row_lags}
use Rattle.nexthop_resolver.specs.Kept.{route_hop}
use Rattle.journal_text.specs.declared.link.Task.{Task}
use Rattle.journal_text.specs.declared.link.Task.TheVariants as tasks
use Rattle.peer_side.specs.Peers.{filt_at, peer_lags}
use Rattle.hop_side.specs.Resolvers.{hop_holds_up}
use Rattle.rib_tree.specs.Trees.{Treed, int_rows}
use Rattle.rib_tree.specs.Steps.{tree_lags, tree_over}
use Rattle.rib_exit.specs.Exits.{ext_lags}
use Rattle.exit_side.specs.Exits.{exit_holds_up}
use Rattle.router_moments.specs.declared.tasks.Phase.{Phase}
use Rattle.router_moments.specs.Moments.{Moment, best_of}
use Rattle.router_moments.specs.Phases.{all_phases, unread_if}
use Rattle.router_moments.specs.Turns.{phase_tasks}

-- the next hop of the row of `filt.K` at a prefix, if there is a row
abbrev pub next_hop_at : Moment → ℕ → AddressPrefix → Option ℕ
next_hop_at m k p = option_map route_hop (filt_at m.chains k p)

-- whether a test holds of what there is
abbrev pub some_so : (ℕ → Bool) → Option ℕ → Bool
some_so f None = false
some_so f (Some a) = f a

-- whether the lost table of a task has a row at a prefix that holds the next hop, if there is one
abbrev pub is_over : Treed → Task → Option ℕ → Bool
is_over t task = some_so (tree_over t task)

-- the numbers below which all peers have theirs
unfoldable pub peer_numbers : List ℕ
peer_numbers = range_with_len 0 65

-- whether it has one at a prefix that holds the next hop of a peer's row there
abbrev pub is_over_hop : Task → Moment → AddressPrefix → Bool
is_over_hop task m p = list_any (λ k. is_over m.tree task (next_hop_at m k p)) peer_numbers

-- Whether a task holds up a prefix. The deletes of a lost protocol do, where their table has the prefix, or one that holds the next hop
-- of a peer's row there, by whose metric the peer's route may be resolved; those of a lost session, where theirs has it; the walk of a
-- filter or of redistribution, where there is a row above and another function may hold there than the latest one; the next hops of a
-- peer, or of external routes, where that of the row there is stale, or its fresh answer isn't in force there; who reads `best`, where a
-- change there isn't taken, a peer's exit also where the walk of its filter has yet to come to the row that it has read. A refresh says rows again that were sent
-- already: it holds up nothing.
abbrev pub holds_up_at : Task → Moment → AddressPrefix → Bool
holds_up_at (tasks.Rdel proto n) m p = tree_lags m.tree (tasks.Rdel proto n) p || is_over_hop (tasks.Rdel proto n) m p
holds_up_at tasks.Red m p = row_lags m.redist p (int_rows m.tree p)
holds_up_at (tasks.Del k s) m p = peer_lags m.chains (tasks.Del k s) p
holds_up_at (tasks.Fin k) m p = peer_lags m.chains (tasks.Fin k) p
holds_up_at (tasks.Nh k) m p = hop_holds_up m.hops k p (next_hop_at m k p)
holds_up_at tasks.ReadRib m p = changed_in (unread_if m.exits.queue m.reader) p
holds_up_at (tasks.Out k) m p = exit_holds_up m.exits (best_of m) k p
holds_up_at tasks.Ext m p = ext_lags m.rib p
holds_up_at (tasks.Ref k) m p = false

-- the first task of a phase that holds up a prefix
abbrev pub held_in : Phase → Moment → AddressPrefix → Option Task
held_in phase m p = find (λ task. holds_up_at task m p) (phase_tasks phase m)

-- all tasks, in the order of an idle
abbrev pub idle_tasks : Moment → List Task
idle_tasks m = flat_map (λ r. phase_tasks r m) all_phases

-- the first of all tasks
abbrev pub first_held : Moment → AddressPrefix → Option Task
first_held m p = find (λ task. holds_up_at task m p) (idle_tasks m)
