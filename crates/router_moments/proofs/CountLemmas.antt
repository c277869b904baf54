-- How many turns are left, by the table of phases: what a turn makes of it, and what is over.
use Rattle.router_moments.proofs.Common.{sym, ◌∙◌, ap, ◌≡◌, ℕ, refl, List, arith, false, ◌+◌, ◌≤◌, ◌*◌, nat_cmp_total, AllByRecursion, AddressPrefix, Route, Exited, OutChains, OutChained, unread_or_none, Chained, Change, LiveState, no_table, Passed, Walked, Chains, rows_in, lost_in, Protos, Proto, Connected, Static, Ospf, Rip, Treed, branch_of, tree_count, int_candidates, Queues, live_state, Moment, best_of, candidates_of, most_unread, counts, all_phases, beyonds, unread_if, tree_beyond, external_beyond, fin_sends, best_beyond, own_sends, own_sends_by, own_waiting, Stands, Phase}
use Rattle.std.proofs.Common.{[], ◌∷◌, length, Option, None, Some, is_some}
use Rattle.std.specs.FinMap as tables
use Rattle.loss_chain.specs.Tables.{lost_count}
use Rattle.in_chain.specs.Chains.{turns_left, walk_turns}
use Rattle.in_chain.specs.Laws.{TurnsAreBounded, TurnsAreLeft}
use Rattle.link_region.proofs.RegionLemmas.{by_bool}
use Rattle.peer_side.specs.Peers.{lost_of, left_in}
use Rattle.peer_side.proofs.CountLemmas.{left_below, lost_below}
use Rattle.rib_exit.proofs.BusyLemmas.{none_left_without_work as external_idle, turns_are_bounded as external_bounded}
use Rattle.pass_core.specs.Left.{turns_left as own_left, walk_turns as own_turns_of}
use Rattle.pass_core.proofs.LeftLemmas.{left_is_bounded, left_while_on, left_follows}
use Rattle.rib_tree.proofs.RestLemmas.{no_rows_left}
use Rattle.router_moments.specs.declared.tasks.Phase.TheVariants.{Rdel, Red, Del, Fin, Nh, ReadRib, Out, Ext, Ref}
use Rattle.std.proofs.Math.Nat.{mul-le-mul_left}
use Rattle.link_change.proofs.MapLemmas.{sum_none, one_of_sum, all_values}
use Rattle.exit_side.specs.Exits.{has_refresh, refreshes_left, refreshing}
use Rattle.exit_side.proofs.LawLemmas.{turns_bounded, none_left_without_work as exits_idle}
use Rattle.exit_side.proofs.RefreshLemmas.{none_left_without_refresh as refreshes_idle, standing_are_chains}
use Rattle.out_chain.specs.Chains.{refresh_left, left_on}
use Rattle.router_moments.specs.Phases.{tree_lost, changes_left, sends_from_red}
use Rattle.router_moments.specs.Turns.{phase_bound, rise_bound, IsOver}
use Rattle.router_moments.proofs.BeyondLemmas.{tree_counted, tree_within, external_counted}
use Rattle.router_moments.proofs.QueueLemmas.{queue_chains}
use Rattle.router_moments.proofs.ReadingLemmas.{unread_most, most_unread_is, best_counted, beyond_within, queue_most, reading_less, refreshes_less}
use Rattle.router_moments.proofs.SpendLemmas.{Spent, few_sent}
use Rattle.router_moments.proofs.MostLemmas.{left_below as hops_below, walks_below, sends_below, own_sends_below, fin_sends_below, refreshes_below}
use Rattle.hop_side.proofs.LawLemmas.{none_left_without_work}

-- what holds of each phase in the list of an idle holds of any
pub each_phase : (P : Phase → Type 0) → AllByRecursion P all_phases → (r : Phase) → P r
each_phase P all Rdel = all.0
each_phase P all Red = all.1.0
each_phase P all Del = all.1.1.0
each_phase P all Fin = all.1.1.1.0
each_phase P all Nh = all.1.1.1.1.0
each_phase P all ReadRib = all.1.1.1.1.1.0
each_phase P all Out = all.1.1.1.1.1.1.0
each_phase P all Ext = all.1.1.1.1.1.1.1.0
each_phase P all Ref = all.1.1.1.1.1.1.1.1.0

-- ---- what a turn spends of the stage of a protocol's loss
-- the walk of redistribution has no more candidates
own_sends_less : (t t' : Treed) (walk : Option (Walked Protos)) → ((place : Option AddressPrefix) → tree_beyond t' place ≤ tree_beyond t place) → own_sends_by t' walk ≤ own_sends_by t walk
own_sends_less t t' None less = omega arith
own_sends_less t t' (Some w) less = let here = less w.place in let later = waiting_less w.waiting in omega (arith, here, later)
  where
    waiting_less : (o : Option Protos) → own_waiting (tree_beyond t' None) o ≤ own_waiting (tree_beyond t None) o
    waiting_less None = omega arith
    waiting_less (Some on) = less None

module _ (m m' : Moment) (best : Option (Change Route)) (chains : m'.chains ≡ m.chains) (redist : m'.redist ≡ m.redist) (queued : Queues best m.exits m'.exits) (live : live_state m' ≡ live_state m)
    (fewer : tree_count m'.tree + 1 ≡ tree_count m.tree) (less : (place : Option AddressPrefix) → tree_beyond m'.tree place ≤ tree_beyond m.tree place) where
  tree_same : (proto : Proto) → tables.len (branch_of proto m'.tree).tables.live ≡ tables.len (branch_of proto m.tree).tables.live
  tree_same proto = ap (λ (l : LiveState). tables.len (l.interior proto)) live

  lost_less : tree_lost m'.tree + 1 ≤ tree_lost m.tree
  lost_less = let a = tree_same Connected in let b = tree_same Static in let c = tree_same Ospf in let d = tree_same Rip in omega (arith, a, b, c, d, fewer)

  own_turns : counts m' Red ≤ counts m Red
  own_turns =
      let same : own_left (tree_beyond m'.tree) m'.redist ≡ own_left (tree_beyond m'.tree) m.redist = ap (own_left (tree_beyond m'.tree)) redist in
      let follows = left_follows (tree_beyond m.tree) (tree_beyond m'.tree) m.redist less in
      omega (arith, same, follows)

  own_sent : own_sends m' ≤ own_sends m
  own_sent =
      let same : own_sends_by m'.tree m'.redist.walk ≡ own_sends_by m'.tree m.redist.walk = ap (λ (s : Passed Protos). own_sends_by m'.tree s.walk) redist in
      let follows = own_sends_less m.tree m'.tree m.redist.walk less in
      omega (arith, same, follows)

  pub tree_spends : Spent Rdel m m'
  tree_spends =
      let lost = lost_less in
      let turns = own_turns in
      let sends = own_sent in
      let del : lost_in m'.chains ≡ lost_in m.chains = ap lost_in chains in
      let fin : left_in m'.chains ≡ left_in m.chains = ap left_in chains in
      let rows : rows_in m'.chains ≡ rows_in m.chains = ap rows_in chains in
      let size : tables.len m'.chains ≡ tables.len m.chains = ap (λ (a : Chains). tables.len a) chains in
      let filters : fin_sends m'.chains ≡ fin_sends m.chains = ap fin_sends chains in
      let exits : tables.len m'.exits.chains ≡ tables.len m.exits.chains = ap (λ (a : OutChains). tables.len a) (queue_chains m.exits m'.exits best queued) in
      let most = queue_most best m.exits m'.exits queued in
      let one = few_sent best in
      let read = reading_less (tables.len m.exits.chains) (tables.len m'.exits.chains) (most_unread m.exits) (most_unread m'.exits) (rows_in m.chains + tree_count m.tree) (rows_in m'.chains + tree_count m'.tree)
      (counts m Rdel + sends_from_red m) (counts m' Rdel + sends_from_red m') (omega (arith, exits)) (omega (arith, rows, fewer)) (omega (arith, most, one, lost, sends, del, filters, rows)) in
      let again = refreshes_less m m' (omega (arith, exits)) (omega (arith, rows, fewer)) in
      (lost, omega (arith, lost, turns, del, fin, rows, size, fewer, read, again), tt, record { peers = omega (arith, rows); protocols = omega (arith, fewer) }, omega (arith, most, one, lost))

-- ---- how many turns a phase takes at most
pub counts_below : TurnsAreBounded → (m : Moment) (r : Phase) → Stands m → counts m r ≤ phase_bound r m
counts_below law m Rdel stands = omega arith
counts_below law m Red stands = let own = left_is_bounded (int_candidates m.tree) (tree_beyond m.tree) m.redist (tree_counted m.tree) in let all = tree_within m.tree None in omega (arith, own, all)
counts_below law m Del stands = lost_below m.chains
counts_below law m Fin stands = left_below law m.chains
counts_below law m Nh stands = let left = hops_below m stands in let walks = walks_below m stands in omega (arith, left, walks)
counts_below law m ReadRib stands = by_reader m.reader
  where
    by_unread : (r : ℕ) (o : Option (List (Change Route))) → tables.get m.exits.queue r ≡ o → length (unread_or_none o) ≤ most_unread m.exits
    by_unread r None at = omega arith
    by_unread r (Some u) at = unread_most m.exits.queue r u at

    by_reader : (o : Option ℕ) → length (unread_if m.exits.queue o) ≤ most_unread m.exits
    by_reader None = omega arith
    by_reader (Some r) = by_unread r (tables.get m.exits.queue r) refl
counts_below law m Out stands =
    let low = turns_bounded (candidates_of m) (best_beyond m.chains m.tree) m.exits (most_unread m.exits) (best_counted m stands) (most_unread_is m.exits) in
    let beyond = beyond_within m.chains m.tree in
    let more = mul-le-mul_left (tables.len m.exits.chains) (within beyond) in
    omega (arith, low, more)
  where
    within : best_beyond m.chains m.tree None ≤ rows_in m.chains + tree_count m.tree → most_unread m.exits + 2 * (best_beyond m.chains m.tree None + 1) ≤ most_unread m.exits + 2 * (rows_in m.chains + tree_count m.tree + 1)
    within b = omega (arith, b)
counts_below law m Ext stands = let turns = (external_bounded m.rib (external_beyond m.rib) (external_counted m.rib).most).turns in omega (arith, turns)
counts_below law m Ref stands = refreshes_below m.exits

-- ---- how many changes of `best` a phase makes at most
pub changes_below : (m : Moment) (r : Phase) → Stands m → changes_left r m ≤ rise_bound r m
changes_below m Rdel stands = omega arith
changes_below m Red stands = own_sends_below m
changes_below m Del stands = lost_below m.chains
changes_below m Fin stands = fin_sends_below m.chains
changes_below m Nh stands = sends_below m stands
changes_below m other stands = omega arith

-- ---- a phase is over exactly where no turn of it is left
-- where no walk of a refresh is on, none of its turns is left, whatever else holds of the chain
none_left : (e : Exited) → ((k : ℕ) → has_refresh e k ≡ false) → refreshes_left e ≡ 0
none_left e over = sum_none refresh_left (tables.values e.chains) (all_values nat_cmp_total (λ (c : OutChained). refresh_left c ≡ 0) e.chains (λ k c at. off c (sym (ap refreshing at) ∙ over k)))
  where
    off : (c : OutChained) → is_some c.refresh ≡ false → refresh_left c ≡ 0
    off c none = ap (left_on c.sent) (no_table c.refresh none)

pub over_none : (r : Phase) (m : Moment) → IsOver r m → counts m r ≡ 0
over_none Rdel m over =
    let gone : (proto : Proto) → lost_count (branch_of proto m.tree).tables.deletions ≡ 0 = λ proto. ap lost_count (over proto) in
    let a = gone Connected in let b = gone Static in let c = gone Ospf in let d = gone Rip in omega (arith, a, b, c, d)
over_none Red m over = ap (own_turns_of (tree_beyond m.tree)) over
over_none Del m over = sum_none lost_of (tables.values m.chains) (all_values nat_cmp_total (λ c. lost_of c ≡ 0) m.chains (λ k c at. ap lost_count (over k c at)))
over_none Fin m over = sum_none turns_left (tables.values m.chains) (all_values nat_cmp_total (λ c. turns_left c ≡ 0) m.chains (λ k c at. ap (walk_turns c.incoming.tables) (over k c at)))
over_none Nh m over = (none_left_without_work m.hops (beyonds m.chains)).0 over
over_none ReadRib m over = ap (λ (u : List (Change Route)). length u) over
over_none Out m over = (exits_idle m.exits (best_beyond m.chains m.tree)).0 over
over_none Ext m over = (external_idle m.rib (external_beyond m.rib)).0 over
over_none Ref m over = none_left m.exits over

no_walk : TurnsAreLeft → (c : Chained) → turns_left c ≡ 0 → c.filter.walk ≡ None
no_walk law c none = no_table c.filter.walk (by_bool (is_some c.filter.walk) (λ b. b ≡ false) (λ on. absurd (let some = (law c).0 on in omega (arith, some, none))) (λ _. refl))

tree_none : (t : Treed) (proto : Proto) → tree_lost t ≡ 0 → lost_count (branch_of proto t).tables.deletions ≡ 0
tree_none t proto none = elim proto as (λ k. lost_count (branch_of k t).tables.deletions ≡ 0) [ Connected ↦ omega (arith, none) | Static ↦ omega (arith, none) | Ospf ↦ omega (arith, none) | Rip ↦ omega (arith, none) ]

no_changes : (u : List (Change Route)) → length u ≡ 0 → u ≡ []
no_changes [] none = refl
no_changes (x ∷ u) none = absurd (omega (arith, none))

pub none_over : TurnsAreLeft → (r : Phase) (m : Moment) → Stands m → counts m r ≡ 0 → IsOver r m
none_over law Rdel m stands none = λ proto. no_rows_left (branch_of proto m.tree).tables.deletions (stands.interior.full proto) (tree_none m.tree proto none)
none_over law Red m stands none =
    no_table m.redist.walk (by_bool (is_some m.redist.walk) (λ b. b ≡ false) (λ on. absurd (let some = (left_while_on (tree_beyond m.tree) m.redist).0 on in omega (arith, some, none))) (λ _. refl))
none_over law Del m stands none = λ k c at. no_rows_left c.incoming.tables.deletions (stands.peers.chains k c at).full (let part = one_of_sum nat_cmp_total lost_of m.chains k c at in omega (arith, part, none))
none_over law Fin m stands none = λ k c at. no_walk law c (let part = one_of_sum nat_cmp_total turns_left m.chains k c at in omega (arith, part, none))
none_over law Nh m stands none = (none_left_without_work m.hops (beyonds m.chains)).1 none
none_over law ReadRib m stands none = no_changes (unread_if m.exits.queue m.reader) none
none_over law Out m stands none = (exits_idle m.exits (best_beyond m.chains m.tree)).1 none
none_over law Ext m stands none = (external_idle m.rib (external_beyond m.rib)).1 none
none_over law Ref m stands none = (refreshes_idle m.exits (standing_are_chains m.exits (best_of m) stands.exits.read)).1 none
