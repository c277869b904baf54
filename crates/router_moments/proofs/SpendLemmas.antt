-- What a turn spends, of its phase and of an idle from that phase on: where a change of `best` may come, one candidate fewer is left.
use Rattle.router_moments.proofs.Common.{sym, subst, ◌∙◌, ap, ◌≡◌, ℕ, refl, List, true, arith, false, ◌+◌, Bool, ◌≤◌, ◌<◌, not, ◌≢◌, inr, nat_lt, inl, ◌⊎◌, nat_tests, nat_cmp_total, AllByRecursion, sum_by, AddressPrefix, Attrs, Route, Speaker, Exited, OutChains, resolver_at, Resolvers, put_resolver, Chained, welded, Entry, Task, Value, sum_replaced, Rows, Candidates, IsNextCandidate, Change, is_stale_at, stale_count, Hop, route_hop, with_metric, metric_of, Resolving, passes, in_force_by, fresh_by, walk_to, Metric, Passed, Walked, chain_at, Chains, put_chain, rows_in, lost_in, Rule, redistributed, Protos, Registry, Interior, int_rows, Treed, tree_count, int_candidates, Queues, Moment, with_exits, with_hops, most_unread, with_redist, counts, beyonds, tree_beyond, fin_sends, most_of, own_sends_by, own_waiting, nh_sends, earlier, phase_of, AddsNoRows, Phase}
use Rattle.std.proofs.Common.{Option, Some, None, is_some}
use Rattle.std.specs.Option.{option_map}
use Rattle.link_region.proofs.RegionLemmas.{by_bool}
use Rattle.std.specs.FinMap as tables
use Rattle.link_change.proofs.MapLemmas.{sum_parts}
use Rattle.loss_chain.specs.Tables.{Tables, tables_count}
use Rattle.pass_core.specs.Passed.{walk_stepped, walk_of_waiting, after_walk}
use Rattle.pass_core.specs.Turns.{walked_on, IsSentAt, Walks}
use Rattle.pass_core.specs.Left.{turns_left as own_left}
use Rattle.pass_core.proofs.LeftLemmas.{walk_is_spent}
use Rattle.journal_text.specs.declared.link.Task.TheVariants.{Del, Fin}
use Rattle.nexthop_known.specs.Hops.{Hops, settled, IsMapped, IsLeastStale}
use Rattle.nexthop_known.proofs.StaleLemmas.{same_count, some_counts, none_stale}
use Rattle.nexthop_resolver.specs.Resolving.{Answers, begun}
use Rattle.nexthop_resolver.specs.Left.{is_needed, differing_count, walk_turns as hop_walk_turns, next_walk}
use Rattle.nexthop_resolver.specs.Turns.{KnownAfter, Steps, Turned as HopTurned}
use Rattle.hop_side.specs.Resolvers.{Beyonds, same_metric, left_of, left_in as hops_left_in}
use Rattle.in_chain.specs.Chains.{turns_left, waiting_turns, walk_turns}
use Rattle.loss_chain.specs.Tables.{tables_beyond as left_beyond}
use Rattle.in_chain.specs.Steps.{Turned}
use Rattle.peer_side.specs.Peers.{left_in}
use Rattle.peer_side.specs.Steps.{Nears}
use Rattle.router_moments.specs.declared.tasks.Phase.TheVariants as phases
use Rattle.router_moments.specs.Phases.{tree_lost, left_from, changes_left, sends_from_fin, sends_from_del, fin_sends_of, walk_candidates, waiting_candidates, nh_sends_of, place_candidates, next_candidates}
use Rattle.router_moments.proofs.QueueLemmas.{queue_chains}
use Rattle.router_moments.proofs.BeyondLemmas.{tree_counted}
use Rattle.router_moments.proofs.ReadingLemmas.{sent_count, queue_most, reading_less, refreshes_less}

-- ---- walks of filters: candidates, and ends
abbrev pub waiting_ends : Option (List Rule) → ℕ
waiting_ends None = 0
waiting_ends (Some rules) = 1

abbrev pub walk_ends : Option (Walked (List Rule)) → ℕ
walk_ends None = 0
walk_ends (Some w) = 1 + waiting_ends w.waiting

abbrev pub ends_of : Chained → ℕ
ends_of c = walk_ends c.filter.walk

waits : (rows x : ℕ) (o : Option (List Rule)) → x + 1 + waiting_turns rows o ≡ x + waiting_candidates rows o + (1 + waiting_ends o)
waits rows x None = omega arith
waits rows x (Some rules) = omega arith

turns_parted : (c : Chained) → turns_left c ≡ fin_sends_of c + ends_of c
turns_parted c = by_walk c.filter.walk
  where
    t : Tables Attrs
    t = c.incoming.tables

    by_walk : (o : Option (Walked (List Rule))) → walk_turns t o ≡ walk_candidates t o + walk_ends o
    by_walk None = omega arith
    by_walk (Some w) = waits (tables_count t) (left_beyond w.place t) w.waiting

abbrev pub fin_ends : Chains → ℕ
fin_ends a = sum_by ends_of (tables.values a)

left_parted : (a : Chains) → left_in a ≡ fin_sends a + fin_ends a
left_parted a = sum_parts turns_left fin_sends_of ends_of turns_parted (tables.values a)

-- a walk that is on takes a turn
stepped_ends : (walk : Option (Walked (List Rule))) (p : AddressPrefix) → walk_ends (walk_stepped walk p) ≡ walk_ends walk
stepped_ends None p = refl
stepped_ends (Some w) p = refl

begun_ends : (o : Option (List Rule)) → walk_ends (walk_of_waiting o) ≡ waiting_ends o
begun_ends None = refl
begun_ends (Some rules) = refl

finished_ends : (in_force : List Rule) (walk : Option (Walked (List Rule))) (w : Walked (List Rule)) → walk ≡ Some w → walk_ends (after_walk in_force walk).walk + 1 ≡ walk_ends walk
finished_ends in_force None w on = absurd (cc)
finished_ends in_force (Some v) w on = let same = begun_ends v.waiting in omega (arith, same)

-- where it ends, nothing is sent
none_sent : {B : Type 0} (next : Option AddressPrefix) (old new : Rows B) (sent : Option (Change B)) → IsSentAt next old new sent → next ≡ None → sent ≡ None
none_sent None old new sent is e = is.0
none_sent (Some p) old new sent is e = absurd (cc)

-- it ends and sends nothing, or goes to a candidate
pub chain_ends : (task : Task) (c less : Chained) (sent : Option (Change Route)) (fall : List (Entry Value)) → Turned c less task sent fall
    → (ends_of less ≡ ends_of c) ⊎ ((sent ≡ None) × (ends_of less + 1 ≡ ends_of c) × ((k s : ℕ) → task ≢ Del k s))
chain_ends (Del k s) c less sent fall t = inl (ap ends_of t.1.after)
chain_ends (Fin k) c less sent fall t = by_next t.1.walks.next t.1.walks.after (none_sent t.1.walks.next _ _ sent t.1.walks.changes)
  where
    by_next : (next : Option AddressPrefix) → less.filter ≡ walked_on next c.filter → (next ≡ None → sent ≡ None) → (ends_of less ≡ ends_of c) ⊎ ((sent ≡ None) × (ends_of less + 1 ≡ ends_of c) × ((k' s : ℕ) → Fin k ≢ Del k' s))
    by_next None is changes =
        let less_is : ends_of less ≡ walk_ends (walked_on None c.filter).walk = ap (λ (f : Passed (List Rule)). walk_ends f.walk) is in
        let over = finished_ends c.filter.in_force c.filter.walk t.1.walks.walk t.1.walks.on in
        inr (changes refl, omega (arith, less_is, over), λ k' s e. cc)
    by_next (Some p) is changes = inl (ap (λ (f : Passed (List Rule)). walk_ends f.walk) is ∙ stepped_ends c.filter.walk p)
chain_ends other c less sent fall t = absurd t

-- ---- what a turn of a peer's task makes of what may be sent
pub record Sends (m m' : Moment) : Type 0 where
  pub rows : rows_in m'.chains ≤ rows_in m.chains
  pub size : tables.len m'.chains ≡ tables.len m.chains
  pub exits : tables.len m'.exits.chains ≡ tables.len m.exits.chains
  pub fewer : most_unread m'.exits + (lost_in m'.chains + fin_sends m'.chains) ≤ most_unread m.exits + (lost_in m.chains + fin_sends m.chains)
  pub once : most_unread m'.exits ≤ most_unread m.exits + 1

pub few_sent : (o : Option (Change Route)) → sent_count o ≤ 1
few_sent None = omega arith
few_sent (Some c) = omega arith

pub turn_sends : (task : Task) (m : Moment) (k : ℕ) (c less : Chained) (sent best : Option (Change Route)) (fall : List (Entry Value)) (cs : Chains) (e : Exited) → chain_at k m.chains ≡ Some c → cs ≡ put_chain k (welded less) m.chains
    → Turned c less task sent fall → (sent ≡ None → best ≡ None) → Queues best m.exits e → Nears task m.chains cs → most_unread e + (lost_in cs + fin_sends cs) ≤ most_unread m.exits + (lost_in m.chains + fin_sends m.chains)
turn_sends task m k c less sent best fall cs e at put turned quiet queued near =
    let most = queue_most best m.exits e queued in
    let one = few_sent best in
    let now = left_parted cs in
    let was = left_parted m.chains in
    elim (chain_ends task c less sent fall turned) as (λ _. most_unread e + (lost_in cs + fin_sends cs) ≤ most_unread m.exits + (lost_in m.chains + fin_sends m.chains)) [
      | inl same ↦ let ends = ends_same same in let fewer = nearer task near in omega (arith, most, one, now, was, ends, fewer)
      | inr over ↦ let ends = ends_fewer over.1 in let none : sent_count best ≡ 0 = ap sent_count (quiet over.0) in let fewer = walks task over.2 near in omega (arith, most, none, now, was, ends, fewer)
    ]
  where
    replaced : fin_ends cs + ends_of c ≡ fin_ends m.chains + ends_of less
    replaced = subst (λ (x : Chains). fin_ends x + ends_of c ≡ fin_ends m.chains + ends_of less) (sym put) (sum_replaced nat_cmp_total ends_of m.chains k (welded less) c at)

    ends_same : ends_of less ≡ ends_of c → fin_ends cs ≡ fin_ends m.chains
    ends_same same = let r = replaced in omega (arith, r, same)

    ends_fewer : ends_of less + 1 ≡ ends_of c → fin_ends cs + 1 ≡ fin_ends m.chains
    ends_fewer over = let r = replaced in omega (arith, r, over)

    nearer : (t : Task) → Nears t m.chains cs → lost_in cs + left_in cs + 1 ≤ lost_in m.chains + left_in m.chains
    nearer (Del j s) n = let a = n.0 in let b = n.1 in omega (arith, a, b)
    nearer (Fin j) n = let a = n.0 in let b = n.1 in omega (arith, a, b)
    nearer other n = absurd n

    walks : (t : Task) → ((j s : ℕ) → t ≢ Del j s) → Nears t m.chains cs → lost_in cs + left_in cs + 1 ≤ lost_in m.chains + left_in m.chains
    walks t other n = nearer t n

-- what a turn of a task spends, and that it adds no row, and no more changes than it spends
abbrev pub Spent : Phase → Moment → Moment → Type 0
Spent r m m' =
    (counts m' r + 1 ≤ counts m r) × (left_from r m' + 1 ≤ left_from r m) × AllByRecursion (λ e. counts m' e ≤ counts m e) (earlier r) × AddsNoRows m m'
    × (most_unread m'.exits + changes_left r m' ≤ most_unread m.exits + changes_left r m)

-- where the chains and the tree stay, and no reader has more to read
pub same_rows : (m m' : Moment) → m'.chains ≡ m.chains → m'.tree ≡ m.tree → AddsNoRows m m'
same_rows m m' chains tree = record {
  peers = let e : rows_in m'.chains ≡ rows_in m.chains = ap rows_in chains in omega (arith, e);
  protocols = let e : tree_count m'.tree ≡ tree_count m.tree = ap tree_count tree in omega (arith, e);
}

peer_rows : (m m' : Moment) → m'.tree ≡ m.tree → Sends m m' → AddsNoRows m m'
peer_rows m m' tree s = record { peers = s.rows; protocols = let e : tree_count m'.tree ≡ tree_count m.tree = ap tree_count tree in omega (arith, e) }

same_lost : (m m' : Moment) → m'.tree ≡ m.tree → counts m' phases.Rdel ≤ counts m phases.Rdel
same_lost m m' tree = let e : tree_lost m'.tree ≡ tree_lost m.tree = ap tree_lost tree in omega (arith, e)

same_own : (m m' : Moment) → m'.tree ≡ m.tree → m'.redist ≡ m.redist → counts m' phases.Red ≤ counts m phases.Red
same_own m m' tree redist =
    let e : own_left (tree_beyond m'.tree) m'.redist ≡ own_left (tree_beyond m.tree) m.redist = ap (λ (t : Treed). own_left (tree_beyond t) m'.redist) tree ∙ ap (own_left (tree_beyond m.tree)) redist in
    omega (arith, e)

same_routes : (m m' : Moment) → m'.tree ≡ m.tree → tree_count m'.tree ≡ tree_count m.tree
same_routes m m' tree = ap tree_count tree

most_same : (m m' : Moment) → Sends m m' → most_of m' ≤ most_of m
most_same m m' s = let rows = s.rows in let size = s.size in omega (arith, rows, size)

pub peer_spends : (task : Task) (m m' : Moment) → m'.tree ≡ m.tree → m'.redist ≡ m.redist → Nears task m.chains m'.chains → Sends m m' → Spent (phase_of task) m m'
peer_spends (Del n s) m m' tree redist near sends =
    let a = near.0 in
    let b = near.1 in
    let most = most_same m m' sends in
    let fewer = sends.fewer in
    let rows = sends.rows in
    let exits = sends.exits in
    let routes = same_routes m m' tree in
    let read = reading_less (tables.len m.exits.chains) (tables.len m'.exits.chains) (most_unread m.exits) (most_unread m'.exits) (rows_in m.chains + tree_count m.tree) (rows_in m'.chains + tree_count m'.tree)
    (sends_from_del m) (sends_from_del m') (omega (arith, exits)) (omega (arith, rows, routes)) (omega (arith, fewer, rows)) in
    let again = refreshes_less m m' (omega (arith, exits)) (omega (arith, rows, routes)) in
    let once = sends.once in
    (omega (arith, a), omega (arith, a, b, most, rows, routes, read, again), (same_lost m m' tree, (same_own m m' tree redist, tt)), peer_rows m m' tree sends, omega (arith, once, a))
peer_spends (Fin n) m m' tree redist near sends =
    let a = near.0 in
    let b = near.1 in
    let most = most_same m m' sends in
    let fewer = sends.fewer in
    let rows = sends.rows in
    let exits = sends.exits in
    let routes = same_routes m m' tree in
    let read = reading_less (tables.len m.exits.chains) (tables.len m'.exits.chains) (most_unread m.exits) (most_unread m'.exits) (rows_in m.chains + tree_count m.tree) (rows_in m'.chains + tree_count m'.tree)
    (sends_from_fin m) (sends_from_fin m') (omega (arith, exits)) (omega (arith, rows, routes)) (omega (arith, fewer, rows, a)) in
    let again = refreshes_less m m' (omega (arith, exits)) (omega (arith, rows, routes)) in
    (omega (arith, b), omega (arith, b, most, rows, routes, read, again), (same_lost m m' tree, (same_own m m' tree redist, (omega (arith, a), tt))), peer_rows m m' tree sends, omega (arith, fewer, a))
peer_spends other m m' tree redist near sends = absurd near

-- ---- the walk of redistribution: each turn goes to a candidate, or ends and sends nothing
own_fewer : (t : Treed) (s s' : Passed Protos) (w : Walked Protos) (next : Option AddressPrefix) (own best : Option (Change Route)) → s.walk ≡ Some w → s' ≡ walked_on next s → IsNextCandidate (int_candidates t) w.place next → (next ≡ None → own ≡ None)
    → (own ≡ None → best ≡ None) → own_sends_by t s'.walk + sent_count best ≤ own_sends_by t s.walk
own_fewer t s s' w None own best on after least ended quiet =
    let was : own_sends_by t s.walk ≡ own_sends_by t (Some w) = ap (own_sends_by t) on in
    let is : own_sends_by t s'.walk ≡ own_sends_by t (walk_of_waiting w.waiting) = ap (λ (x : Passed Protos). own_sends_by t x.walk) after ∙ ap (λ o. own_sends_by t (after_walk s.in_force o).walk) on in
    let none : sent_count best ≡ 0 = ap sent_count (quiet (ended refl)) in
    let begun = waiting_sends w.waiting in
    omega (arith, was, is, none, begun)
  where
    waiting_sends : (o : Option Protos) → own_sends_by t (walk_of_waiting o) ≤ own_waiting (tree_beyond t None) o
    waiting_sends None = omega arith
    waiting_sends (Some on) = omega arith
own_fewer t s s' w (Some p) own best on after least ended quiet =
    let was : own_sends_by t s.walk ≡ own_sends_by t (Some w) = ap (own_sends_by t) on in
    let is : own_sends_by t s'.walk ≡ own_sends_by t (Some (record w { place = Some p })) = ap (λ (x : Passed Protos). own_sends_by t x.walk) after ∙ ap (λ o. own_sends_by t (walk_stepped o p)) on in
    let one = few_sent best in
    let fewer = (tree_counted t).fewer w.place p least in
    omega (arith, was, is, one, fewer)

pub own_spends : (me : Speaker) (m : Moment) (s : Passed Protos) (own best : Option (Change Route)) (e : Exited) → Walks (redistributed me) (int_candidates m.tree) (int_rows m.tree) m.redist s own → (own ≡ None → best ≡ None) → Queues best m.exits e
    → Spent phases.Red m (with_exits (with_redist m s) e)
own_spends me m s own best e walks quiet queued =
    let fewer = walk_is_spent (redistributed me) (int_candidates m.tree) (int_rows m.tree) (tree_beyond m.tree) m.redist s own (tree_counted m.tree) walks in
    let sends = own_fewer m.tree m.redist s walks.walk walks.next own best walks.on walks.after walks.least (none_sent walks.next _ _ own walks.changes) quiet in
    let most = queue_most best m.exits e queued in
    let exits : tables.len e.chains ≡ tables.len m.exits.chains = ap (λ (a : OutChains). tables.len a) (queue_chains m.exits e best queued) in
    let read = reading_less (tables.len m.exits.chains) (tables.len e.chains) (most_unread m.exits) (most_unread e) (rows_in m.chains + tree_count m.tree) (rows_in m.chains + tree_count m.tree)
    (own_sends_by m.tree m.redist.walk + sends_from_del m) (own_sends_by m.tree s.walk + sends_from_del m) (omega (arith, exits)) (omega arith) (omega (arith, sends, most)) in
    let again = refreshes_less m (with_exits (with_redist m s) e) (omega (arith, exits)) (omega arith) in
    (omega (arith, fewer), omega (arith, fewer, read, again), (omega arith, tt), record { peers = omega arith; protocols = omega arith }, omega (arith, sends, most))

-- ---- walks of next hops: candidates, stale ones, and ends
abbrev pub need_ends : Bool → ℕ
need_ends true = 1
need_ends false = 0

abbrev pub place_ends : Option (Option AddressPrefix) → ℕ
place_ends None = 0
place_ends (Some place) = 1

abbrev pub hop_ends : Resolving Metric → ℕ
hop_ends s = place_ends s.walk + stale_count s.known + need_ends (is_needed (is_some s.walk) (stale_count s.known) (differing_count same_metric s.known))

few_needed : (b : Bool) → need_ends b ≤ 1
few_needed true = omega arith
few_needed false = omega arith

module _ (beyond : Option AddressPrefix → ℕ) where
  place_parted : (o : Option (Option AddressPrefix)) → hop_walk_turns beyond o ≡ place_candidates beyond o + place_ends o
  place_parted None = omega arith
  place_parted (Some place) = omega arith

  next_parted : (b : Bool) → next_walk beyond b ≡ next_candidates beyond b + need_ends b
  next_parted true = omega arith
  next_parted false = omega arith

hops_parted : (b : Beyonds) (s : Resolving Metric) → left_of b s ≡ nh_sends_of b s + hop_ends s
hops_parted b s =
    let place = place_parted (b s.client) s.walk in
    let next = next_parted (b s.client) (is_needed (is_some s.walk) (stale_count s.known) (differing_count same_metric s.known)) in
    omega (arith, place, next)

abbrev pub nh_ends : Resolvers → ℕ
nh_ends a = sum_by hop_ends (tables.values a)

nh_parted : (b : Beyonds) (a : Resolvers) → hops_left_in b a ≡ nh_sends b a + nh_ends a
nh_parted b a = sum_parts (left_of b) (nh_sends_of b) hop_ends (hops_parted b) (tables.values a)

settled_stale : (o : Option (Hop Metric)) → is_stale_at (option_map settled o) ≡ is_stale_at o
settled_stale None = refl
settled_stale (Some h) = refl

as_many_stale : (old new : Hops Metric) → IsMapped settled old new → stale_count new ≡ stale_count old
as_many_stale old new mapped = same_count is_stale_at old new refl (λ a. ap (λ o. is_stale_at o) (mapped a) ∙ settled_stale (tables.get old a))

-- a walk that is on, seen in the answers
on_at : (fresh : Answers Metric) (walk : Option (Option AddressPrefix)) (w : Walked (Answers Metric)) → walk_to fresh walk ≡ Some w → (place : Option AddressPrefix) × (walk ≡ Some place) × (w.waiting ≡ None)
on_at fresh None w on = absurd (cc)
on_at fresh (Some place) w on = let same : record { next = fresh; place = place; waiting = None } ≡ w = cc in (place, refl, ap (λ (x : Walked (Answers Metric)). x.waiting) (sym same))

off_at : (fresh : Answers Metric) (walk : Option (Option AddressPrefix)) → walk_to fresh walk ≡ None → walk ≡ None
off_at fresh None off = refl
off_at fresh (Some place) off = absurd (cc)

ends_more : (stale stale' differing : ℕ) → stale' ≡ stale → need_ends (nat_lt 0 stale) ≤ need_ends (nat_lt 0 (stale' + differing))
ends_more stale stale' differing same = by_bool (nat_lt 0 stale) (λ b. need_ends b ≤ need_ends (nat_lt 0 (stale' + differing)))
    (λ e. let more : nat_lt 0 (stale' + differing) ≡ true = (let lt : 0 < stale = grind (arith, nat_tests) in let lt' : 0 < stale' + differing = omega (arith, lt, same) in grind (arith, nat_tests)) in subst (λ b. 1 ≤ need_ends b) (sym more) (omega arith))
    (λ _. omega arith)

-- where one is asked for again, no walk is on, before and after, and one was to come
asked_sends : (b : Beyonds) (old new : Resolving Metric) (a : ℕ) → old.walk ≡ None → new.walk ≡ None → new.client ≡ old.client → IsLeastStale (tables.get old.known) (Some a) → nh_sends_of b new ≤ nh_sends_of b old
asked_sends b old new a off still client least =
    let some = some_counts is_stale_at old.known a refl (ap (λ o. is_stale_at o) least.0.1 ∙ ap (λ c. not (is_some c)) least.0.2) in
    let due : nat_lt 0 (stale_count old.known + differing_count same_metric old.known) ≡ true = (let lt : 0 < stale_count old.known + differing_count same_metric old.known = omega (arith, some) in grind (arith, nat_tests)) in
    let was : nh_sends_of b old ≡ 0 + next_candidates (b old.client) (nat_lt 0 (stale_count old.known + differing_count same_metric old.known)) =
    ap (λ w. place_candidates (b old.client) w + next_candidates (b old.client) (is_needed (is_some w) (stale_count old.known) (differing_count same_metric old.known))) off in
    let all : next_candidates (b old.client) (nat_lt 0 (stale_count old.known + differing_count same_metric old.known)) ≡ b old.client None = ap (next_candidates (b old.client)) due in
    let is : nh_sends_of b new ≡ 0 + next_candidates (b new.client) (nat_lt 0 (stale_count new.known + differing_count same_metric new.known)) =
    ap (λ w. place_candidates (b new.client) w + next_candidates (b new.client) (is_needed (is_some w) (stale_count new.known) (differing_count same_metric new.known))) still in
    let most = at_most (b new.client) (nat_lt 0 (stale_count new.known + differing_count same_metric new.known)) in
    let same : b new.client None ≡ b old.client None = ap (λ (k : ℕ). b k None) client in
    omega (arith, was, all, is, most, same)
  where
    at_most : (beyond : Option AddressPrefix → ℕ) (needed : Bool) → next_candidates beyond needed ≤ beyond None
    at_most beyond true = omega arith
    at_most beyond false = omega arith

-- a turn goes to a candidate, or sends nothing: then it ends a walk, or asks for a next hop again
abbrev TurnEnds : Resolving Metric → Resolving Metric → Option (Change Route) → Type 0
TurnEnds old new sent = (hop_ends old ≤ hop_ends new) ⊎ (((sent ≡ None) × (hop_ends old ≤ hop_ends new + 1)) ⊎ ((sent ≡ None) × ((b : Beyonds) → nh_sends_of b new ≤ nh_sends_of b old)))

module _ (candidates : Candidates) (upper : Rows Route) where
  -- a step of a walk
  step_ends : (old new : Resolving Metric) (sent : Option (Change Route)) → Steps route_hop with_metric candidates upper old new sent → (hop_ends old ≤ hop_ends new) ⊎ ((sent ≡ None) × (hop_ends old ≤ hop_ends new + 1))
  step_ends old new sent s = by_next s.walks.next s.walks.after (none_sent s.walks.next _ _ sent s.walks.changes)
    where
      was : (place : Option AddressPrefix) × (old.walk ≡ Some place) × (s.walks.walk.waiting ≡ None)
      was = on_at (fresh_by old.known) old.walk s.walks.walk s.walks.on

      old_ends : hop_ends old ≡ 1 + stale_count old.known + need_ends (nat_lt 0 (stale_count old.known))
      old_ends = ap (λ w. place_ends w + stale_count old.known + need_ends (is_needed (is_some w) (stale_count old.known) (differing_count same_metric old.known))) was.1

      by_next : (next : Option AddressPrefix) → passes new ≡ walked_on next (passes old) → (next ≡ None → sent ≡ None) → (hop_ends old ≤ hop_ends new) ⊎ ((sent ≡ None) × (hop_ends old ≤ hop_ends new + 1))
      by_next None is changes =
          let over : walk_to (fresh_by new.known) new.walk ≡ None = ap (λ (x : Passed (Answers Metric)). x.walk) is ∙ ap (λ (o : Option (Walked (Answers Metric))). (after_walk (in_force_by old.known) o).walk) s.walks.on ∙ ap walk_of_waiting was.2 in
          let off = off_at (fresh_by new.known) new.walk over in
          let known = as_many_stale old.known new.known (subst (λ w. KnownAfter w old.known new.known) off s.known) in
          let new_ends : hop_ends new ≡ 0 + stale_count new.known + need_ends (nat_lt 0 (stale_count new.known + differing_count same_metric new.known)) = ap (λ w. place_ends w + stale_count new.known + need_ends (is_needed (is_some w) (stale_count new.known) (differing_count same_metric new.known))) off in
          let more = ends_more (stale_count old.known) (stale_count new.known) (differing_count same_metric new.known) known in
          let was_ends = old_ends in
          inr (changes refl, omega (arith, was_ends, new_ends, more, known))
      by_next (Some p) is changes =
          let on : walk_to (fresh_by new.known) new.walk ≡ walk_stepped (Some s.walks.walk) p = ap (λ (x : Passed (Answers Metric)). x.walk) is ∙ ap (λ o. walk_stepped o p) s.walks.on in
          let now = on_at (fresh_by new.known) new.walk (record s.walks.walk { place = Some p }) on in
          let known : new.known ≡ old.known = subst (λ w. KnownAfter w old.known new.known) now.1 s.known in
          let new_ends : hop_ends new ≡ 1 + stale_count new.known + need_ends (nat_lt 0 (stale_count new.known)) = ap (λ w. place_ends w + stale_count new.known + need_ends (is_needed (is_some w) (stale_count new.known) (differing_count same_metric new.known))) now.1 in
          let same : need_ends (nat_lt 0 (stale_count new.known)) ≡ need_ends (nat_lt 0 (stale_count old.known)) = ap (λ (h : Hops Metric). need_ends (nat_lt 0 (stale_count h))) known in
          let stale : stale_count new.known ≡ stale_count old.known = ap (λ (h : Hops Metric). stale_count h) known in
          let was_ends = old_ends in
          inl (omega (arith, was_ends, new_ends, same, stale))

  -- where none is on and none is stale, one end at most is left
  off_ends : (old : Resolving Metric) → old.walk ≡ None → stale_count old.known ≡ 0 → hop_ends old ≤ 1
  off_ends old off fresh =
      let few = few_needed (is_needed (is_some old.walk) (stale_count old.known) (differing_count same_metric old.known)) in
      let none : place_ends old.walk ≡ 0 = ap place_ends off in
      omega (arith, few, none, fresh)

  turn_ends : (was is : Registry Interior) (old new : Resolving Metric) (sent : Option (Change Route)) → HopTurned route_hop with_metric candidates upper metric_of was is old new sent → TurnEnds old new sent
  turn_ends was is old new sent (inl goes) = elim (step_ends old new sent goes.steps) as (λ _. TurnEnds old new sent) [ inl more ↦ inl more | inr over ↦ inr (inl over) ]
  turn_ends was is old new sent (inr (inl asks)) = inr (inr (asks.none_sent, λ b. asked_sends b old new asks.next_hop asks.off asks.walk asks.client asks.least))
  turn_ends was is old new sent (inr (inr begins)) = by_next begins.steps.walks.next begins.steps.walks.after (none_sent begins.steps.walks.next _ _ sent begins.steps.walks.changes)
    where
      few : hop_ends old ≤ 1
      few = off_ends old begins.off ((none_stale old.known).0 begins.none_stale)

      by_next : (next : Option AddressPrefix) → passes new ≡ walked_on next (passes (begun old)) → (next ≡ None → sent ≡ None) → TurnEnds old new sent
      by_next None is changes = let f = few in inr (inl (changes refl, omega (arith, f)))
      by_next (Some p) is changes =
          let on : walk_to (fresh_by new.known) new.walk ≡ walk_stepped (Some begins.steps.walks.walk) p = ap (λ (x : Passed (Answers Metric)). x.walk) is ∙ ap (λ o. walk_stepped o p) begins.steps.walks.on in
          let now = on_at (fresh_by new.known) new.walk (record begins.steps.walks.walk { place = Some p }) on in
          let one : place_ends new.walk ≡ 1 = ap place_ends now.1 in
          let f = few in
          inl (omega (arith, f, one))

pub hop_spends : (m : Moment) (k : ℕ) (candidates : Candidates) (upper : Rows Route) (r : Registry Interior) (h : Resolvers) (e : Exited) (resolver taken : Resolving Metric) (sent best : Option (Change Route)) → resolver_at k m.hops ≡ Some resolver
    → HopTurned route_hop with_metric candidates upper metric_of m.registry r resolver taken sent → h ≡ put_resolver k taken m.hops → (sent ≡ None → best ≡ None) → Queues best m.exits e → hops_left_in (beyonds m.chains) h + 1 ≤ hops_left_in (beyonds m.chains) m.hops
    → Spent phases.Nh m (with_exits (with_hops m r h) e)
hop_spends m k candidates upper r h e resolver taken sent best at turned after quiet queued fewer =
    let read = reading_less (tables.len m.exits.chains) (tables.len e.chains) (most_unread m.exits) (most_unread e) (rows_in m.chains + tree_count m.tree) (rows_in m.chains + tree_count m.tree) (nh_sends (beyonds m.chains) m.hops) (nh_sends (beyonds m.chains) h) exits (omega arith) spent in
    let again = refreshes_less m (with_exits (with_hops m r h) e) exits (omega arith) in
    let sends = spent in
    (fewer, omega (arith, fewer, read, again), (omega arith, (omega arith, (omega arith, (omega arith, tt)))), record { peers = omega arith; protocols = omega arith }, sends)
  where
    exits : tables.len e.chains ≤ tables.len m.exits.chains
    exits = let same : tables.len e.chains ≡ tables.len m.exits.chains = ap (λ (a : OutChains). tables.len a) (queue_chains m.exits e best queued) in omega (arith, same)

    replaced : nh_ends h + hop_ends resolver ≡ nh_ends m.hops + hop_ends taken
    replaced = subst (λ (x : Resolvers). nh_ends x + hop_ends resolver ≡ nh_ends m.hops + hop_ends taken) (sym after) (sum_replaced nat_cmp_total hop_ends m.hops k taken resolver at)

    sends_replaced : nh_sends (beyonds m.chains) h + nh_sends_of (beyonds m.chains) resolver ≡ nh_sends (beyonds m.chains) m.hops + nh_sends_of (beyonds m.chains) taken
    sends_replaced = subst (λ (x : Resolvers). nh_sends (beyonds m.chains) x + nh_sends_of (beyonds m.chains) resolver ≡ nh_sends (beyonds m.chains) m.hops + nh_sends_of (beyonds m.chains) taken) (sym after)
        (sum_replaced nat_cmp_total (nh_sends_of (beyonds m.chains)) m.hops k taken resolver at)

    spent : most_unread e + nh_sends (beyonds m.chains) h ≤ most_unread m.exits + nh_sends (beyonds m.chains) m.hops
    spent =
        let most = queue_most best m.exits e queued in
        let one = few_sent best in
        let now = nh_parted (beyonds m.chains) h in
        let was = nh_parted (beyonds m.chains) m.hops in
        let ends = replaced in
        by_ends most one now was ends (turn_ends candidates upper m.registry r resolver taken sent turned)
      where
        by_ends : most_unread e ≤ most_unread m.exits + sent_count best → sent_count best ≤ 1 → hops_left_in (beyonds m.chains) h ≡ nh_sends (beyonds m.chains) h + nh_ends h
            → hops_left_in (beyonds m.chains) m.hops ≡ nh_sends (beyonds m.chains) m.hops + nh_ends m.hops → nh_ends h + hop_ends resolver ≡ nh_ends m.hops + hop_ends taken → TurnEnds resolver taken sent
            → most_unread e + nh_sends (beyonds m.chains) h ≤ most_unread m.exits + nh_sends (beyonds m.chains) m.hops
        by_ends most one now was ends (inl more) = omega (arith, most, one, now, was, ends, more, fewer)
        by_ends most one now was ends (inr (inl over)) = let none : sent_count best ≡ 0 = ap sent_count (quiet over.0) in let less = over.1 in omega (arith, most, none, now, was, ends, less, fewer)
        by_ends most one now was ends (inr (inr asked)) =
            let none : sent_count best ≡ 0 = ap sent_count (quiet asked.0) in
            let less = asked.1 (beyonds m.chains) in
            let sum = sends_replaced in
            omega (arith, most, none, less, sum)
