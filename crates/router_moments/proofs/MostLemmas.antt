-- How many turns next hops take at most, whatever became stale.
use Rattle.router_moments.proofs.Common.{sym, subst, ◌∙◌, ap, ◌≡◌, ℕ, refl, List, true, arith, false, ◌+◌, Bool, ◌++◌, ◌≤◌, cond, suc, zero, not, ◌*◌, length-append, nat_cmp_total, nat_cmp-IsAntisymmetric, get-entries, Contains, sum_by, nat_cmp, eq_by_cmp, AddressPrefix, Route, Speaker, best_is_a_branchs, peer_at, DeclaredPeer, Queued, resolver_at, Resolvers, rows_by, known_in, Exited, candidates_are_counted, Chained, filt_rows, sum_replaced, rows_before, Rows, CoversRows, Change, is_stale_at, stale_count, route_hop, with_metric, Resolving, passes, Metric, OutChained, Passed, Walked, function_at, chain_at, Chains, filt_at, filt_by, put_chain, rows_in, lost_in, Rule, redistributed, Protos, ext_is_of_best, Interior, Parted, on_link, kept_rows, BgpLink, int_rows, int_candidates, tree_count, no_table, own_rows, all_at, Moment, best_of, own_of, candidates_of, read_rows_by, read_of, counts, beyonds, unread_if, tree_beyond, external_beyond, fin_sends, best_beyond, most_of, own_sends, own_sends_by, own_waiting, nh_sends, Stands, ExitsAt, StandsAt}
use Rattle.std.proofs.Common.{[], ◌∷◌, map, length, if◌then◌else◌, Option, Some, None, is_some, IsSome}
use Rattle.std.proofs.lemmas.List.Elements.{Contains-append_left, Contains-append_right}
use Rattle.std.specs.FinMap as tables
use Rattle.std.specs.FinMap.{find}
use Rattle.std.proofs.lemmas.List.Sums.{sum_by-cons, sum_by-le-sum_by}
use Rattle.nexthop_resolver.specs.Resolving.{Answers, resolved}
use Rattle.in_chain.specs.Chains.{filt_beyond, row_count}
use Rattle.loss_chain.specs.Tables.{tables_beyond as left_beyond}
use Rattle.loss_chain.proofs.BeyondLemmas.{table_within}
use Rattle.in_chain.proofs.TurnLemmas.{filtered_rows_are_few}
use Rattle.hop_side.specs.Resolvers.{known_of, left_of, walks_of, walks_in, same_metric}
use Rattle.hop_side.proofs.FewLemmas.{known_are_few}
use Rattle.peer_side.proofs.PutLemmas.{put_lost}
use Rattle.router_moments.specs.declared.tasks.Phase.TheVariants.{Nh, Out, Ext, Ref}
use Rattle.nexthop_known.proofs.StaleLemmas.{known_count}
use Rattle.nexthop_resolver.specs.Left.{is_needed, differing_count, walk_turns, next_walk}
use Rattle.router_moments.specs.Phases.{beyond_by, external_most, refresh_most, sent_in, stale_of, stale_in, nh_sends_of, place_candidates, next_candidates, fin_sends_of, walk_candidates, waiting_candidates}
use Rattle.link_change.proofs.MapLemmas.{sum_within, sums_within, values_length}
use Rattle.link_region.proofs.RegionLemmas.{by_bool}
use Rattle.rib_route.specs.Rows.{External}
use Rattle.rib_split.specs.declared.split.BgpLink.TheVariants.{Ebgp, Ibgp}
use Rattle.rib_split.specs.Splitting.{external_row}
use Rattle.rib_exit.specs.Exits.{known_in as external_known}
use Rattle.rib_exit.proofs.BusyLemmas.{turns_are_bounded as external_bounded}
use Rattle.rib_exit.proofs.FewLemmas.{known_are_few as external_are_few}
use Rattle.exit_side.specs.Exits.{chain_at as exit_at, refreshes_left}
use Rattle.exit_side.proofs.RefreshLemmas.{refreshes_bounded}
use Rattle.out_chain.specs.Chains.{refresh_left, left_on}
use Rattle.decision.specs.Branches.{best_candidates}
use Rattle.in_chain.specs.Incomings.{in_rows}
use Rattle.redist.specs.Local.{is_on, local_route}
use Rattle.std.proofs.Math.Nat.{mul-le-mul_left}
use Rattle.router_moments.specs.Bests.{lent_candidates}
use Rattle.router_moments.specs.Turns.{IsOver}
use Rattle.router_moments.proofs.KnownLemmas.{not_filtered}
use Rattle.router_moments.proofs.ReadingLemmas.{none_at, other_none, best_counted, beyond_within}
use Rattle.router_moments.proofs.BeyondLemmas.{tree_within, tree_keys, tree_length, has_tree_key, few_both, external_counted}

-- ---- next hops, and the rows of their peers
chain_by : (o : Option Chained) (p : Option (Resolving Metric)) → is_some p ≡ is_some o → IsSome p → (c : Chained) × (o ≡ Some c)
chain_by None p same some = absurd (let clash : false ≡ true = sym same ∙ some in cc)
chain_by (Some c) p same some = (c, refl)

rows_twice : (cs : List Chained) → sum_by (λ (c : Chained). 2 * row_count c) cs ≡ 2 * sum_by row_count cs
rows_twice [] = refl
rows_twice (c ∷ cs) =
    let rest = rows_twice cs in
    let one = sum_by-cons (λ (d : Chained). 2 * row_count d) c cs in
    let rows = sum_by-cons row_count c cs in
    omega (arith, rest, one, rows)

-- no more are stale than known
stale_below : (a : Resolvers) → stale_in a ≤ known_in a
stale_below a = sum_by-le-sum_by stale_of known_of (tables.values a) (λ s. known_count is_stale_at s.known)

module _ (m : Moment) (stands : Stands m) where
  chain_of : (k : ℕ) (s : Resolving Metric) → resolver_at k m.hops ≡ Some s → (c : Chained) × (chain_at k m.chains ≡ Some c)
  chain_of k s at = chain_by (chain_at k m.chains) (resolver_at k m.hops) (stands.hops.same k) (ap is_some at)

  beyond_at : (k : ℕ) (s : Resolving Metric) (c : Chained) → resolver_at k m.hops ≡ Some s → chain_at k m.chains ≡ Some c → beyonds m.chains s.client None ≤ row_count c
  beyond_at k s c at there =
      let own : beyonds m.chains s.client None ≡ filt_beyond c None = ap (λ (n : ℕ). beyond_by (chain_at n m.chains) None) (stands.hops.sound k s at).client ∙ ap (λ (o : Option Chained). beyond_by o None) there in
      let most = (candidates_are_counted c).1 in
      omega (arith, own, most)

  pub known_below : known_in m.hops ≤ rows_in m.chains
  known_below = sums_within nat_cmp_total nat_cmp-IsAntisymmetric known_of row_count m.hops m.chains (λ k s at.
      let c = chain_of k s at in
      let few = filtered_rows_are_few c.0 in
      let known = known_are_few m.hops (filt_at m.chains) k s few.0 stands.hops.sound stands.hops.counted at (λ q some. few.2 q (subst (λ (o : Option Chained). IsSome (filt_by o q)) c.1 some)) in
      let rows = few.1 in
      (c.0, c.1, omega (arith, known, rows)))

  pub walks_below : walks_in (beyonds m.chains) m.hops ≤ 2 * (rows_in m.chains + tables.len m.chains)
  walks_below =
      let each = sums_within nat_cmp_total nat_cmp-IsAntisymmetric (walks_of (beyonds m.chains)) (λ (c : Chained). 2 * (row_count c + 1)) m.hops m.chains (λ k s at.
      let c = chain_of k s at in
      let few = beyond_at k s c.0 at c.1 in
      (c.0, c.1, omega (arith, few))) in
      let all = sum_twice (tables.values m.chains) in
      let size = values_length m.chains in
      omega (arith, each, all, size)
    where
      sum_twice : (cs : List Chained) → sum_by (λ (c : Chained). 2 * (row_count c + 1)) cs ≡ 2 * (sum_by row_count cs + length cs)
      sum_twice [] = refl
      sum_twice (c ∷ cs) =
          let rest = sum_twice cs in
          let one = sum_by-cons (λ (d : Chained). 2 * (row_count d + 1)) c cs in
          let rows = sum_by-cons row_count c cs in
          omega (arith, rest, one, rows)

  most_beyond : (k : ℕ) (place : Option AddressPrefix) → beyonds m.chains k place ≤ beyonds m.chains k None
  most_beyond k place = by_chain (chain_at k m.chains)
    where
      by_chain : (o : Option Chained) → beyond_by o place ≤ beyond_by o None
      by_chain None = omega arith
      by_chain (Some c) = (candidates_are_counted c).0.most place

  -- how many changes they send
  pub sends_below : nh_sends (beyonds m.chains) m.hops ≤ 2 * rows_in m.chains
  sends_below =
      let each = sums_within nat_cmp_total nat_cmp-IsAntisymmetric (nh_sends_of (beyonds m.chains)) (λ (c : Chained). 2 * row_count c) m.hops m.chains (λ k s at.
      let c = chain_of k s at in
      let beyond = beyond_at k s c.0 at c.1 in
      let sends = one_sends s in
      (c.0, c.1, omega (arith, beyond, sends))) in
      let all = rows_twice (tables.values m.chains) in
      omega (arith, each, all)
    where
      place_within : (k : ℕ) (walk : Option (Option AddressPrefix)) → place_candidates (beyonds m.chains k) walk ≤ beyonds m.chains k None
      place_within k None = omega arith
      place_within k (Some place) = most_beyond k place

      next_within : (k : ℕ) (b : Bool) → next_candidates (beyonds m.chains k) b ≤ beyonds m.chains k None
      next_within k true = omega arith
      next_within k false = omega arith

      one_sends : (s : Resolving Metric) → nh_sends_of (beyonds m.chains) s ≤ 2 * beyonds m.chains s.client None
      one_sends s =
          let place = place_within s.client s.walk in
          let next = next_within s.client (is_needed (is_some s.walk) (stale_count s.known) (differing_count same_metric s.known)) in
          omega (arith, place, next)

  -- each stale one takes a turn, beside those of the walks
  pub left_below : counts m Nh ≤ stale_in m.hops + walks_in (beyonds m.chains) m.hops
  left_below = sum_within (left_of (beyonds m.chains)) stale_of (walks_of (beyonds m.chains)) (tables.values m.hops) (λ s.
      let walk = walk_within s.client s.walk in
      let later = later_within s.client (is_needed (is_some s.walk) (stale_count s.known) (differing_count same_metric s.known)) in
      omega (arith, walk, later))
    where
      walk_within : (k : ℕ) (walk : Option (Option AddressPrefix)) → walk_turns (beyonds m.chains k) walk ≤ beyonds m.chains k None + 1
      walk_within k None = omega arith
      walk_within k (Some place) = let most = most_beyond k place in omega (arith, most)

      later_within : (k : ℕ) (b : Bool) → next_walk (beyonds m.chains k) b ≤ beyonds m.chains k None + 1
      later_within k true = omega arith
      later_within k false = omega arith

  pub capped : counts m Nh ≤ most_of m
  capped = let left = left_below in let stale = stale_below m.hops in let known = known_below in let walks = walks_below in omega (arith, left, stale, known, walks)

-- a chain with no more lost rows, and the same live ones
pub rows_less : (m : Moment) (k : ℕ) (c c' : Chained) (cs : Chains) → chain_at k m.chains ≡ Some c → cs ≡ put_chain k c' m.chains → c'.incoming.tables.live ≡ c.incoming.tables.live → lost_in cs ≤ lost_in m.chains → rows_in cs ≤ rows_in m.chains
rows_less m k c c' cs at is live less = subst (λ (x : Chains). rows_in x ≤ rows_in m.chains) (sym is)
    (let rows = sum_replaced nat_cmp_total row_count m.chains k c' c at in
    let lost = put_lost k c c' m.chains at in
    let fewer : lost_in (put_chain k c' m.chains) ≤ lost_in m.chains = subst (λ (x : Chains). lost_in x ≤ lost_in m.chains) is less in
    let same : tables.len c'.incoming.tables.live ≡ tables.len c.incoming.tables.live = ap (λ t. tables.len t) live in
    omega (arith, rows, lost, fewer, same))

-- walks of filters have twice as many candidates left at most
fin_below : (c : Chained) → fin_sends_of c ≤ 2 * row_count c
fin_below c = by_walk c.filter.walk
  where
    most : left_beyond None c.incoming.tables ≤ row_count c
    most = (candidates_are_counted c).1

    waiting_below : (o : Option (List Rule)) → waiting_candidates (row_count c) o ≤ row_count c
    waiting_below None = omega arith
    waiting_below (Some rules) = omega arith

    by_walk : (o : Option (Walked (List Rule))) → walk_candidates c.incoming.tables o ≤ 2 * row_count c
    by_walk None = omega arith
    by_walk (Some w) =
        let here = (candidates_are_counted c).0.most w.place in
        let all = most in
        let later = waiting_below w.waiting in
        omega (arith, here, all, later)

pub fin_sends_below : (a : Chains) → fin_sends a ≤ 2 * rows_in a
fin_sends_below a =
    let each = sum_by-le-sum_by fin_sends_of (λ (c : Chained). 2 * row_count c) (tables.values a) fin_below in
    let twice = rows_twice (tables.values a) in
    omega (arith, each, twice)

-- no more peers have exits than chains
pub few_exits : (m : Moment) → Stands m → tables.len m.exits.chains ≤ tables.len m.chains
few_exits m stands =
    let all = sums_within nat_cmp_total nat_cmp-IsAntisymmetric (λ (c : OutChained). 1) (λ (c : Chained). 1) m.exits.chains m.chains (λ k c at. let d = chain_of k c at in (d.0, d.1, omega arith)) in
    let exits = ones (tables.values m.exits.chains) in
    let chains = ones (tables.values m.chains) in
    let a = values_length m.exits.chains in
    let b = values_length m.chains in
    omega (arith, all, exits, chains, a, b)
  where
    ones : {X : Type 0} (xs : List X) → sum_by (λ (x : X). 1) xs ≡ length xs
    ones [] = refl
    ones {X} (x ∷ xs) = let rest = ones xs in let one = sum_by-cons (λ (y : X). 1) x xs in omega (arith, rest, one)

    by_peer : (k : ℕ) (c : OutChained) (s : Option Speaker) (p : Option DeclaredPeer) (d : Option Chained) → ExitsAt s m.outgoing k p (Some c) → StandsAt p d → (x : Chained) × (d ≡ Some x)
    by_peer k c s p (Some x) exit there = (x, refl)
    by_peer k c s (Some q) None exit there = absurd there
    by_peer k c None None None exit there = absurd exit
    by_peer k c (Some me) None None exit there = absurd exit

    chain_of : (k : ℕ) (c : OutChained) → exit_at k m.exits ≡ Some c → (x : Chained) × (chain_at k m.chains ≡ Some x)
    chain_of k c at = by_peer k c m.declared.speaker (peer_at k m.declared.peers) (chain_at k m.chains) (subst (λ (o : Option OutChained). ExitsAt m.declared.speaker m.outgoing k (peer_at k m.declared.peers) o) at (stands.exits.sessions k)) (stands.peers.each k)

-- ---- how many changes of `red` the walk of redistribution may make
pub own_sends_below : (m : Moment) → own_sends m ≤ 2 * tree_count m.tree
own_sends_below m = by_walk m.redist.walk
  where
    by_walk : (o : Option (Walked Protos)) → own_sends_by m.tree o ≤ 2 * tree_count m.tree
    by_walk None = omega arith
    by_walk (Some w) = let here = tree_within m.tree w.place in let later = by_waiting w.waiting in omega (arith, here, later)
      where
        by_waiting : (o : Option Protos) → own_waiting (tree_beyond m.tree None) o ≤ tree_count m.tree
        by_waiting None = omega arith
        by_waiting (Some on) = tree_within m.tree None

-- ---- the prefixes that rows of `best` may have
-- where those of a peer stand
abbrev chain_keys : Chained → List AddressPrefix
chain_keys c = (filtered_rows_are_few c).0

abbrev entry_keys : List (ℕ × Chained) → List AddressPrefix
entry_keys [] = []
entry_keys (e ∷ es) = chain_keys e.1 ++ entry_keys es

entries_length : (es : List (ℕ × Chained)) → length (entry_keys es) ≤ sum_by row_count (map (λ (e : ℕ × Chained). e.1) es)
entries_length [] = omega arith
entries_length (e ∷ es) =
    let all = length-append (chain_keys e.1) (entry_keys es) in
    let few = (filtered_rows_are_few e.1).1 in
    let rest = entries_length es in
    let sum = sum_by-cons row_count e.1 (map (λ (x : ℕ × Chained). x.1) es) in
    omega (arith, all, few, rest, sum)

has_entry_key : (k : ℕ) (c : Chained) (q : AddressPrefix) (es : List (ℕ × Chained)) → find nat_cmp k es ≡ Some c → IsSome (filt_rows c q) → Contains (entry_keys es) q
has_entry_key k c q [] at there = absurd (cc)
has_entry_key k c q (e ∷ es) at there =
    by_bool (eq_by_cmp nat_cmp k e.0) (λ b. cond b (Some e.1) (find nat_cmp k es) ≡ Some c → Contains (chain_keys e.1 ++ entry_keys es) q)
    (λ _ here. let same : c ≡ e.1 = cc in Contains-append_left (chain_keys e.1) (entry_keys es) q ((filtered_rows_are_few e.1).2 q (subst (λ (d : Chained). IsSome (filt_rows d q)) same there)))
    (λ _ rest. Contains-append_right (chain_keys e.1) (entry_keys es) q (has_entry_key k c q es rest there)) at

abbrev peer_keys : Moment → List AddressPrefix
peer_keys m = entry_keys (tables.entries m.chains)

abbrev best_keys : Moment → List AddressPrefix
best_keys m = peer_keys m ++ tree_keys m.tree

keys_few : (m : Moment) → length (best_keys m) ≤ rows_in m.chains + tree_count m.tree
keys_few m =
    let all = length-append (entry_keys (tables.entries m.chains)) (tree_keys m.tree) in
    let peers = entries_length (tables.entries m.chains) in
    let own = tree_length m.tree in
    omega (arith, all, peers, own)

-- a row below is made of one above
row_there : (me : Speaker) (on : Protos) (q : AddressPrefix) (o : Option Interior) (r : Route) → redistributed me on q o ≡ Some r → IsSome o
row_there me on q None r is = absurd (cc)
row_there me on q (Some row) r is = refl

own_there : (s : Option Speaker) (redist : Passed Protos) (int : Rows Interior) (q : AddressPrefix) (r : Route) → own_rows s redist int q ≡ Some r → IsSome (int q)
own_there None redist int q r is = absurd (cc)
own_there (Some me) redist int q r is = row_there me (function_at redist q) q (int q) r is

metric_there : (f : Answers Metric) (q : AddressPrefix) (o : Option Route) (r : Route) → resolved route_hop with_metric f q o ≡ Some r → IsSome o
metric_there f q None r is = absurd (cc)
metric_there f q (Some row) r is = refl

resolved_there : (o : Option (Resolving Metric)) (upper : Rows Route) (q : AddressPrefix) (r : Route) → rows_by o upper q ≡ Some r → IsSome (upper q)
resolved_there None upper q r is = absurd (cc)
resolved_there (Some s) upper q r is = metric_there (function_at (passes s) q) q (upper q) r is

filt_there : (m : Moment) (k : ℕ) (q : AddressPrefix) → IsSome (filt_at m.chains k q) → Contains (peer_keys m) q
filt_there m k q there = by_chain (chain_at k m.chains) refl there
  where
    by_chain : (o : Option Chained) → chain_at k m.chains ≡ o → IsSome (filt_by o q) → Contains (peer_keys m) q
    by_chain None at some = absurd (let clash : false ≡ true = some in cc)
    by_chain (Some c) at some = has_entry_key k c q (tables.entries m.chains) (sym (get-entries m.chains k) ∙ at) some

branch_there : (m : Moment) (b : ℕ) (q : AddressPrefix) (r : Route) → all_at (own_of m) m.chains m.hops b q ≡ Some r → Contains (best_keys m) q
branch_there m zero q r is = Contains-append_right (peer_keys m) (tree_keys m.tree) q (has_tree_key m.tree q (own_there m.declared.speaker m.redist (int_rows m.tree) q r is))
branch_there m (suc k) q r is = Contains-append_left (peer_keys m) (tree_keys m.tree) q (filt_there m (suc k) q (resolved_there (resolver_at (suc k) m.hops) (filt_at m.chains (suc k)) q r is))

best_there : (m : Moment) (q : AddressPrefix) → IsSome (best_of m q) → Contains (best_keys m) q
best_there m q there = by_row (best_of m q) refl there
  where
    by_row : (o : Option Route) → best_of m q ≡ o → IsSome o → Contains (best_keys m) q
    by_row None is some = absurd (let clash : false ≡ true = some in cc)
    by_row (Some r) is some = let b = best_is_a_branchs (all_at (own_of m) m.chains m.hops) q r is in branch_there m b.0 q r b.2

-- ---- the external rows, of which this speaker's own routes have none
own_external : (me : Speaker) (on : Protos) (q : AddressPrefix) (o : Option Interior) (r : Route) → redistributed me on q o ≡ Some r → IsSome (external_row (Some r)) → ⊥
own_external me on q o r is there = by_bool (is_on on o) (λ b. (if b then Some (local_route me) else None) ≡ Some r → ⊥)
    (λ _ same. let none : is_some (external_row (Some r)) ≡ false = ap (λ (x : Option Route). is_some (external_row x)) (sym same) in absurd (let clash : true ≡ false = sym there ∙ none in cc))
    (λ _ none. absurd (cc)) is

none_is_own : (s : Option Speaker) (redist : Passed Protos) (int : Rows Interior) (q : AddressPrefix) (r : Route) → own_rows s redist int q ≡ Some r → IsSome (external_row (Some r)) → ⊥
none_is_own None redist int q r is there = absurd (cc)
none_is_own (Some me) redist int q r is there = own_external me (function_at redist q) q (int q) r is there

branch_peer : (m : Moment) (b : ℕ) (q : AddressPrefix) (r : Route) → all_at (own_of m) m.chains m.hops b q ≡ Some r → IsSome (external_row (Some r)) → Contains (peer_keys m) q
branch_peer m zero q r is there = absurd (none_is_own m.declared.speaker m.redist (int_rows m.tree) q r is there)
branch_peer m (suc k) q r is there = filt_there m (suc k) q (resolved_there (resolver_at (suc k) m.hops) (filt_at m.chains (suc k)) q r is)

best_peer : (m : Moment) (q : AddressPrefix) → IsSome (external_row (best_of m q)) → Contains (peer_keys m) q
best_peer m q there = by_row (best_of m q) refl there
  where
    by_row : (o : Option Route) → best_of m q ≡ o → IsSome (external_row o) → Contains (peer_keys m) q
    by_row None is some = absurd (let clash : false ≡ true = some in cc)
    by_row (Some r) is some = let b = best_is_a_branchs (all_at (own_of m) m.chains m.hops) q r is in branch_peer m b.0 q r b.2 some

-- ---- the external routes, where the forwarding side has read all of `best`
read_external : (queue : Queued Route) (reader : Option ℕ) (best : Rows Route) (q : AddressPrefix) → unread_if queue reader ≡ [] → IsSome (external_row (read_rows_by queue reader best q)) → IsSome (external_row (best q))
read_external queue None best q over there = absurd (let clash : false ≡ true = there in cc)
read_external queue (Some r) best q over there = subst (λ (u : List (Change Route)). IsSome (external_row (rows_before u best q))) over there

read_there : (queue : Queued Route) (reader : Option ℕ) (best : Rows Route) (q : AddressPrefix) → unread_if queue reader ≡ [] → IsSome (read_rows_by queue reader best q) → IsSome (best q)
read_there queue None best q over there = absurd (let clash : false ≡ true = there in cc)
read_there queue (Some r) best q over there = subst (λ (u : List (Change Route)). IsSome (rows_before u best q)) over there

external_there : (o : Option Route) → IsSome (external_row o) → IsSome o
external_there None there = there
external_there (Some r) there = refl

side_there : (side : BgpLink) (o : Option External) → IsSome (on_link side o) → IsSome o
side_there side None there = there
side_there side (Some r) there = refl

one_side : (o : Option External) → IsSome (on_link Ebgp o) → IsSome (on_link Ibgp o) → ⊥
one_side None a b = let clash : false ≡ true = a in cc
one_side (Some r) a b = elim r.internal as (λ i. IsSome {T = External} (if not i then Some r else None) → IsSome {T = External} (if i then Some r else None) → ⊥) [ true ↦ λ x _. let clash : false ≡ true = x in cc | false ↦ λ _ y. let clash : false ≡ true = y in cc ] a b

module _ (m : Moment) (stands : Stands m) (over : unread_if m.exits.queue m.reader ≡ []) where
  read_key : (q : AddressPrefix) → IsSome (read_of m q) → Contains (best_keys m) q
  read_key q there = best_there m q (read_there m.exits.queue m.reader (best_of m) q over there)

  side_at : (side : BgpLink) (q : AddressPrefix) → kept_rows m.rib.splitter side q ≡ on_link side (external_row (read_of m q))
  side_at side q = ap (λ (p : Parted). p side q) stands.exits.external.links

  side_key : (side : BgpLink) (q : AddressPrefix) → IsSome (kept_rows m.rib.splitter side q) → Contains (peer_keys m) q
  side_key side q there = best_peer m q (read_external m.exits.queue m.reader (best_of m) q over (side_there side (external_row (read_of m q)) (ap is_some (sym (side_at side q)) ∙ there)))

  -- no more rows stand on `ebgp` and `ibgp` than peers have,
  pub external_few : external_beyond m.rib None ≤ rows_in m.chains
  external_few =
      let few = few_both (peer_keys m) m.rib.splitter.ebgp m.rib.splitter.ibgp
      (λ q a b. one_side (external_row (read_of m q)) (ap is_some (sym (side_at Ebgp q)) ∙ a) (ap is_some (sym (side_at Ibgp q)) ∙ b)) (side_key Ebgp) (side_key Ibgp) in
      let ebgp = table_within None m.rib.splitter.ebgp in
      let ibgp = table_within None m.rib.splitter.ibgp in
      let keys = entries_length (tables.entries m.chains) in
      omega (arith, few, ebgp, ibgp, keys)

  -- and no more next hops are known
  pub external_known_few : external_known m.rib ≤ rows_in m.chains + tree_count m.tree
  external_known_few =
      let few = external_are_few m.rib (read_of m) (best_keys m) stands.external.sound stands.exits.external
      (λ q there. read_key q (external_there (read_of m q) (ap is_some (sym (ap (λ (rows : Rows External). rows q) (ext_is_of_best m.rib (read_of m) stands.exits.external))) ∙ there))) in
      let keys = keys_few m in
      omega (arith, few, keys)

  pub external_capped : counts m Ext ≤ external_most m
  external_capped =
      let most = external_bounded m.rib (external_beyond m.rib) (external_counted m.rib).most in
      let turns = most.turns in
      let stale = most.stale in
      let rows = external_few in
      let known = external_known_few in
      omega (arith, turns, stale, rows, known)

-- ---- what each peer was sent, where its exit has sent all
-- a row of `best` stands at a candidate
module _ (m : Moment) (stands : Stands m) where
  no_branch : (q : AddressPrefix) (b : ℕ) (r : Route) → candidates_of m q ≡ false → all_at (own_of m) m.chains m.hops b q ≡ Some r → ⊥
  unfolding best_candidates
  no_branch q zero r none is =
      let row = own_there m.declared.speaker m.redist (int_rows m.tree) q r is in
      let here = none_at (λ b. lent_candidates (int_candidates m.tree) m.chains b q) 0 65 none 0 (omega arith) (omega arith) in
      let clash : true ≡ false = sym row ∙ here in cc
  no_branch q (suc k) r none is = by_chain (chain_at (suc k) m.chains) refl (resolved_there (resolver_at (suc k) m.hops) (filt_at m.chains (suc k)) q r is)
    where
      by_chain : (o : Option Chained) → chain_at (suc k) m.chains ≡ o → IsSome (filt_by o q) → ⊥
      by_chain None at some = let clash : false ≡ true = some in cc
      by_chain (Some c) at some =
          let gone = other_none m.chains m.tree stands.peers.numbers (suc k) c q at none in
          let empty : filt_rows c q ≡ None = not_filtered c q (in_rows c.incoming q) (no_table (in_rows c.incoming q) gone) in
          let clash : false ≡ true = sym (ap is_some empty) ∙ some in cc

  best_covered : CoversRows (candidates_of m) (best_of m)
  best_covered q none = by_row (best_of m q) refl
    where
      by_row : (o : Option Route) → best_of m q ≡ o → best_of m q ≡ None
      by_row None is = is
      by_row (Some r) is = let b = best_is_a_branchs (all_at (own_of m) m.chains m.hops) q r is in absurd (no_branch q b.0 r none b.2)

  pub refreshes_capped : IsOver Out m → counts m Ref ≤ refresh_most m
  refreshes_capped over =
      let few = refreshes_bounded (candidates_of m) (best_beyond m.chains m.tree) m.exits (best_of m) (best_counted m stands) best_covered stands.exits.read over in
      let all = mul-le-mul_left (tables.len m.exits.chains) (beyond_within m.chains m.tree) in
      omega (arith, few, all)

-- the walk of a refresh has no more turns left than rows were sent
refresh_below : (c : OutChained) → refresh_left c ≤ tables.len c.sent
refresh_below c = by_walk c.refresh
  where
    by_walk : (walk : Option (Option AddressPrefix)) → left_on c.sent walk ≤ tables.len c.sent
    by_walk None = omega arith
    by_walk (Some place) = table_within place c.sent

pub refreshes_below : (e : Exited) → refreshes_left e ≤ sent_in e
refreshes_below e = sum_by-le-sum_by refresh_left (λ (c : OutChained). tables.len c.sent) (tables.values e.chains) refresh_below
