-- How many turns readers of `best` take: the most that one hasn't taken, and how many candidates of `best` lie beyond a place.
use Rattle.router_moments.proofs.Common.{sym, ◌∙◌, ap, ◌≡◌, ℕ, refl, List, true, arith, false, ◌+◌, Bool, ◌≤◌, cond, ◌<◌, suc, zero, nat_eq, ◌≢◌, ◌||◌, nat_lt, ◌-◌, ◌*◌, nat_tests, nat_cmp_total, FinMap, nat_cmp-IsAntisymmetric, get-insert, AllByRecursion, list_any, range_with_len, sum_by, nat_cmp, eq_by_cmp, AddressPrefix, Attrs, Route, Exited, Queued, Takes, known_in, candidates_are_counted, Chained, filt_candidates, Candidates, IsNextCandidate, Change, CountsBeyond, chain_at, Chains, rows_in, Treed, tree_count, int_candidates, Queues, Moment, candidates_of, most_unread, bound_of, best_beyond, Stands}
use Rattle.std.proofs.Common.{[], ◌∷◌, length, Option, Some, None, is_some}
use Rattle.std.specs.Prelude.{IsSome}
use Rattle.std.specs.Option.{option_map}
use Rattle.std.specs.FinMap as tables
use Rattle.std.proofs.lemmas.List.Sums.{sum_by-le-sum_by}
use Rattle.std.proofs.Math.Nat.{mul-le-mul, mul-le-mul_left}
use Rattle.addr4.specs.Places.{IsBeyond}
use Rattle.link_change.specs.InOrder.{with_last}
use Rattle.link_change.proofs.MapLemmas.{all_values, one_of_sum, sum_others, sum_none}
use Rattle.link_region.proofs.RegionLemmas.{by_bool}
use Rattle.loss_chain.specs.Lost.{Lost}
use Rattle.fanout_queue.specs.Queues.{AppendsToAll, IsMostUnread}
use Rattle.in_chain.specs.Chains.{filt_beyond, row_count}
use Rattle.loss_chain.specs.Tables.{table_beyond as count_beyond, lost_beyond}
use Rattle.loss_chain.proofs.BeyondLemmas.{table_further}
use Rattle.decision.specs.Branches.{best_candidates, candidates_below}
use Rattle.router_moments.specs.Bests.{candidates_by, lent_chain, lent_candidates}
use Rattle.rib_exit.specs.Exits.{known_in as external_known}
use Rattle.router_moments.specs.Moments.{longest_of}
use Rattle.router_moments.specs.Phases.{reading, refresh_most}
use Rattle.router_moments.proofs.BeyondLemmas.{tree_most, tree_within, tree_further, tree_fewer}

-- ---- the most that a reader hasn't taken
longest_bounds : (xs : List (List (Change Route))) → AllByRecursion (λ u. length u ≤ longest_of xs) xs
longest_bounds [] = tt
longest_bounds (x ∷ xs) =
    by_bool (nat_lt (length x) (longest_of xs)) (λ b. AllByRecursion (λ u. length u ≤ cond b (longest_of xs) (length x)) (x ∷ xs))
    (λ e. let less : length x < longest_of xs = grind (arith, nat_tests) in (omega (arith, less), longest_bounds xs))
    (λ e. let more : longest_of xs ≤ length x = grind (arith, nat_tests) in (omega arith, weaker xs (longest_bounds xs) more))
  where
    weaker : (ys : List (List (Change Route))) → AllByRecursion (λ u. length u ≤ longest_of xs) ys → longest_of xs ≤ length x → AllByRecursion (λ u. length u ≤ length x) ys
    weaker [] each more = tt
    weaker (y ∷ ys) each more = (let here = each.0 in omega (arith, here, more), weaker ys each.1 more)

longest_within : (n : ℕ) (xs : List (List (Change Route))) → AllByRecursion (λ u. length u ≤ n) xs → longest_of xs ≤ n
longest_within n [] each = omega arith
longest_within n (x ∷ xs) each = elim (nat_lt (length x) (longest_of xs)) as (λ b. cond b (longest_of xs) (length x) ≤ n) [ true ↦ longest_within n xs each.1 | false ↦ each.0 ]

none_above : (n : ℕ) (xs : List (List (Change Route))) → AllByRecursion (λ u. length u ≤ n) xs → AllByRecursion (λ u. length u - n ≡ 0) xs
none_above n [] each = tt
none_above n (x ∷ xs) each = (let here = each.0 in omega (arith, here), none_above n xs each.1)

pub unread_most : (queued : Queued Route) (r : ℕ) (u : List (Change Route)) → tables.get queued r ≡ Some u → length u ≤ longest_of (tables.values queued)
unread_most queued r u at =
    let n : ℕ = longest_of (tables.values queued) in
    let one = one_of_sum nat_cmp_total (λ (v : List (Change Route)). length v - n) queued r u at in
    let all = sum_none (λ (v : List (Change Route)). length v - n) (tables.values queued) (none_above n (tables.values queued) (longest_bounds (tables.values queued))) in
    omega (arith, one, all)

pub unread_within : (queued : Queued Route) (n : ℕ) → ((r : ℕ) (u : List (Change Route)) → tables.get queued r ≡ Some u → length u ≤ n) → longest_of (tables.values queued) ≤ n
unread_within queued n each = longest_within n (tables.values queued) (all_values nat_cmp_total (λ (u : List (Change Route)). length u ≤ n) queued each)

-- it is what the queue answers
pub most_unread_is : (e : Exited) → IsMostUnread e.queue (most_unread e)
most_unread_is e = record { most = λ r u at. unread_most e.queue r u at; some = some_reader }
  where
    Found : ℕ → Type 0
    Found n = (r : ℕ) × (u : List (Change Route)) × (tables.get e.queue r ≡ Some u) × (length u ≡ n)

    found : (n : ℕ) (xs : List (List (Change Route))) → AllByRecursion (λ u. length u ≡ n → Found n) xs → longest_of xs ≡ n → n ≢ 0 → Found n
    found n [] each is some = absurd (some (sym is))
    found n (x ∷ xs) each is some = by_bool (nat_lt (length x) (longest_of xs)) (λ b. cond b (longest_of xs) (length x) ≡ n → Found n) (λ _ later. found n xs each.1 later some) (λ _ here. each.0 here) is

    some_reader : most_unread e ≢ 0 → Found (most_unread e)
    some_reader some = found (most_unread e) (tables.values e.queue)
        (all_values nat_cmp_total (λ (u : List (Change Route)). length u ≡ most_unread e → Found (most_unread e)) e.queue (λ r u at same. (r, u, at, same))) refl some

-- what the queue answers is that
pub unread_is : (e : Exited) (n : ℕ) → IsMostUnread e.queue n → n ≡ most_unread e
unread_is e n is = by_bool (nat_eq n 0) (λ b. n ≡ most_unread e)
    (λ e0. let none : n ≡ 0 = grind (arith, nat_tests) in let low = unread_within e.queue n is.most in omega (arith, none, low))
    (λ e1. let some = is.some (λ z. let clash : nat_eq n 0 ≡ true = ap (λ k. nat_eq k 0) z in cc) in
    let low = unread_within e.queue n is.most in
    let high = unread_most e.queue some.0 some.1 some.2 in
    let same = some.3 in
    omega (arith, low, high, same))

-- a change that is put adds one at most
abbrev pub sent_count : Option (Change Route) → ℕ
sent_count None = 0
sent_count (Some c) = 1

longer : (change : Change Route) (u : List (Change Route)) → length (with_last change u) ≡ length u + 1
longer change [] = refl
longer change (x ∷ u) = let rest = longer change u in omega (arith, rest)

put_longer : (c : Change Route) (old new : Queued Route) → AppendsToAll c old new → (r : ℕ) (u : List (Change Route)) → tables.get new r ≡ Some u → length u ≤ longest_of (tables.values old) + 1
put_longer c old new appends r u at = by_old (tables.get old r) refl (sym (appends r) ∙ at)
  where
    by_old : (o : Option (List (Change Route))) → tables.get old r ≡ o → option_map (with_last c) o ≡ Some u → length u ≤ longest_of (tables.values old) + 1
    by_old None was is = absurd (cc)
    by_old (Some v) was is =
        let same : with_last c v ≡ u = cc in
        let size : length u ≡ length v + 1 = ap (λ (l : List (Change Route)). length l) (sym same) ∙ longer c v in
        let most = unread_most old r v was in
        omega (arith, size, most)

pub queue_most : (best : Option (Change Route)) (e e' : Exited) → Queues best e e' → most_unread e' ≤ most_unread e + sent_count best
queue_most None e e' q = let same : most_unread e' ≡ most_unread e = ap most_unread q in omega (arith, same)
queue_most (Some c) e e' q = unread_within e'.queue (most_unread e + 1) (put_longer c e.queue e'.queue q.appends)

-- what a reader takes leaves no more
pub take_most : (queued after : Queued Route) (r : ℕ) (change : Option (Change Route)) → Takes queued after r change → longest_of (tables.values after) ≤ longest_of (tables.values queued)
take_most queued after r None takes = let same : longest_of (tables.values after) ≡ longest_of (tables.values queued) = ap (λ (q : Queued Route). longest_of (tables.values q)) takes.1 in omega (arith, same)
take_most queued after r (Some change) takes = unread_within after (longest_of (tables.values queued)) (λ j u at.
    by_bool (eq_by_cmp nat_cmp j r) (λ b. cond b (Some takes.0) (tables.get queued j) ≡ Some u → length u ≤ longest_of (tables.values queued))
    (λ _ here.
    let same : takes.0 ≡ u = cc in
    let size : length takes.0 ≡ length u = ap (λ (l : List (Change Route)). length l) same in
    let was = unread_most queued r (change ∷ takes.0) takes.1 in
    omega (arith, size, was))
    (λ _ there. unread_most queued j u there)
    (sym (get-insert nat_cmp_total queued r takes.0 j) ∙ ap (λ (q : Queued Route). tables.get q j) (sym takes.2) ∙ at))

-- ---- the readers' turns, by their parts
pub reading_less : (exits exits' unread unread' rows rows' sends sends' : ℕ) → exits' ≤ exits → rows' ≤ rows → unread' + sends' ≤ unread + sends → reading exits' unread' rows' sends' ≤ reading exits unread rows sends
reading_less exits exits' unread unread' rows rows' sends sends' fewer less spent =
    let once : 1 + exits' ≤ 1 + exits = omega (arith, fewer) in
    let wide : rows' + 1 ≤ rows + 1 = omega (arith, less) in
    let a = mul-le-mul once spent in
    let b = mul-le-mul fewer wide in
    omega (arith, a, b)

-- those of refreshes
pub refreshes_less : (m m' : Moment) → tables.len m'.exits.chains ≤ tables.len m.exits.chains → rows_in m'.chains + tree_count m'.tree ≤ rows_in m.chains + tree_count m.tree → refresh_most m' ≤ refresh_most m
refreshes_less m m' exits rows = mul-le-mul exits rows

-- the turns of both readers' phases are within it
pub readers_within : (exits unread rows sends reader out : ℕ) → reader ≤ unread → out ≤ exits * (unread + 2 * (rows + 1)) → reader + out ≤ reading exits unread rows sends
readers_within exits unread rows sends reader out few less =
    let more : (1 + exits) * unread ≤ (1 + exits) * (unread + sends) = mul-le-mul_left (1 + exits) (omega arith) in
    let parts : (1 + exits) * unread + 2 * (exits * (rows + 1)) ≡ unread + exits * (unread + 2 * (rows + 1)) = grind arith in
    omega (arith, few, less, more, parts)

-- the bound that is announced
pub announced_fits : (losses own stages walks hops changes sends exits unread rows routes peers known : ℕ) → losses ≤ routes → own ≤ 2 * (routes + 1) → stages ≤ rows → walks ≤ 2 * (rows + peers) → hops ≤ 3 * rows + 2 * peers
    → changes ≤ 2 * routes → sends ≤ 2 * rows → exits ≤ peers
    → losses + (own + stages + walks + hops + reading exits unread (rows + routes) (losses + (changes + (stages + (sends + 2 * rows)))) + (3 * (rows + routes) + 2) + exits * (rows + routes)) ≤ (peers + 2) * (unread + 9 * (rows + routes) + 2 * known + 6)
announced_fits losses own stages walks hops changes sends exits unread rows routes peers known a b c d e f g few =
    let read = reading_less peers exits unread unread (rows + routes) (rows + routes) (6 * rows + 3 * routes) (losses + (changes + (stages + (sends + 2 * rows)))) few (omega arith) (omega (arith, a, c, f, g)) in
    let parts : reading peers unread (rows + routes) (6 * rows + 3 * routes) ≡ unread + 6 * rows + 3 * routes + peers * (unread + 8 * rows + 5 * routes + 2) = grind arith in
    let again : exits * (rows + routes) ≤ peers * (rows + routes) = mul-le-mul few (omega arith) in
    let more : peers * (unread + 9 * rows + 6 * routes + 6) ≤ peers * (unread + 9 * (rows + routes) + 2 * known + 6) = mul-le-mul_left peers (omega arith) in
    let split : peers * (unread + 9 * rows + 6 * routes + 6) ≡ peers * (unread + 8 * rows + 5 * routes + 2) + peers * (rows + routes) + 4 * peers = grind arith in
    let all : (peers + 2) * (unread + 9 * (rows + routes) + 2 * known + 6) ≡ peers * (unread + 9 * (rows + routes) + 2 * known + 6) + 2 * (unread + 9 * (rows + routes) + 2 * known + 6) = grind arith in
    omega (arith, a, b, c, d, e, read, parts, again, more, split, all)

-- ---- the candidates of `best` beyond a place
lost_further : (place : Option AddressPrefix) (p : AddressPrefix) (ds : List (Lost Attrs)) → IsBeyond place p → lost_beyond (Some p) ds ≤ lost_beyond place ds
lost_further place p [] h = omega arith
lost_further place p (d ∷ ds) h =
    let first : count_beyond (Some p) d.rows ≤ count_beyond place d.rows = table_further place p d.rows h in
    let rest = lost_further place p ds h in
    omega (arith, first, rest)

chain_further : (place : Option AddressPrefix) (p : AddressPrefix) (c : Chained) → IsBeyond place p → filt_beyond c (Some p) ≤ filt_beyond c place
chain_further place p c h =
    let first : count_beyond (Some p) c.incoming.tables.live ≤ count_beyond place c.incoming.tables.live = table_further place p c.incoming.tables.live h in
    let rest = lost_further place p c.incoming.tables.deletions h in
    omega (arith, first, rest)

-- ---- sums
-- one is fewer, and none is more
sum_one_fewer : {X : Type 0} (f g : X → ℕ) → ((x : X) → g x ≤ f x) → (a : FinMap nat_cmp X) (k : ℕ) (d : X) → tables.get a k ≡ Some d → g d < f d → sum_by g (tables.values a) < sum_by f (tables.values a)
sum_one_fewer f g less a k d at here =
    let rest = sum_by-le-sum_by g f (tables.values (tables.remove a k)) less in
    let before = sum_others nat_cmp_total f nat_cmp-IsAntisymmetric a k d at in
    let now = sum_others nat_cmp_total g nat_cmp-IsAntisymmetric a k d at in
    omega (arith, rest, before, now, here)

-- ---- the branches
any_at : (test : ℕ → Bool) (a n : ℕ) → list_any test (range_with_len a n) ≡ true → (b : ℕ) × (test b ≡ true)
any_at test a zero is = absurd (cc)
any_at test a (suc n) is = by_bool (test a) (λ t. (t || list_any test (range_with_len (a + 1) n)) ≡ true → (b : ℕ) × (test b ≡ true)) (λ e _. (a, e)) (λ _ rest. any_at test (a + 1) n rest) is

pub none_at : (test : ℕ → Bool) (a n : ℕ) → list_any test (range_with_len a n) ≡ false → (b : ℕ) → a ≤ b → b < a + n → test b ≡ false
none_at test a zero is b from to = absurd (omega (arith, from, to))
none_at test a (suc n) is b from to =
    by_bool (test a) (λ t. (t || list_any test (range_with_len (a + 1) n)) ≡ false → test a ≡ t → test b ≡ false) (λ _ clash _. absurd (cc))
    (λ _ rest here. by_bool (nat_eq b a) (λ u. test b ≡ false) (λ e. let same : b ≡ a = grind (arith, nat_tests) in ap test same ∙ here)
    (λ e. let apart : b ≢ a = λ same. let clash : nat_eq b a ≡ true = grind (arith, nat_tests) in cc in none_at test (a + 1) n rest b (omega (arith, from, apart)) (omega (arith, to))))
    is refl

module _ (a : Chains) (t : Treed) (small : (k : ℕ) → IsSome (chain_at k a) → (1 ≤ k) × (k ≤ 64)) where
  lent_is : (k : ℕ) → 1 ≤ k → k < 65 → lent_candidates (int_candidates t) a k ≡ candidates_by (chain_at k a)
  lent_is zero some low = absurd (omega (arith, some))
  lent_is (suc k) some low = ap (λ b. candidates_by (cond b (chain_at (suc k) a) None)) (let is : nat_lt (suc k) 65 ≡ true = grind (arith, nat_tests) in is)

  -- of a candidate of a peer the chain
  chain_of : (k : ℕ) (p : AddressPrefix) → candidates_by (lent_chain a k) p ≡ true → (c : Chained) × (chain_at k a ≡ Some c) × (filt_candidates c p ≡ true)
  chain_of k p is = by_low (nat_lt k 65) is
    where
      by_chain : (o : Option Chained) → chain_at k a ≡ o → candidates_by o p ≡ true → (c : Chained) × (chain_at k a ≡ Some c) × (filt_candidates c p ≡ true)
      by_chain None at is = absurd (cc)
      by_chain (Some c) at is = (c, at, is)

      by_low : (b : Bool) → candidates_by (cond b (chain_at k a) None) p ≡ true → (c : Chained) × (chain_at k a ≡ Some c) × (filt_candidates c p ≡ true)
      by_low true is = by_chain (chain_at k a) refl is
      by_low false is = absurd (cc)

  -- a candidate is of a peer, or of `int`
  candidate_of : (P : Type 0) (k : ℕ) (p : AddressPrefix) → ((c : Chained) → chain_at k a ≡ Some c → filt_candidates c p ≡ true → P) → (int_candidates t p ≡ true → P) → lent_candidates (int_candidates t) a k p ≡ true → P
  candidate_of P zero p chain own is = own is
  candidate_of P (suc k) p chain own is = let c = chain_of (suc k) p is in chain c.0 c.1 c.2

  pub other_none : (k : ℕ) (c : Chained) (q : AddressPrefix) → chain_at k a ≡ Some c → candidates_below 65 (lent_candidates (int_candidates t) a) q ≡ false → filt_candidates c q ≡ false
  other_none k c q at none =
      let low = small k (ap is_some at) in
      let from = low.0 in
      let to = low.1 in
      let here = none_at (λ b. lent_candidates (int_candidates t) a b q) 0 65 none k (omega arith) (omega (arith, to)) in
      sym (ap (λ (o : Option Chained). candidates_by o q) at) ∙ sym (ap (λ (x : Candidates). x q) (lent_is k from (omega (arith, to)))) ∙ here

  pub best_counted_by : CountsBeyond (best_candidates (lent_candidates (int_candidates t) a)) (best_beyond a t)
  unfolding best_candidates
  best_counted_by = record { fewer = fewer; most = most }
    where
      most : (place : Option AddressPrefix) → best_beyond a t place ≤ best_beyond a t None
      most place =
          let peers = sum_by-le-sum_by (λ (c : Chained). filt_beyond c place) (λ c. filt_beyond c None) (tables.values a) (λ c. (candidates_are_counted c).0.most place) in
          let own = tree_most t place in
          omega (arith, peers, own)

      fewer : (place : Option AddressPrefix) (p : AddressPrefix) → IsNextCandidate (candidates_below 65 (lent_candidates (int_candidates t) a)) place (Some p) → best_beyond a t (Some p) < best_beyond a t place
      fewer place p next =
          let any = any_at (λ b. lent_candidates (int_candidates t) a b p) 0 65 next.1 in
          candidate_of (best_beyond a t (Some p) < best_beyond a t place) any.0 p (λ c at is.
          let peers = sum_one_fewer (λ (d : Chained). filt_beyond d place) (λ d. filt_beyond d (Some p)) (λ d. chain_further place p d next.0) a any.0 c at
          ((candidates_are_counted c).0.fewer place p (next.0, is, λ q beyond before. other_none any.0 c q at (next.2 q beyond before))) in
          let own = tree_further t place p next.0 in
          omega (arith, peers, own)) (λ is.
          let peers = sum_by-le-sum_by (λ (d : Chained). filt_beyond d (Some p)) (λ d. filt_beyond d place) (tables.values a) (λ d. chain_further place p d next.0) in
          let own = tree_fewer t place p next.0 is in
          omega (arith, peers, own)) any.1

-- of a moment
pub best_counted : (m : Moment) → Stands m → CountsBeyond (candidates_of m) (best_beyond m.chains m.tree)
best_counted m stands = best_counted_by m.chains m.tree stands.peers.numbers

pub beyond_within : (a : Chains) (t : Treed) → best_beyond a t None ≤ rows_in a + tree_count t
beyond_within a t =
    let peers = sum_by-le-sum_by (λ c. filt_beyond c None) row_count (tables.values a) (λ c. (candidates_are_counted c).1) in
    let own = tree_within t None in
    omega (arith, peers, own)

-- ---- the announced number is computed as it is told
pub bound_is : (m v : Moment) (peers rows all resolvers external hops unread : ℕ) → v ≡ m → peers ≡ length v.declared.peers → rows ≡ rows_in v.chains → all ≡ rows + tree_count v.tree → resolvers ≡ known_in v.hops
    → external ≡ external_known v.rib → hops ≡ resolvers + external → IsMostUnread v.exits.queue unread → (bound : ℕ) → bound ≡ (peers + 2) * (unread + 9 * all + 2 * hops + 6) → bound ≡ bound_of m
bound_is m v peers rows all resolvers external hops unread view e1 e2 e3 e4 e5 e6 most bound is =
    let same = unread_is v.exits unread most in
    let sum : unread + 9 * all + 2 * hops + 6 ≡ most_unread v.exits + 9 * (rows_in v.chains + tree_count v.tree) + 2 * (known_in v.hops + external_known v.rib) + 6 = omega (arith, e2, e3, e4, e5, e6, same) in
    is ∙ ap (λ (n : ℕ). (n + 2) * (unread + 9 * all + 2 * hops + 6)) e1 ∙ ap (λ (n : ℕ). (length v.declared.peers + 2) * n) sum ∙ ap bound_of view
