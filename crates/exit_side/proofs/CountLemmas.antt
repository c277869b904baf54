-- How many turns the exits take.
use Rattle.std.proofs.Common.{◌≡◌, ◌≢◌, ℕ, suc, ◌+◌, ◌*◌, ◌<◌, ◌≤◌, true, false, List, [], ◌∷◌, length, get_or, Option, Some, None, is_some, refl, ap, subst, arith, suc-mul}
use Rattle.std.specs.Prelude.{IsSome}
use Rattle.std.specs.Option.{option_map}
use Rattle.std.specs.List.{AllByRecursion, sum_by}
use Rattle.std.specs.FinMap as tables
use Rattle.std.specs.FinMap.{nat_cmp-IsAntisymmetric}
use Rattle.std.specs.Cmp.{nat_cmp_total}
use Rattle.std.proofs.lemmas.List.Sums.{sum_by-cons, sum_by-le, sum_by-le-sum_by}
use Rattle.addr4.specs.Prefixes.{AddressPrefix}
use Rattle.bgp_attr.specs.Routes.{Route}
use Rattle.link_change.specs.Rows.{Candidates}
use Rattle.link_change.specs.Changes.{Change}
use Rattle.link_change.specs.InOrder.{with_last}
use Rattle.link_change.proofs.MapLemmas.{values_length, left_apart, all_values, sum_replaced, sum_others}
use Rattle.policy_rules.specs.Rules.{Rule}
use Rattle.pass_core.specs.Passed.{Walked}
use Rattle.pass_core.specs.Left.{CountsBeyond, walk_turns}
use Rattle.pass_core.proofs.LeftLemmas.{left_is_bounded, left_follows}
use Rattle.fanout_queue.specs.Queues.{Queued, AppendsToAll, IsMostUnread}
use Rattle.fanout_queue.specs.Readers.{unread_or_none, unread_by}
use Rattle.out_chain.specs.Chains.{OutChained, has_out_work, out_turns_left}
use Rattle.exit_side.specs.Exits.{Exited, OutChains, chain_at, with_queue, with_exit, IsExits, left_of, left_in}
use Rattle.exit_side.proofs.SwapLemmas.{Swaps, unread_stays}

-- ---- chains that are counted by one number, and by another
module _ (f g : OutChained → ℕ) where
  -- each by n more
  sum_more : (n : ℕ) (cs : List OutChained) → AllByRecursion (λ c. g c ≡ f c + n) cs → sum_by g cs ≡ sum_by f cs + length cs * n
  sum_more n [] all = omega arith
  sum_more n (c ∷ cs) all =
      let a = sum_by-cons g c cs in
      let b = sum_by-cons f c cs in
      let rest = sum_more n cs all.1 in
      let here : g c ≡ f c + n = all.0 in
      let times : suc (length cs) * n ≡ length cs * n + n = suc-mul (length cs) n in
      omega (arith, a, b, rest, here, times)

  -- a chain in the place of another, where each other one counts as before
  pub sum_swapped : (j : ℕ) (a : OutChains) (c d : OutChained) → tables.get a j ≡ Some d → ((k : ℕ) (x : OutChained) → tables.get a k ≡ Some x → k ≢ j → g x ≡ f x + 0)
      → sum_by g (tables.values (tables.insert a j c)) + f d ≡ sum_by f (tables.values a) + g c
  sum_swapped j a c d at same =
      let put = sum_replaced nat_cmp_total g a j c d at in
      let one = sum_others nat_cmp_total f nat_cmp-IsAntisymmetric a j d at in
      let other = sum_others nat_cmp_total g nat_cmp-IsAntisymmetric a j d at in
      let rest = sum_more 0 (tables.values (tables.remove a j)) (all_values nat_cmp_total (λ x. g x ≡ f x + 0) (tables.remove a j) (λ k x left.
      let was = left_apart nat_cmp_total nat_cmp-IsAntisymmetric a j k x left in
      same k x was.1 was.0)) in
      omega (arith, put, one, other, rest)

module _ (beyond : Option AddressPrefix → ℕ) where
  -- what is left of a chain, where its reader hasn't taken this
  abbrev left_with : OutChained → Option (List (Change Route)) → ℕ
  left_with c u = out_turns_left beyond c (unread_or_none u)

  -- ---- a turn of one
  pub turn_fewer : (j : ℕ) (c taken : OutChained) (e : Exited) (queue : Queued Route) → chain_at j e ≡ Some c → taken.reader ≡ c.reader → Swaps j c.reader (Some taken) e (with_exit j taken queue e)
      → out_turns_left beyond taken (unread_by queue c.reader) < out_turns_left beyond c (unread_by e.queue c.reader) → left_in beyond (with_exit j taken queue e) + 1 ≤ left_in beyond e
  turn_fewer j c taken e queue at same swaps fewer =
      let sum = sum_swapped (left_of beyond e.queue) (left_of beyond queue) j e.chains taken c at (λ k d there differ.
      let stays = ap (left_with d) (unread_stays j c.reader (Some taken) e (with_exit j taken queue e) swaps k d differ there) in
      omega (arith, stays)) in
      let now : left_of beyond queue taken ≡ out_turns_left beyond taken (unread_by queue c.reader) = ap (λ (r : ℕ). out_turns_left beyond taken (unread_by queue r)) same in
      omega (arith, sum, now, fewer)

  -- ---- a change of `best`
  longer : (change : Change Route) (u : List (Change Route)) → length (with_last change u) ≡ length u + 1
  longer change [] = refl
  longer change (x ∷ u) = let rest = longer change u in omega (arith, rest)

  one_more : (c : OutChained) (change : Change Route) (u v : Option (List (Change Route))) → v ≡ option_map (with_last change) u → IsSome u → left_with c v ≡ left_with c u + 1
  one_more c change None v is live = absurd (cc)
  one_more c change (Some u) v is live =
      let more = longer change u in
      let here : left_with c v ≡ left_with c (Some (with_last change u)) = ap (left_with c) is in
      omega (arith, more, here)

  pub put_more : (e : Exited) (queue : Queued Route) (change : Change Route) → IsExits e → AppendsToAll change e.queue queue → left_in beyond (with_queue queue e) ≡ left_in beyond e + tables.len e.chains
  put_more e queue change sound appends =
      let sum = sum_more (left_of beyond e.queue) (left_of beyond queue) 1 (tables.values e.chains) (all_values nat_cmp_total (λ c. left_of beyond queue c ≡ left_of beyond e.queue c + 1) e.chains
      (λ k c at. one_more c change (tables.get e.queue c.reader) (tables.get queue c.reader) (appends c.reader) (sound.each k c at).live)) in
      let size = values_length e.chains in
      omega (arith, sum, size)

  -- ---- what another reader takes
  pub left_same : (e : Exited) (queue : Queued Route) → ((k : ℕ) (c : OutChained) → chain_at k e ≡ Some c → tables.get queue c.reader ≡ tables.get e.queue c.reader)
      → left_in beyond (with_queue queue e) ≡ left_in beyond e
  left_same e queue same =
      let sum = sum_more (left_of beyond e.queue) (left_of beyond queue) 0 (tables.values e.chains) (all_values nat_cmp_total (λ c. left_of beyond queue c ≡ left_of beyond e.queue c + 0) e.chains (λ k c at.
      let stays = ap (left_with c) (same k c at) in
      omega (arith, stays))) in
      omega (arith, sum)

  -- ---- without work
  no_walk_turns : (walk : Option (Walked (Option (List Rule)))) → is_some walk ≡ false → walk_turns beyond walk ≡ 0
  no_walk_turns None e = refl
  no_walk_turns (Some w) e = absurd (let clash : true ≡ false = e in cc)

  off_walk : (walk : Option (Walked (Option (List Rule)))) → walk_turns beyond walk ≡ 0 → is_some walk ≡ false
  off_walk None e = refl
  off_walk (Some w) e = absurd (omega (arith, e))

  pub idle_none : (c : OutChained) (unread : List (Change Route)) → has_out_work c unread ≡ false → out_turns_left beyond c unread ≡ 0
  idle_none c [] e = let zero = no_walk_turns c.filter.walk e in omega (arith, zero)
  idle_none c (x ∷ unread) e = absurd (let clash : true ≡ false = e in cc)

  pub none_idle : (c : OutChained) (unread : List (Change Route)) → out_turns_left beyond c unread ≡ 0 → has_out_work c unread ≡ false
  none_idle c [] e = off_walk c.filter.walk (omega (arith, e))
  none_idle c (x ∷ unread) e = absurd (omega (arith, e))

  -- ---- a bound
  few_unread : (queued : Queued Route) (most : ℕ) (reader : ℕ) (u : Option (List (Change Route))) → IsMostUnread queued most → tables.get queued reader ≡ u → length (unread_or_none u) ≤ most
  few_unread queued most reader None is at = omega arith
  few_unread queued most reader (Some u) is at = is.most reader u at

  pub all_bounded : (candidates : Candidates) (e : Exited) (most : ℕ) → CountsBeyond candidates beyond → IsMostUnread e.queue most → left_in beyond e ≤ tables.len e.chains * (most + 2 * (beyond None + 1))
  all_bounded candidates e most counts is =
      let each : (c : OutChained) → left_of beyond e.queue c ≤ most + 2 * (beyond None + 1) = λ c.
      let unread = few_unread e.queue most c.reader (tables.get e.queue c.reader) is refl in
      let walks = left_is_bounded candidates beyond c.filter counts in
      omega (arith, unread, walks) in
      subst (λ (n : ℕ). left_in beyond e ≤ n * (most + 2 * (beyond None + 1))) (values_length e.chains) (sum_by-le (left_of beyond e.queue) (most + 2 * (beyond None + 1)) (tables.values e.chains) (λ i c _. each (get_or (tables.values e.chains) i c)))

pub all_follow : (e : Exited) (before now : Option AddressPrefix → ℕ) → ((place : Option AddressPrefix) → now place ≤ before place) → left_in now e ≤ left_in before e
all_follow e before now less = sum_by-le-sum_by (left_of now e.queue) (left_of before e.queue) (tables.values e.chains) (λ c. let walks = left_follows before now c.filter less in omega (arith, walks))
