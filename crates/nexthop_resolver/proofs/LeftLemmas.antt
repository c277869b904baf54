-- How many turns a resolver's task takes.
use Rattle.std.proofs.Common.{◌≡◌, ◌≢◌, ◌↔◌, ℕ, ◌+◌, ◌<◌, ◌≤◌, nat_lt, Bool, true, false, not, refl, sym, ap, ◌∙◌, subst, inl, inr, Option, Some, None, is_some, MatchBool, arith}
use Rattle.std.proofs.lemmas.Bool.Decides.{nat_tests}
use Rattle.std.proofs.lemmas.Bool.{cases_eq, or_parts, or_from, true_from_ne_false}
use Rattle.std.specs.Option.{option_map}
use Rattle.std.specs.FinMap.{get, insert}
use Rattle.addr4.specs.Prefixes.{AddressPrefix}
use Rattle.link_change.specs.Rows.{Rows, Candidates, IsNextCandidate}
use Rattle.link_change.specs.Changes.{Change}
use Rattle.rib_route.specs.Rows.{Interior}
use Rattle.register_interest.specs.Registers.{Registry}
use Rattle.pass_core.specs.Passed.{Passed, Walked, stepped, walk_stepped, finished, after_walk}
use Rattle.pass_core.specs.Turns.{walked_on}
use Rattle.nexthop_known.specs.Hops.{Hop}
use Rattle.nexthop_known.specs.Hops.{Hops, is_stale_at, stale_count, settled, renewed, IsMapped, IsLeastStale, IsSettled, IsDiffering}
use Rattle.nexthop_known.proofs.StaleLemmas.{none_counts, some_counts, one_counts_no_more, same_count, known_count, none_stale}
use Rattle.nexthop_resolver.specs.Resolving.{Resolving, Answers, in_force_by, fresh_by, walk_to, passes, begun}
use Rattle.nexthop_resolver.specs.Registered.{answer_of}
use Rattle.nexthop_resolver.specs.Turns.{KnownAfter, Rests, HasWork, Turned}
use Rattle.pass_core.specs.Left.{CountsBeyond}
use Rattle.nexthop_resolver.specs.Left.{TellsAlike, differs_at, differing_count, is_busy, walk_turns, is_needed, next_walk, turns_left}
use Rattle.nexthop_resolver.specs.Laws.{IsBounded}
use Rattle.nexthop_resolver.proofs.AskLemmas.{none_of}
use Rattle.nexthop_resolver.proofs.MoveLemmas.{same_some, clash_some}
use Rattle.nexthop_resolver.proofs.WorkLemmas.{never_both}

-- ---- tests and counts
lt_so : (a b : ℕ) → a < b → nat_lt a b ≡ true
lt_so a b lt = grind (arith, nat_tests, lt)

lt_not : (a b : ℕ) → b ≤ a → nat_lt a b ≡ false
lt_not a b le = grind (arith, nat_tests, le)

lt_none : (n : ℕ) → nat_lt 0 n ≡ false → n ≡ 0
lt_none n e = grind (arith, nat_tests, e)

module _ {A : Type 0} (alike : A → A → Bool) (tells : TellsAlike alike) where
  differs_told : (o : Option (Hop A)) (h : Hop A) → o ≡ Some h → h.fresh ≢ h.in_force → differs_at alike o ≡ true
  differs_told o h e ne = ap (differs_at alike) e ∙ by_bool (alike h.fresh h.in_force) refl
    where
      by_bool : (b : Bool) → alike h.fresh h.in_force ≡ b → not b ≡ true
      by_bool true is = absurd (ne ((tells h.fresh h.in_force).0 is))
      by_bool false is = refl

  same_told : (o : Option (Hop A)) → ((h : Hop A) → o ≡ Some h → h.fresh ≡ h.in_force) → differs_at alike o ≡ false
  same_told None same = refl
  same_told (Some h) same = ap not ((tells h.fresh h.in_force).1 (same h refl))

  not_differs : (h : Hop A) → differs_at alike (Some h) ≡ false → h.fresh ≡ h.in_force
  not_differs h e = (tells h.fresh h.in_force).0 (by_bool (alike h.fresh h.in_force) refl)
    where
      by_bool : (b : Bool) → alike h.fresh h.in_force ≡ b → alike h.fresh h.in_force ≡ true
      by_bool true is = is
      by_bool false is = absurd (let clash : true ≡ false = sym (ap not is) ∙ e in cc)

  -- none differs exactly where the count is 0
  pub settled_counts : (hops : Hops A) → IsSettled (get hops) → differing_count alike hops ≡ 0
  settled_counts hops all = none_counts (differs_at alike) hops (λ a. same_told (get hops a) (λ h e. all a h e))

  pub counts_settled : (hops : Hops A) → differing_count alike hops ≡ 0 → IsSettled (get hops)
  counts_settled hops z a h e = not_differs h (by_bool (differs_at alike (Some h)) refl)
    where
      by_bool : (b : Bool) → differs_at alike (Some h) ≡ b → differs_at alike (Some h) ≡ false
      by_bool true is = absurd (let lt = some_counts (differs_at alike) hops a refl (ap (differs_at alike) e ∙ is) in omega (arith, z, lt))
      by_bool false is = is

  pub differing_counts : (hops : Hops A) → IsDiffering (get hops) → 0 < differing_count alike hops
  differing_counts hops d = some_counts (differs_at alike) hops d.0 refl (differs_told (get hops d.0) d.1 d.2 d.3)

  -- when the fresh answers come into force
  settled_differs : (o : Option (Hop A)) → differs_at alike (option_map settled o) ≡ false
  settled_differs None = refl
  settled_differs (Some h) = ap not ((tells h.fresh h.fresh).1 refl)

  pub none_differs : (old new : Hops A) → IsMapped settled old new → differing_count alike new ≡ 0
  none_differs old new mapped = none_counts (differs_at alike) new (λ a. ap (differs_at alike) (mapped a) ∙ settled_differs (get old a))

settled_stale : {A : Type 0} (o : Option (Hop A)) → is_stale_at (option_map settled o) ≡ is_stale_at o
settled_stale None = refl
settled_stale (Some h) = refl

as_many_stale : {A : Type 0} (old new : Hops A) → IsMapped settled old new → stale_count new ≡ stale_count old
as_many_stale old new mapped = same_count is_stale_at old new refl (λ a. ap (λ o. is_stale_at o) (mapped a) ∙ settled_stale (get old a))

-- one is asked for again
renewed_fewer : {A : Type 0} (old new : Hops A) (a : ℕ) (s : AddressPrefix) (x : A) → IsLeastStale (get old) (Some a) → new ≡ insert old a (renewed s x (get old a))
    → stale_count new + 1 ≡ stale_count old
renewed_fewer old new a s x least is =
    let h = least.0 in
    let stale : is_stale_at (get old a) ≡ true = ap (λ o. is_stale_at o) h.1 ∙ ap (λ c. not (is_some c)) h.2 in
    ap (λ m. stale_count m + 1) is ∙ one_counts_no_more is_stale_at old a (renewed s x (get old a)) refl stale refl

-- ---- sums
module _ (beyond : Option AddressPrefix → ℕ) where
  sum_of : Option (Option AddressPrefix) → ℕ → ℕ → ℕ
  sum_of walk stale differing = walk_turns beyond walk + stale + next_walk beyond (is_needed (is_some walk) stale differing)

  no_walk : (b : Bool) → b ≡ false → next_walk beyond b ≡ 0
  no_walk true e = absurd (let clash : true ≡ false = e in cc)
  no_walk false e = refl

  a_walk : (b : Bool) → b ≡ true → next_walk beyond b ≡ beyond None + 1
  a_walk true e = refl
  a_walk false e = absurd (let clash : false ≡ true = e in cc)

  at_most : (b : Bool) → next_walk beyond b ≤ beyond None + 1
  at_most true = omega arith
  at_most false = omega arith

  -- a walk goes on
  goes_less : (place : Option AddressPrefix) (p : AddressPrefix) (stale stale' d d' : ℕ) → stale' ≡ stale → beyond (Some p) < beyond place
      → sum_of (Some (Some p)) stale' d' + 1 ≤ sum_of (Some place) stale d
  unfolding sum_of
  goes_less place p stale stale' d d' same less =
      let w = ap (λ n. next_walk beyond (nat_lt 0 n)) same in
      omega (arith, less, same, w)

  -- or ends, where none differs any more
  ends_less : (place : Option AddressPrefix) (stale stale' d d' : ℕ) → stale' ≡ stale → d' ≡ 0 → sum_of None stale' d' + 1 ≤ sum_of (Some place) stale d
  unfolding sum_of
  ends_less place stale stale' d d' same z =
      let sum : stale' + d' ≡ stale = omega (arith, same, z) in
      let w = ap (λ n. next_walk beyond (nat_lt 0 n)) sum in
      omega (arith, same, w)

  -- a next hop is asked for
  asks_less : (stale stale' d d' : ℕ) → stale' + 1 ≡ stale → sum_of None stale' d' + 1 ≤ sum_of None stale d
  unfolding sum_of
  asks_less stale stale' d d' fewer =
      let w = a_walk (nat_lt 0 (stale + d)) (lt_so 0 (stale + d) (omega (arith, fewer))) in
      let m = at_most (nat_lt 0 (stale' + d')) in
      omega (arith, fewer, w, m)

  -- a walk begins, and goes on
  begins_on : (p : AddressPrefix) (stale stale' d d' : ℕ) → stale ≡ 0 → stale' ≡ 0 → 0 < d → beyond (Some p) < beyond None
      → sum_of (Some (Some p)) stale' d' + 1 ≤ sum_of None stale d
  unfolding sum_of
  begins_on p stale stale' d d' z z' lt less =
      let w = a_walk (nat_lt 0 (stale + d)) (lt_so 0 (stale + d) (omega (arith, lt))) in
      let n = no_walk (nat_lt 0 stale') (lt_not 0 stale' (omega (arith, z'))) in
      omega (arith, w, n, less, z, z')

  -- or ends at once
  begins_none : (stale stale' d d' : ℕ) → stale ≡ 0 → stale' ≡ 0 → 0 < d → d' ≡ 0 → sum_of None stale' d' + 1 ≤ sum_of None stale d
  unfolding sum_of
  begins_none stale stale' d d' z z' lt none =
      let w = a_walk (nat_lt 0 (stale + d)) (lt_so 0 (stale + d) (omega (arith, lt))) in
      let n = no_walk (nat_lt 0 (stale' + d')) (lt_not 0 (stale' + d') (omega (arith, z', none))) in
      omega (arith, w, n, z, z')

  -- ---- none is left at rest
  rest_sum : (walk : Option (Option AddressPrefix)) (stale d : ℕ) → walk ≡ None → stale ≡ 0 → d ≡ 0 → sum_of walk stale d ≡ 0
  unfolding sum_of
  rest_sum None stale d off z n =
      let w = no_walk (nat_lt 0 (stale + d)) (lt_not 0 (stale + d) (omega (arith, z, n))) in
      omega (arith, w, z)
  rest_sum (Some place) stale d off z n = absurd (let clash : Some place ≡ None = off in cc)

  sum_off : (walk : Option (Option AddressPrefix)) (stale d : ℕ) → sum_of walk stale d ≡ 0 → walk ≡ None
  unfolding sum_of
  sum_off None stale d z = refl
  sum_off (Some place) stale d z = absurd (omega (arith, z))

  sum_stale : (walk : Option (Option AddressPrefix)) (stale d : ℕ) → sum_of walk stale d ≡ 0 → stale ≡ 0
  unfolding sum_of
  sum_stale walk stale d z = omega (arith, z)

  sum_differs : (walk : Option (Option AddressPrefix)) (stale d : ℕ) → sum_of walk stale d ≡ 0 → d ≡ 0
  unfolding sum_of
  sum_differs None stale d z = elim (cases_eq d 0) [
    | inl e ↦ e
    | inr ne ↦ let w = a_walk (nat_lt 0 (stale + d)) (lt_so 0 (stale + d) (omega (arith, ne))) in absurd (omega (arith, z, w))
  ]
  sum_differs (Some place) stale d z = absurd (omega (arith, z))

module _ {A : Type 0} (alike : A → A → Bool) (beyond : Option AddressPrefix → ℕ) where
  -- as the turns of two resolvers
  sums : (old new : Resolving A) (x y : Option (Option AddressPrefix)) → new.walk ≡ x → old.walk ≡ y
      → sum_of beyond x (stale_count new.known) (differing_count alike new.known) + 1 ≤ sum_of beyond y (stale_count old.known) (differing_count alike old.known)
      → turns_left alike beyond new + 1 ≤ turns_left alike beyond old
  unfolding sum_of
  sums old new x y is was less =
      subst (λ w. sum_of beyond new.walk (stale_count new.known) (differing_count alike new.known) + 1 ≤ sum_of beyond w (stale_count old.known) (differing_count alike old.known)) (sym was)
      (subst (λ w. sum_of beyond w (stale_count new.known) (differing_count alike new.known) + 1 ≤ sum_of beyond y (stale_count old.known) (differing_count alike old.known)) (sym is) less)

  pub turns_are_bounded : (s : Resolving A) → ((place : Option AddressPrefix) → beyond place ≤ beyond None) → IsBounded A alike beyond s
  turns_are_bounded s most = record {
    turns =
        let m = at_most beyond (is_needed (is_some s.walk) (stale_count s.known) (differing_count alike s.known)) in
        let w = walk_most s.walk in
        omega (arith, m, w);
    stale = known_count is_stale_at s.known;
  }
    where
      walk_most : (walk : Option (Option AddressPrefix)) → walk_turns beyond walk ≤ beyond None + 1
      walk_most None = omega arith
      walk_most (Some place) = let le = most place in omega (arith, le)

  pub none_left_at_rest : (s : Resolving A) → TellsAlike alike → Rests s ↔ (turns_left alike beyond s ≡ 0)
  unfolding sum_of
  none_left_at_rest s tells = (
    λ rests. rest_sum beyond s.walk (stale_count s.known) (differing_count alike s.known) rests.off ((none_stale s.known).0 rests.none_stale) (settled_counts alike tells s.known rests.settled_all),
    λ z. record {
      off = sum_off beyond s.walk (stale_count s.known) (differing_count alike s.known) z;
      none_stale = (none_stale s.known).1 (sum_stale beyond s.walk (stale_count s.known) (differing_count alike s.known) z);
      settled_all = counts_settled alike tells s.known (sum_differs beyond s.walk (stale_count s.known) (differing_count alike s.known) z);
    },
  )

  -- and without work
  pub none_left_without_work : (s : Resolving A) → (is_busy alike s ≡ false) ↔ (turns_left alike beyond s ≡ 0)
  unfolding sum_of
  none_left_without_work s = (
    λ idle.
        let walk = or_parts (is_some s.walk) _ idle in
        let rest = or_parts (nat_lt 0 (stale_count s.known)) _ walk.1 in
        rest_sum beyond s.walk (stale_count s.known) (differing_count alike s.known) (none_of s.walk walk.0) (lt_none _ rest.0) (lt_none _ rest.1),
    λ z.
        let stale = sum_stale beyond s.walk (stale_count s.known) (differing_count alike s.known) z in
        let differs = sum_differs beyond s.walk (stale_count s.known) (differing_count alike s.known) z in
        or_from (is_some s.walk) _ (ap is_some (sum_off beyond s.walk (stale_count s.known) (differing_count alike s.known) z))
        (or_from (nat_lt 0 (stale_count s.known)) _ (lt_not 0 _ (omega (arith, stale))) (lt_not 0 _ (omega (arith, differs)))),
  )

-- ---- whether there is work
module _ {A : Type 0} (alike : A → A → Bool) where
  pub rests_idle : (s : Resolving A) → TellsAlike alike → Rests s → is_busy alike s ≡ false
  rests_idle s tells rests = (none_left_without_work alike (λ _. 0) s).1 ((none_left_at_rest alike (λ _. 0) s tells).0 rests)

  pub idle_rests : (s : Resolving A) → TellsAlike alike → is_busy alike s ≡ false → Rests s
  idle_rests s tells idle = (none_left_at_rest alike (λ _. 0) s tells).1 ((none_left_without_work alike (λ _. 0) s).0 idle)

  pub busy_is : (b : Bool) (s : Resolving A) → TellsAlike alike → MatchBool b (HasWork s) (Rests s) → b ≡ is_busy alike s
  busy_is true s tells work = sym (true_from_ne_false (is_busy alike s) (λ idle. never_both s work (idle_rests s tells idle)))
  busy_is false s tells rests = sym (rests_idle s tells rests)

  -- ---- fewer candidates
  pub left_follows : (before now : Option AddressPrefix → ℕ) (s : Resolving A) → ((place : Option AddressPrefix) → now place ≤ before place) → turns_left alike now s ≤ turns_left alike before s
  left_follows before now s less =
      let w = fewer_walk s.walk in
      let n = fewer_next (is_needed (is_some s.walk) (stale_count s.known) (differing_count alike s.known)) in
      omega (arith, w, n)
    where
      fewer_walk : (walk : Option (Option AddressPrefix)) → walk_turns now walk ≤ walk_turns before walk
      fewer_walk None = omega arith
      fewer_walk (Some place) = let le = less place in omega (arith, le)

      fewer_next : (b : Bool) → next_walk now b ≤ next_walk before b
      fewer_next true = let le = less None in omega (arith, le)
      fewer_next false = omega arith

-- ---- the walk, as the turns of functions tell it
module _ {A : Type 0} where
  place_of : (fresh : Answers A) (walk : Option (Option AddressPrefix)) (w : Walked (Answers A)) → walk_to fresh walk ≡ Some w → walk ≡ Some w.place
  place_of fresh None w e = clash_some w _ e
  place_of fresh (Some place) w e = ap (λ (x : Walked (Answers A)). Some x.place) (same_some (record { next = fresh; place = place; waiting = None }) w e)

  off_of : (fresh : Answers A) (walk : Option (Option AddressPrefix)) → walk_to fresh walk ≡ None → walk ≡ None
  off_of fresh None e = refl
  off_of fresh (Some place) e = absurd (let clash : Some (record { next = fresh; place = place; waiting = None }) ≡ None = e in cc)

  -- where the walk of an old state goes on, and where it ends
  at_next : (old new : Resolving A) (w : Walked (Answers A)) (p : AddressPrefix) → walk_to (fresh_by old.known) old.walk ≡ Some w → passes new ≡ stepped (passes old) p
      → new.walk ≡ Some (Some p)
  at_next old new w p on after =
      place_of (fresh_by new.known) new.walk (record w { place = Some p }) (ap (λ (s : Passed (Answers A)). s.walk) after ∙ ap (λ x. walk_stepped x p) on)

  still_known : (old new : Resolving A) (place : Option AddressPrefix) → new.walk ≡ Some place → KnownAfter new.walk old.known new.known → new.known ≡ old.known
  still_known old new place on known = subst (λ w. KnownAfter w old.known new.known) on known

  then_settled : (old new : Resolving A) → new.walk ≡ None → KnownAfter new.walk old.known new.known → IsMapped settled old.known new.known
  then_settled old new off known = subst (λ w. KnownAfter w old.known new.known) off known

  nothing_waits : (fresh : Answers A) (force : Answers A) (walk : Option (Option AddressPrefix)) → (after_walk force (walk_to fresh walk)).walk ≡ None
  nothing_waits fresh force None = refl
  nothing_waits fresh force (Some place) = refl

  at_end : (old new : Resolving A) → passes new ≡ finished (passes old) → new.walk ≡ None
  at_end old new after =
      off_of (fresh_by new.known) new.walk (ap (λ (s : Passed (Answers A)). s.walk) after ∙ nothing_waits (fresh_by old.known) (in_force_by old.known) old.walk)

module _ {A R L : Type 0} (hop : R → ℕ) (made : R → A → Option L) (candidates : Candidates) (upper : Rows R) (kept : Option (AddressPrefix × Interior) → A) (was is : Registry Interior)
    (alike : A → A → Bool) (beyond : Option AddressPrefix → ℕ) (tells : TellsAlike alike) (counts : CountsBeyond candidates beyond) where
  step_falls : (old new : Resolving A) (w : Walked (Answers A)) (next : Option AddressPrefix) → walk_to (fresh_by old.known) old.walk ≡ Some w → IsNextCandidate candidates w.place next
      → passes new ≡ walked_on next (passes old) → KnownAfter new.walk old.known new.known → turns_left alike beyond new + 1 ≤ turns_left alike beyond old
  step_falls old new w (Some p) on least after known =
      sums alike beyond old new (Some (Some p)) (Some w.place) (at_next old new w p on after) (place_of (fresh_by old.known) old.walk w on)
      (goes_less beyond w.place p _ _ _ _ (ap (λ m. stale_count m) (still_known old new (Some p) (at_next old new w p on after) known)) (counts.fewer w.place p least))
  step_falls old new w None on least after known =
      sums alike beyond old new None (Some w.place) (at_end old new after) (place_of (fresh_by old.known) old.walk w on)
      (ends_less beyond w.place _ _ _ _ (as_many_stale old.known new.known (then_settled old new (at_end old new after) known)) (none_differs alike tells old.known new.known (then_settled old new (at_end old new after) known)))

  -- from before all prefixes
  begin_falls : (old new : Resolving A) (w : Walked (Answers A)) (next : Option AddressPrefix) → old.walk ≡ None → stale_count old.known ≡ 0 → 0 < differing_count alike old.known
      → walk_to (fresh_by old.known) (Some None) ≡ Some w → IsNextCandidate candidates w.place next → passes new ≡ walked_on next (passes (begun old))
      → KnownAfter new.walk old.known new.known → turns_left alike beyond new + 1 ≤ turns_left alike beyond old
  begin_falls old new w (Some p) off z lt on least after known =
      let first : None ≡ w.place = same_some None w.place (place_of (fresh_by old.known) (Some None) w on) in
      sums alike beyond old new (Some (Some p)) None (at_next (begun old) new w p on after) off
      (begins_on beyond p _ _ _ _ z (ap (λ m. stale_count m) (still_known old new (Some p) (at_next (begun old) new w p on after) known) ∙ z) lt
      (counts.fewer None p (subst (λ place. IsNextCandidate candidates place (Some p)) (sym first) least)))
  begin_falls old new w None off z lt on least after known =
      sums alike beyond old new None None (at_end (begun old) new after) off
      (begins_none beyond _ _ _ _ z (as_many_stale old.known new.known (then_settled old new (at_end (begun old) new after) known) ∙ z) lt
      (none_differs alike tells old.known new.known (then_settled old new (at_end (begun old) new after) known)))

  pub turns_fall : (old new : Resolving A) (sent : Option (Change L)) → Turned hop made candidates upper kept was is old new sent
      → turns_left alike beyond new + 1 ≤ turns_left alike beyond old
  turns_fall old new sent (inl goes) =
      let s = goes.steps in
      step_falls old new s.walks.walk s.walks.next s.walks.on s.walks.least s.walks.after s.known
  turns_fall old new sent (inr (inl asks)) =
      sums alike beyond old new None None asks.walk asks.off
      (asks_less beyond _ _ _ _ (renewed_fewer old.known new.known asks.next_hop asks.renews.0 (answer_of kept was asks.next_hop) asks.least asks.renews.1))
  turns_fall old new sent (inr (inr begins)) =
      let s = begins.steps in
      begin_falls old new s.walks.walk s.walks.next begins.off ((none_stale old.known).0 begins.none_stale) (differing_counts alike tells old.known begins.differs)
      s.walks.on s.walks.least s.walks.after s.known
