-- How many next hops are stale.
use Rattle.std.proofs.Common.{◌≡◌, ◌≢◌, ℕ, suc, ◌-◌, ◌<◌, ◌≤◌, Bool, true, false, not, ◌&&◌, cond, List, [], ◌∷◌, length, map, T, refl, sym, ap, ◌∙◌, subst, Option, Some, None, is_some, arith}
use Rattle.std.specs.List.{filter}
use Rattle.std.specs.Option.{option_map}
use Rattle.std.specs.Ordering.{nat_cmp, eq_by_cmp, is_lt}
use Rattle.std.specs.Cmp.{nat_cmp_total}
use Rattle.std.specs.FinMap.{FinMap, get, insert, remove, empty, entries, len, find, is_sorted, from_sorted, retain_keys, entries_sorted, get-entries, len-entries, entries-from_sorted, get-from_sorted, get-empty, len-empty, empty_of_len, get-retain_keys, len-remove, same_map, nat_cmp-IsAntisymmetric}
use Rattle.std.specs.FinMap.Entries.{below_all, where_key, is_sorted-where_key, find-where_key}
use Rattle.addr4.specs.Prefixes.{AddressPrefix}
use Rattle.link_change.proofs.MapLemmas.{by_key, get_at, get_apart, removed_at, removed_apart}
use Rattle.nexthop_known.specs.Hops.{Hop}
use Rattle.nexthop_known.specs.Hops.{Hops, is_stale_at, count_of}
use Rattle.nexthop_known.specs.Laws.{NoneCounts, SomeCounts, OneCountsNoMore, SameCount, KnownCount, NoneStale}

-- ---- two maps that have the same keys have as many

module _ {X : Type 0} where
  bare : ℕ × X → ℕ × Unit {0}
  bare e = (e.0, tt)

  below_bare : (x : ℕ) (es : List (ℕ × X)) → below_all nat_cmp x (map bare es) ≡ below_all nat_cmp x es
  unfolding bare
  below_bare x [] = refl
  below_bare x (e ∷ es) = ap (λ b. is_lt (nat_cmp x e.0) && b) (below_bare x es)

  sorted_bare : (es : List (ℕ × X)) → is_sorted nat_cmp (map bare es) ≡ is_sorted nat_cmp es
  unfolding bare
  sorted_bare [] = refl
  sorted_bare (e ∷ es) = λ i. below_bare e.0 es i && sorted_bare es i

  there : Option X → Option (Unit {0})
  there o = option_map (λ _. tt) o

  cond_there : (b : Bool) (x : X) (o : Option X) → cond b (Some tt) (there o) ≡ there (cond b (Some x) o)
  unfolding there
  cond_there true x o = refl
  cond_there false x o = refl

  find_bare : (q : ℕ) (es : List (ℕ × X)) → find nat_cmp q (map bare es) ≡ there (find nat_cmp q es)
  unfolding bare there
  find_bare q [] = refl
  find_bare q (e ∷ es) = ap (cond (eq_by_cmp nat_cmp q e.0) (Some tt)) (find_bare q es) ∙ cond_there (eq_by_cmp nat_cmp q e.0) e.1 (find nat_cmp q es)

  length_bare : (es : List (ℕ × X)) → length (map bare es) ≡ length es
  length_bare [] = refl
  length_bare (e ∷ es) = ap suc (length_bare es)

  keyed : FinMap nat_cmp X → FinMap nat_cmp (Unit {0})
  keyed m = from_sorted (map bare (entries m))

  sorted_keyed : (m : FinMap nat_cmp X) → T (is_sorted nat_cmp (map bare (entries m)))
  sorted_keyed m = subst T (sym (sorted_bare (entries m))) (entries_sorted m)

  get_keyed : (m : FinMap nat_cmp X) (q : ℕ) → get (keyed m) q ≡ there (get m q)
  unfolding keyed
  get_keyed m q = get-from_sorted nat_cmp (map bare (entries m)) q (sorted_keyed m) ∙ find_bare q (entries m) ∙ ap there (sym (get-entries m q))

  len_keyed : (m : FinMap nat_cmp X) → len (keyed m) ≡ len m
  unfolding keyed
  len_keyed m = len-entries (from_sorted (map bare (entries m))) ∙ ap length (entries-from_sorted nat_cmp (map bare (entries m)) (sorted_keyed m)) ∙ length_bare (entries m) ∙ sym (len-entries m)

  same_there : (o u : Option X) → is_some o ≡ is_some u → there o ≡ there u
  unfolding there
  same_there None None e = refl
  same_there None (Some x) e = absurd (cc)
  same_there (Some x) None e = absurd (cc)
  same_there (Some x) (Some y) e = refl

  pub same_len : (m n : FinMap nat_cmp X) → ((q : ℕ) → is_some (get m q) ≡ is_some (get n q)) → len m ≡ len n
  same_len m n same =
      sym (len_keyed m)
      ∙ ap len (same_map nat_cmp_total nat_cmp-IsAntisymmetric (keyed m) (keyed n) (λ q. get_keyed m q ∙ same_there (get m q) (get n q) (same q) ∙ sym (get_keyed n q)))
      ∙ len_keyed n

fewer_by_filter : {A : Type 0} (test : A → Bool) (es : List A) → length (filter test es) ≤ length es
fewer_by_filter test [] = omega arith
fewer_by_filter test (e ∷ es) = step (test e) (fewer_by_filter test es)
  where
    step : (b : Bool) → length (filter test es) ≤ length es → length (cond b (e ∷ filter test es) (filter test es)) ≤ suc (length es)
    step true le = omega (arith, le)
    step false le = omega (arith, le)

not_zero : (n : ℕ) → n ≢ 0 → 0 < n
not_zero n ne = omega (arith, ne)

-- ---- those that pass a test

module _ {A : Type 0} where
  module _ (test : Option (Hop A) → Bool) where
    passed : Hops A → Hops A
    passed hops = retain_keys hops (λ a. test (get hops a))

    passed_at : (hops : Hops A) (q : ℕ) → get (passed hops) q ≡ cond (test (get hops q)) (get hops q) None
    unfolding passed
    passed_at hops q = get-retain_keys hops (λ a. test (get hops a)) q (λ x e. ap (λ k. test (get hops k)) (sym (nat_cmp-IsAntisymmetric q x e)))

    is_count : (hops : Hops A) → count_of test hops ≡ len (passed hops)
    unfolding passed
    is_count hops = refl

    passes_known : (o : Option (Hop A)) → test None ≡ false → is_some (cond (test o) o None) ≡ test o
    passes_known None none = ap (λ b. is_some {T = Hop A} (cond b None None)) none ∙ sym none
    passes_known (Some h) none = by_bool (test (Some h))
      where
        by_bool : (b : Bool) → is_some (cond b (Some h) None) ≡ b
        by_bool true = refl
        by_bool false = refl

    has_passed : (hops : Hops A) (a : ℕ) → test None ≡ false → is_some (get (passed hops) a) ≡ test (get hops a)
    has_passed hops a none = ap is_some (passed_at hops a) ∙ passes_known (get hops a) none

    less_passed : (hops : Hops A) (a : ℕ) (h : Hop A) → test (Some h) ≡ false → passed (insert hops a h) ≡ remove (passed hops) a
    less_passed hops a h out = same_map nat_cmp_total nat_cmp-IsAntisymmetric _ _ (λ q.
        passed_at (insert hops a h) q
        ∙ by_key nat_cmp_total nat_cmp-IsAntisymmetric q a (λ _. cond (test (get (insert hops a h) q)) (get (insert hops a h) q) None ≡ get (remove (passed hops) a) q)
        (λ e.
        let here : get (insert hops a h) q ≡ Some h = ap (get (insert hops a h)) e ∙ get_at nat_cmp_total hops a h in
        ap (λ o. cond (test o) o None) here ∙ ap (λ b. cond b (Some h) None) out ∙ sym (ap (get (remove (passed hops) a)) e ∙ removed_at nat_cmp_total (passed hops) a))
        (λ ne. ap (λ o. cond (test o) o None) (get_apart nat_cmp_total nat_cmp-IsAntisymmetric hops a h q ne) ∙ sym (passed_at hops q) ∙ sym (removed_apart nat_cmp_total nat_cmp-IsAntisymmetric (passed hops) a q ne)))

  pub none_counts : NoneCounts A
  none_counts test hops none =
      is_count test hops
      ∙ ap len (same_map nat_cmp_total nat_cmp-IsAntisymmetric (passed test hops) empty (λ q.
      passed_at test hops q ∙ ap (λ b. cond b (get hops q) None) (none q) ∙ sym (get-empty nat_cmp q)))
      ∙ len-empty nat_cmp (Hop A)

  pub some_counts : SomeCounts A
  some_counts test hops a none has = not_zero (count_of test hops) (λ z.
      let no_entry = empty_of_len (passed test hops) (sym (is_count test hops) ∙ z) in
      let clash : false ≡ true = sym (ap (λ (m : Hops A). is_some (get m a)) no_entry ∙ ap is_some (get-empty nat_cmp a)) ∙ has_passed test hops a none ∙ has in
      cc)

  pub one_counts_no_more : OneCountsNoMore A
  one_counts_no_more test hops a h none has out =
      let lt = some_counts test hops a none has in
      let n : len (remove (passed test hops) a) ≡ len (passed test hops) - 1 =
      len-remove nat_cmp_total (passed test hops) a
      ∙ ap (λ b. cond b (len (passed test hops) - 1) (len (passed test hops))) (has_passed test hops a none ∙ has) in
      let c = is_count test hops in
      let d = is_count test (insert hops a h) in
      let e = ap len (less_passed test hops a h out) in
      omega (arith, lt, n, c, d, e)

  pub same_count : SameCount A
  same_count test old new none same =
      is_count test new
      ∙ same_len (passed test new) (passed test old) (λ q. has_passed test new q none ∙ same q ∙ sym (has_passed test old q none))
      ∙ sym (is_count test old)

  pub known_count : KnownCount A
  known_count test hops =
      let p : ℕ → Bool = λ a. test (get hops a) in
      let es = where_key nat_cmp p (entries hops) in
      let sorted = is_sorted-where_key nat_cmp p (entries hops) (entries_sorted hops) in
      let same : passed test hops ≡ from_sorted es = same_map nat_cmp_total nat_cmp-IsAntisymmetric _ _ (λ q.
      passed_at test hops q
      ∙ sym (get-from_sorted nat_cmp es q sorted
      ∙ find-where_key nat_cmp p q (λ x e. ap (λ k. test (get hops k)) (sym (nat_cmp-IsAntisymmetric q x e))) (entries hops)
      ∙ ap (λ o. cond (p q) o None) (sym (get-entries hops q)))) in
      let c = is_count test hops ∙ ap len same ∙ len-entries (from_sorted es) ∙ ap length (entries-from_sorted nat_cmp es sorted) in
      let k = len-entries hops in
      let fewer = fewer_by_filter (λ (e : ℕ × Hop A). p e.0) (entries hops) in
      omega (arith, c, k, fewer)

  -- ---- the stale ones

  not_stale : (o : Option (Hop A)) → ((h : Hop A) → o ≡ Some h → h.came ≢ None) → is_stale_at o ≡ false
  not_stale None none = refl
  not_stale (Some h) none = by_came h.came refl
    where
      by_came : (c : Option AddressPrefix) → h.came ≡ c → not (is_some c) ≡ false
      by_came None e = absurd (none h refl e)
      by_came (Some s) e = refl

  pub none_stale : NoneStale A
  none_stale hops = (
    λ none. none_counts is_stale_at hops (λ a. not_stale (get hops a) (none a)),
    λ z a h e came.
        let lt = some_counts is_stale_at hops a refl (ap is_stale_at e ∙ ap (λ c. not (is_some c)) came) in
        omega (arith, z, lt),
  )
