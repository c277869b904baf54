-- The first key of an index at which a search stops.
use Rattle.std.proofs.Common.{◌≡◌, ℕ, suc, ◌<◌, ◌^◌, arith, Bool, true, false, cond, ◌&&◌, ◌||◌, List, [], ◌∷◌, Option, Some, None, refl, sym, ap, ◌∙◌, subst}
use Rattle.std.specs.List.{All, find, filter, list_any, slice_get}
use Rattle.std.specs.Option.{IfSome}
use Rattle.std.specs.List.Sorted.{IsStrictlySortedBy}
use Rattle.std.specs.Ordering.{nat_cmp, ordering_then, ordering_reverse, is_eq, is_gt, is_lt}
use Rattle.std.specs.declared.cmp.Ordering.{Ordering}
use Rattle.std.specs.declared.cmp.Ordering.TheVariants.{Less, Equal, Greater}
use Rattle.std.specs.declared.ops.Bound.TheVariants.{Included, Unbounded}
use Rattle.std.specs.Cmp.{IsTotalOrder, eq_by_cmp_equiv, nat_cmp_total, ranked}
use Rattle.std.specs.BTreeMap.{is_at}
use Rattle.std.specs.BTreeMap.Range.{range_contains, IsLeBy}
use Rattle.std.specs.BTreeSet.{BTreeSet, contains, IsOrdered, IsKeyRangeOf, IsKeyInRange}
use Rattle.std.proofs.lemmas.Cmp.{on_total, then_total}
use Rattle.std.proofs.lemmas.Map.Lookups.{exact_pairs, exact_unsigned}
use Rattle.std.proofs.lemmas.Map.Keys.{sorted_tail}
use Rattle.std.proofs.lemmas.Map.Views.{All-after_first}
use Rattle.addr4.specs.Prefixes.{AddressPrefix, prefix_cmp}
use Rattle.addr4.specs.Places.{IsBeyond}
use Rattle.addr4.proofs.PrefixOrder.{prefixes_total, exact_prefixes}
use Rattle.fanout_queue.specs.Index.{Key, key_cmp, behind, keys_from, IsFirstKey, IsFirstStop}
use Rattle.fanout_queue.proofs.Cases.{by_bool}

keys_total : IsTotalOrder key_cmp
keys_total = then_total (on_total (λ (k : Key). k.0) prefixes_total) (on_total (λ (k : Key). k.1) nat_cmp_total)

equal_of : (o : Ordering) → is_eq o ≡ true → o ≡ Equal
equal_of Less e = cc
equal_of Equal e = refl
equal_of Greater e = cc

one_key : (x y : Key) → is_eq (key_cmp x y) ≡ true → x ≡ y
one_key x y e = exact_pairs prefix_cmp nat_cmp exact_prefixes exact_unsigned x y (equal_of (key_cmp x y) e)

not_both : (x y : Key) → key_cmp x y ≡ Less → key_cmp y x ≡ Less → ⊥
not_both x y below above =
    let e : Greater ≡ Less = ap ordering_reverse (sym below) ∙ sym (keys_total.antisymm y x) ∙ above in cc

same_key : (x : Key) → is_eq (key_cmp x x) ≡ true
same_key x = (eq_by_cmp_equiv keys_total).refl x

-- ---- in a list of keys
abbrev has : List Key → Key → Bool
has ks q = list_any (is_at (key_cmp q)) ks

by_has : (x q : Key) (xs : List Key) (P : Type 0) → has (x ∷ xs) q ≡ true → (q ≡ x → P) → (has xs q ≡ true → P) → P
by_has x q xs P is here rest = by_bool (is_eq (key_cmp q x)) (λ v. v || has xs q ≡ true → P) (λ e _. here (one_key q x e)) (λ _ h. rest h) is

-- each key stands behind those before it
after_first : (x q : Key) (xs : List Key) → IsStrictlySortedBy key_cmp (x ∷ xs) → has xs q ≡ true → key_cmp x q ≡ Less
after_first x q xs sorted is = all_has xs (All-after_first key_cmp x xs sorted) is
  where
    all_has : (ys : List Key) → All (λ y. key_cmp x y ≡ Less) ys → has ys q ≡ true → key_cmp x q ≡ Less
    all_has [] all is = absurd (let e : false ≡ true = is in cc)
    all_has (y ∷ ys) all is = by_has y q ys (key_cmp x q ≡ Less) is
        (λ e. ap (key_cmp x) e ∙ all 0 y (omega arith))
        (λ h. all_has ys (λ k d below. all (suc k) d (omega arith)) h)

module _ (inside test : Key → Bool) where
  abbrev found : List Key → Option Key
  found ks = find test (filter inside ks)

  -- what is found of one key more
  found_first : (x : Key) (xs : List Key) → found (x ∷ xs) ≡ cond (inside x) (cond (test x) (Some x) (found xs)) (found xs)
  found_first x xs = elim (inside x) as (λ v. find test (cond v (x ∷ filter inside xs) (filter inside xs)) ≡ cond v (cond (test x) (Some x) (found xs)) (found xs)) [
    | true ↦ refl
    | false ↦ refl
  ]

  found_none : (ks : List Key) → found ks ≡ None → (q : Key) → has ks q ≡ true → inside q ≡ true → test q ≡ false
  found_none [] none q is in_it = absurd (let e : false ≡ true = is in cc)
  found_none (x ∷ xs) none q is in_it = by_bool (inside x) (λ v. cond v (cond (test x) (Some x) (found xs)) (found xs) ≡ None → test q ≡ false)
      (λ _. by_bool (test x) (λ w. cond w (Some x) (found xs) ≡ None → test q ≡ false)
      (λ _ n. absurd (let e : ◌≡◌ {A = Option Key} (Some x) None = n in cc))
      (λ fails n. by_has x q xs (test q ≡ false) is (λ e. ap test e ∙ fails) (λ h. found_none xs n q h in_it)))
      (λ out n. by_has x q xs (test q ≡ false) is (λ e. let f : true ≡ false = sym in_it ∙ ap inside e ∙ out in absurd (cc)) (λ h. found_none xs n q h in_it))
      (sym (found_first x xs) ∙ none)

  -- the first of those inside that passes the test
  record IsFirstFound (ks : List Key) (key : Key) : Type 0 where
    in_list : has ks key ≡ true
    in_it : inside key ≡ true
    passes : test key ≡ true
    before : (q : Key) → has ks q ≡ true → inside q ≡ true → key_cmp q key ≡ Less → test q ≡ false

  found_here : (x : Key) (xs : List Key) → IsStrictlySortedBy key_cmp (x ∷ xs) → inside x ≡ true → test x ≡ true → IsFirstFound (x ∷ xs) x
  found_here x xs after in_x passes = record {
    in_list = ap (λ b. b || has xs x) (same_key x);
    in_it = in_x;
    passes = passes;
    before = λ q is _ below. by_has x q xs (test q ≡ false) is
        (λ e. absurd (not_both q x below (ap (λ k. key_cmp k q) (sym e) ∙ ap (key_cmp q) e ∙ below)))
        (λ h. absurd (not_both q x below (after_first x q xs after h)));
  }

  found_later : (x : Key) (xs : List Key) (key : Key) → (inside x ≡ true → test x ≡ false) → IsFirstFound xs key → IsFirstFound (x ∷ xs) key
  found_later x xs key skipped first = record {
    in_list = or_true (is_eq (key_cmp key x)) (has xs key) first.in_list;
    in_it = first.in_it;
    passes = first.passes;
    before = λ q is in_q below. by_has x q xs (test q ≡ false) is
        (λ e. ap test e ∙ skipped (ap inside (sym e) ∙ in_q))
        (λ h. first.before q h in_q below);
  }
    where
      or_true : (a b : Bool) → b ≡ true → a || b ≡ true
      or_true true b h = refl
      or_true false b h = h

  found_some : (ks : List Key) (key : Key) → IsStrictlySortedBy key_cmp ks → found ks ≡ Some key → IsFirstFound ks key
  found_some [] key sorted some = absurd (let e : ◌≡◌ {A = Option Key} None (Some key) = some in cc)
  found_some (x ∷ xs) key sorted some = by_bool (inside x) (λ v. cond v (cond (test x) (Some x) (found xs)) (found xs) ≡ Some key → IsFirstFound (x ∷ xs) key)
      (λ in_x. by_bool (test x) (λ w. cond w (Some x) (found xs) ≡ Some key → IsFirstFound (x ∷ xs) key)
      (λ passes s. let same : x ≡ key = cc in subst (IsFirstFound (x ∷ xs)) same (found_here x xs sorted in_x passes))
      (λ fails s. found_later x xs key (λ _. fails) (found_some xs key (sorted_tail key_cmp x xs sorted) s)))
      (λ out s. found_later x xs key (λ in_x. let f : true ≡ false = sym in_x ∙ out in absurd (cc)) (found_some xs key (sorted_tail key_cmp x xs sorted) s))
      (sym (found_first x xs) ∙ some)

-- ---- keys of the prefixes beyond a place
less_then : (o r : Ordering) → o ≡ Less → is_lt (ordering_then o r) ≡ true
less_then o r e = ap (λ x. is_lt (ordering_then x r)) e

and_true : (b : Bool) → b ≡ true → b && true ≡ true
and_true true e = refl
and_true false e = cc

true_and : (b : Bool) → b && true ≡ true → b ≡ true
true_and true e = refl
true_and false e = let f : false ≡ true = e in cc

beyond_inside : (after : Option AddressPrefix) (q : Key) → IsBeyond after q.0 → range_contains key_cmp (behind after) Unbounded q ≡ true
beyond_inside None q beyond = refl
beyond_inside (Some p) q beyond = and_true (is_lt (key_cmp (p, 18446744073709551615) q)) (less_then (prefix_cmp p q.0) (nat_cmp 18446744073709551615 q.1) beyond)

greatest : (o : Ordering) (n : ℕ) → n < 2 ^ 64 → is_lt (ordering_then o (nat_cmp 18446744073709551615 n)) ≡ true → o ≡ Less
greatest Less n fits e = refl
greatest Equal n fits e = above (nat_cmp 18446744073709551615 n) refl e
  where
    above : (r : Ordering) → r ≡ nat_cmp 18446744073709551615 n → is_lt r ≡ true → Equal ≡ Less
    above Less is e = let h : 18446744073709551615 < n = ranked 18446744073709551615 n Less is in absurd (omega arith)
    above Equal is e = absurd (let f : false ≡ true = e in cc)
    above Greater is e = absurd (let f : false ≡ true = e in cc)
greatest Greater n fits e = absurd (let f : false ≡ true = e in cc)

inside_beyond : (after : Option AddressPrefix) (q : Key) → q.1 < 2 ^ 64 → range_contains key_cmp (behind after) Unbounded q ≡ true → IsBeyond after q.0
inside_beyond None q fits is = tt
inside_beyond (Some p) q fits is = greatest (prefix_cmp p q.0) q.1 fits (true_and (is_lt (key_cmp (p, 18446744073709551615) q)) is)

pub first_stop : (index : BTreeSet Key) (test : Key → Bool) (after : Option AddressPrefix) (result : Option Key) → IsOrdered key_cmp index → ((p : AddressPrefix) (n : ℕ) → contains key_cmp index (p, n) ≡ true → n < 2 ^ 64)
    → result ≡ find test (keys_from (behind after) index) → IsFirstStop index test after result
first_stop index test after None sorted fits is = λ key in_index beyond. found_none (range_contains key_cmp (behind after) Unbounded) test index.keys (sym is) key in_index (beyond_inside after key beyond)
first_stop index test after (Some key) sorted fits is =
    let first = found_some (range_contains key_cmp (behind after) Unbounded) test index.keys key sorted (sym is) in (
      inside_beyond after key (fits key.0 key.1 first.in_list) first.in_it,
      first.in_list,
      first.passes,
      λ q in_index beyond before. first.before q in_index (beyond_inside after q beyond) (ap (λ o. ordering_then o (nat_cmp q.1 key.1)) before),
    )

-- ---- the first key of those from another one on
pub first_from : (index : BTreeSet Key) (from : Key) (r rest : List Key) (key : Key) → IsKeyRangeOf key_cmp (Included from) Unbounded index r → r ≡ key ∷ rest → IsFirstKey index from (Some key)
first_from index from r rest key range e =
    let here : IsKeyInRange key_cmp (Included from) Unbounded index key = subst (λ (x : List Key). IfSome (slice_get x 0) (IsKeyInRange key_cmp (Included from) Unbounded index)) e range.1 in (
      here.0.0,
      here.1,
      λ q low below. elim (contains key_cmp index q) as (λ b. contains key_cmp index q ≡ b → b ≡ false) [
        | true ↦ λ has.
            let high : IsLeBy key_cmp key q = subst (λ (x : List Key). IfSome (slice_get x 0) (λ k. IsLeBy key_cmp k q)) e (range.2 q (low, tt) has) in
            let clash : true ≡ false = sym (ap is_gt (keys_total.antisymm key q ∙ ap ordering_reverse below)) ∙ high in absurd (cc)
        | false ↦ λ _. refl
      ] refl,
    )
