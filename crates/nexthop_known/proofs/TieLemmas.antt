-- What the sets of next hops say, after each change.
use Rattle.std.proofs.Common.{◌≡◌, ◌⊎◌, ℕ, List, [], ◌∷◌, Bool, true, false, not, ◌&&◌, cond, refl, sym, ap, ◌∙◌, subst, inl, inr, Option, Some, None, is_some, arith}
use Rattle.std.specs.Option.{option_map, IfSome}
use Rattle.std.specs.List.{slice_get, list_any}
use Rattle.std.specs.declared.ops.Bound.TheVariants.{Included, Unbounded}
use Rattle.std.specs.Ordering.{nat_cmp, ordering_then, is_gt}
use Rattle.std.specs.declared.cmp.Ordering.{Ordering}
use Rattle.std.specs.declared.cmp.Ordering.TheVariants.{Less, Equal, Greater}
use Rattle.std.specs.Cmp.{Equal-is}
use Rattle.std.specs.BTreeMap.{BTreeMap, is_at}
use Rattle.std.specs.BTreeMap as tree
use Rattle.std.specs.Map.{lookup}
use Rattle.std.specs.BTreeMap.Range.{IsLeBy}
use Rattle.std.specs.BTreeSet.{BTreeSet, IsKeyRangeOf, IsKeyInRange}
use Rattle.std.specs.BTreeSet as set
use Rattle.std.proofs.lemmas.Map.Lookups.{exact_unsigned}
use Rattle.std.proofs.lemmas.Bool.Decides.{nat_tests}
use Rattle.addr4.specs.Prefixes.{AddressPrefix, prefix_cmp, same_prefix}
use Rattle.addr4.proofs.PrefixOrder.{exact_prefixes, itself, comes_after}
use Rattle.nexthop_known.proofs.HopLemmas.{both_equal, same_is, same_told, same_self, with_told}
use Rattle.nexthop_known.specs.Hops.{Hop}
use Rattle.nexthop_known.specs.Ties.{Holding}
use Rattle.nexthop_known.specs.Hops.{is_with, staled, came_at, is_stale_at, IsSettledAt}
use Rattle.nexthop_known.specs.Ties.{holding_cmp, is_own, other_than, let_go, AreTied, AreTold, Puts, Sets, IsHeldByNone, Maps, PartlyMaps}

-- ---- orders

pub one_address : (a q : ℕ) → is_at (nat_cmp a) q ≡ true → q ≡ a
one_address a q e = sym (exact_unsigned a q ((Equal-is (nat_cmp a q)).0 e))

own_parts : (s : AddressPrefix) (a : ℕ) (k : Holding) → is_at (holding_cmp (record { subnet = s; hop = a })) k ≡ (same_prefix s k.subnet && is_at (nat_cmp a) k.hop)
own_parts s a k = both_equal (prefix_cmp s k.subnet) (nat_cmp a k.hop) ∙ ap (λ b. b && is_at (nat_cmp a) k.hop) (same_is s k.subnet)

pub not_same : (b : Bool) → not b ≡ true → b ≡ false
not_same true e = absurd (cc)
not_same false e = refl

-- ---- the first holding of a subnet

then_le : (r s : Ordering) → is_gt (ordering_then r s) ≡ false → (r ≡ Equal) ⊎ (r ≡ Less)
then_le Less s h = inr refl
then_le Equal s h = inl refl
then_le Greater s h = absurd (cc)

least_address : (a : ℕ) → is_gt (nat_cmp 0 a) ≡ false
least_address a = grind (arith, nat_tests)

from_first : (s : AddressPrefix) (a : ℕ) → IsLeBy holding_cmp (record { subnet = s; hop = 0 }) (record { subnet = s; hop = a })
from_first s a = ap (λ o. is_gt (ordering_then o (nat_cmp 0 a))) ((Equal-is (prefix_cmp s s)).0 (itself s)) ∙ least_address a

beyond : (s : AddressPrefix) (n a : ℕ) → n ≡ 0 → IsLeBy holding_cmp (record { subnet = s; hop = n }) (record { subnet = s; hop = a })
beyond s n a zero = subst (λ (x : ℕ). IsLeBy holding_cmp (record { subnet = s; hop = x }) (record { subnet = s; hop = a })) (sym zero) (from_first s a)

squeezed : (s : AddressPrefix) (a : ℕ) (f : Holding) → IsLeBy holding_cmp (record { subnet = s; hop = 0 }) f → IsLeBy holding_cmp f (record { subnet = s; hop = a }) → f.subnet ≡ s
squeezed s a f low high = elim (then_le (prefix_cmp s f.subnet) (nat_cmp 0 f.hop) low) [
  | inl e ↦ sym (exact_prefixes s f.subnet e)
  | inr less ↦ elim (then_le (prefix_cmp f.subnet s) (nat_cmp f.hop a) high) [
    | inl e ↦ exact_prefixes f.subnet s e
    | inr more ↦ absurd (let clash : true ≡ false = sym (comes_after s f.subnet less) ∙ ap is_gt more in cc)
  ]
]

pub none_from : (held : BTreeSet Holding) (s : AddressPrefix) (n : ℕ) (r : List Holding) → n ≡ 0 → IsKeyRangeOf holding_cmp (Included (record { subnet = s; hop = n })) Unbounded held r → r ≡ [] → IsHeldByNone held s
none_from held s n r zero range e = λ a. range.5 e (record { subnet = s; hop = a }) (beyond s n a zero, tt)

pub other_first : (held : BTreeSet Holding) (s : AddressPrefix) (n : ℕ) (r rest : List Holding) (f : Holding) → n ≡ 0 → IsKeyRangeOf holding_cmp (Included (record { subnet = s; hop = n })) Unbounded held r → r ≡ f ∷ rest → same_prefix f.subnet s ≡ false → IsHeldByNone held s
other_first held s n r rest f zero range e ne = λ a.
    let q : Holding = record { subnet = s; hop = a } in
    elim (set.contains holding_cmp held q) as (λ b. set.contains holding_cmp held q ≡ b → b ≡ false) [
      | true ↦ λ has. absurd (
          let low : IsLeBy holding_cmp (record { subnet = s; hop = n }) f = (subst (λ (x : List Holding). IfSome (slice_get x 0) (IsKeyInRange holding_cmp (Included (record { subnet = s; hop = n })) Unbounded held)) e range.1).0.0 in
          let high : IsLeBy holding_cmp f q = subst (λ (x : List Holding). IfSome (slice_get x 0) (λ k. IsLeBy holding_cmp k q)) e (range.2 q (beyond s n a zero, tt) has) in
          let is = squeezed s a f (subst (λ (x : ℕ). IsLeBy holding_cmp (record { subnet = s; hop = x }) f) zero low) high in
          let clash : true ≡ false = sym (same_self s) ∙ sym (ap (λ x. same_prefix x s) is) ∙ ne in cc)
      | false ↦ λ _. refl
    ] refl

-- ---- a row put in

-- whether it is the holding with this subnet, if any, where the address is that of the next hop
abbrev owns : Bool → AddressPrefix → Option AddressPrefix → Bool
owns b q None = false
owns b q (Some t) = same_prefix t q && b

own_is : (a : ℕ) (came : Option AddressPrefix) (k : Holding) → is_own a came k ≡ owns (is_at (nat_cmp a) k.hop) k.subnet came
own_is a None k = refl
own_is a (Some s) k = own_parts s a k

and_false : (b : Bool) → (b && false) ≡ false
and_false true = refl
and_false false = refl

none_own : (q : AddressPrefix) (came : Option AddressPrefix) → owns false q came ≡ false
none_own q None = refl
none_own q (Some t) = and_false (same_prefix t q)

yes : (b : Bool) → cond (b && true) true false ≡ b
yes true = refl
yes false = refl

yes_again : (b : Bool) → cond (b && true) true b ≡ b
yes_again true = refl
yes_again false = refl

apart : (s t q : AddressPrefix) → same_prefix t s ≡ false → same_prefix t q ≡ true → same_prefix s q ≡ false
apart s t q ne e = elim (same_prefix s q) as (λ b. same_prefix s q ≡ b → b ≡ false) [
  | true ↦ λ also. absurd (let same : t ≡ s = same_told t q e ∙ sym (same_told s q also) in let clash : true ≡ false = sym (same_self s) ∙ sym (ap (λ x. same_prefix x s) same) ∙ ne in cc)
  | false ↦ λ _. refl
] refl

here_two : (s t q : AddressPrefix) → same_prefix t s ≡ false → cond (same_prefix t q && true) false (cond (same_prefix s q && true) true (same_prefix t q)) ≡ same_prefix s q
here_two s t q ne = elim (same_prefix t q) as (λ b. same_prefix t q ≡ b → cond (b && true) false (cond (same_prefix s q && true) true b) ≡ same_prefix s q) [
  | true ↦ λ e. sym (apart s t q ne e)
  | false ↦ λ _. yes (same_prefix s q)
] refl

-- at the next hop itself
here : (s q : AddressPrefix) (before : Option AddressPrefix) → cond (owns true q (other_than s before)) false (cond (same_prefix s q && true) true (is_with q before)) ≡ same_prefix s q
here s q None = yes (same_prefix s q)
here s q (Some t) = elim (same_prefix t s) as (λ b. same_prefix t s ≡ b → cond (owns true q (cond b None (Some t))) false (cond (same_prefix s q && true) true (same_prefix t q)) ≡ same_prefix s q) [
  | true ↦ λ e. ap (λ x. cond (same_prefix s q && true) true (same_prefix x q)) (same_told t s e) ∙ yes_again (same_prefix s q)
  | false ↦ λ ne. here_two s t q ne
] refl

-- at another
elsewhere : (s q : AddressPrefix) (came : Option AddressPrefix) (was : Bool) → cond (owns false q came) false (cond (same_prefix s q && false) true was) ≡ was
elsewhere s q came was = ap (λ b. cond b false (cond (same_prefix s q && false) true was)) (none_own q came) ∙ ap (λ b. cond b true was) (and_false (same_prefix s q))

own_gone : (q : AddressPrefix) (came : Option AddressPrefix) → cond (owns true q came) false (is_with q came) ≡ false
own_gone q None = refl
own_gone q (Some t) = elim (same_prefix t q) as (λ b. cond (b && true) false b ≡ false) [
  | true ↦ refl
  | false ↦ refl
]

-- where there was no memory for a new one
back : (b same was : Bool) → (b ≡ true → was ≡ false) → cond (same && b) false (cond (same && b) true was) ≡ was
back true true was none = sym (none refl)
back true false was none = refl
back false true was none = refl
back false false was none = refl

module _ {A : Type 0} where
  stale_put : (b was : Bool) (o : Option (Hop A)) (row : Hop A) (s : AddressPrefix) → row.came ≡ Some s → was ≡ is_stale_at o → cond b false was ≡ is_stale_at (cond b (Some row) o)
  stale_put true was o row s e is = sym (ap (λ (c : Option AddressPrefix). not (is_some c)) e)
  stale_put false was o row s e is = is

  held_put : (b : Bool) (s q : AddressPrefix) (was : Bool) (at before : Option (Hop A)) (row : Hop A) → row.came ≡ Some s → (b ≡ true → at ≡ before) → was ≡ is_with q (came_at at)
      → cond (owns b q (other_than s (came_at before))) false (cond (same_prefix s q && b) true was) ≡ is_with q (came_at (cond b (Some row) at))
  held_put true s q was at before row e same is =
      ap (λ w. cond (owns true q (other_than s (came_at before))) false (cond (same_prefix s q && true) true w)) (is ∙ ap (λ o. is_with q (came_at o)) (same refl))
      ∙ here s q (came_at before) ∙ sym (ap (is_with q) e)
  held_put false s q was at before row e same is = elsewhere s q (other_than s (came_at before)) was ∙ is

  pub put_tied : (hops hops' : BTreeMap ℕ (Hop A)) (stale stale' : BTreeSet ℕ) (held added held' : BTreeSet Holding) (a : ℕ) (s : AddressPrefix) (row : Hop A) → row.came ≡ Some s → AreTied hops stale held
      → Puts hops hops' a (Some row)
      → Sets nat_cmp (is_at (nat_cmp a)) false stale stale'
      → ((k : Holding) → set.contains holding_cmp added k ≡ cond (is_at (holding_cmp (record { subnet = s; hop = a })) k) true (set.contains holding_cmp held k))
      → ((k : Holding) → set.contains holding_cmp held' k ≡ cond (is_own a (other_than s (came_at (tree.get nat_cmp hops a))) k) false (set.contains holding_cmp added k))
      → AreTied hops' stale' held'
  put_tied hops hops' stale stale' held added held' a s row e tied puts takes adds leaves = record {
    stale_is = λ q. takes q ∙ stale_put (is_at (nat_cmp a) q) (set.contains nat_cmp stale q) (tree.get nat_cmp hops q) row s e (tied.stale_is q) ∙ sym (ap is_stale_at (puts q));
    held_is = λ k.
        let b = is_at (nat_cmp a) k.hop in
        let o = other_than s (came_at (tree.get nat_cmp hops a)) in
        leaves k ∙ (λ i. cond (own_is a o k i) false (adds k i))
        ∙ ap (λ c. cond (owns b k.subnet o) false (cond c true (set.contains holding_cmp held k))) (own_parts s a k)
        ∙ held_put b s k.subnet (set.contains holding_cmp held k) (tree.get nat_cmp hops k.hop) (tree.get nat_cmp hops a) row e (λ t. ap (λ x. tree.get nat_cmp hops x) (one_address a k.hop t)) (tied.held_is k)
        ∙ sym (ap (λ x. is_with k.subnet (came_at x)) (puts k.hop));
  }

  pub back_tied : (hops hops' : BTreeMap ℕ (Hop A)) (stale : BTreeSet ℕ) (held added held' : BTreeSet Holding) (a : ℕ) (s : AddressPrefix) → AreTied hops stale held → hops'.entries ≡ hops.entries → tree.get nat_cmp hops a ≡ None
      → ((k : Holding) → set.contains holding_cmp added k ≡ cond (is_at (holding_cmp (record { subnet = s; hop = a })) k) true (set.contains holding_cmp held k))
      → ((k : Holding) → set.contains holding_cmp held' k ≡ cond (is_at (holding_cmp (record { subnet = s; hop = a })) k) false (set.contains holding_cmp added k))
      → AreTied hops' stale held'
  back_tied hops hops' stale held added held' a s tied same none adds takes = record {
    stale_is = λ q. tied.stale_is q ∙ sym (ap is_stale_at (got q));
    held_is = λ k.
        let b = is_at (nat_cmp a) k.hop in
        takes k ∙ (λ i. cond (own_parts s a k i) false (adds k i)) ∙ ap (λ c. cond (same_prefix s k.subnet && b) false (cond c true (set.contains holding_cmp held k))) (own_parts s a k)
        ∙ back b (same_prefix s k.subnet) (set.contains holding_cmp held k) (λ t. tied.held_is k ∙ ap (λ x. is_with k.subnet (came_at x)) (ap (λ x. tree.get nat_cmp hops x) (one_address a k.hop t) ∙ none))
        ∙ tied.held_is k ∙ sym (ap (λ x. is_with k.subnet (came_at x)) (got k.hop));
  }
    where
      got : (q : ℕ) → tree.get nat_cmp hops' q ≡ tree.get nat_cmp hops q
      got q = ap (λ (es : List (ℕ × Hop A)). lookup (is_at (nat_cmp q)) es) same

  pub none_tied : (hops : BTreeMap ℕ (Hop A)) (stale : BTreeSet ℕ) (held : BTreeSet Holding) → hops.entries ≡ [] → stale.keys ≡ [] → held.keys ≡ [] → AreTied hops stale held
  none_tied hops stale held no_hop no_stale no_held = record {
    stale_is = λ q. ap (λ (ks : List ℕ). list_any (is_at (nat_cmp q)) ks) no_stale ∙ sym (ap (λ (es : List (ℕ × Hop A)). is_stale_at (lookup (is_at (nat_cmp q)) es)) no_hop);
    held_is = λ k.
        ap (λ (ks : List Holding). list_any (is_at (holding_cmp k)) ks) no_held
        ∙ sym (ap (λ (es : List (ℕ × Hop A)). is_with k.subnet (came_at (lookup (is_at (nat_cmp k.hop)) es))) no_hop);
  }

  pub none_told : (hops : BTreeMap ℕ (Hop A)) (differing : BTreeSet ℕ) → hops.entries ≡ [] → differing.keys ≡ [] → AreTold hops differing
  none_told hops differing no_hop none = λ a. (
    λ _. subst (λ (es : List (ℕ × Hop A)). IsSettledAt (lookup (is_at (nat_cmp a)) es)) (sym no_hop) tt,
    λ _. ap (λ (ks : List ℕ). list_any (is_at (nat_cmp a)) ks) none,
  )

  -- ---- one taken out

  stale_taken : (b was : Bool) (o : Option (Hop A)) → was ≡ is_stale_at o → cond b false was ≡ is_stale_at (cond b None o)
  stale_taken true was o is = refl
  stale_taken false was o is = is

  held_taken : (b : Bool) (q : AddressPrefix) (was : Bool) (at before : Option (Hop A)) → (b ≡ true → at ≡ before) → was ≡ is_with q (came_at at) → cond (owns b q (came_at before)) false was ≡ is_with q (came_at (cond b None at))
  held_taken true q was at before same is = ap (λ w. cond (owns true q (came_at before)) false w) (is ∙ ap (λ o. is_with q (came_at o)) (same refl)) ∙ own_gone q (came_at before)
  held_taken false q was at before same is = ap (λ b. cond b false was) (none_own q (came_at before)) ∙ is

  pub taken_tied : (hops hops' : BTreeMap ℕ (Hop A)) (stale stale' : BTreeSet ℕ) (held held' : BTreeSet Holding) (a : ℕ) → AreTied hops stale held
      → Puts hops hops' a None
      → Sets nat_cmp (is_at (nat_cmp a)) false stale stale'
      → ((k : Holding) → set.contains holding_cmp held' k ≡ cond (is_own a (came_at (tree.get nat_cmp hops a)) k) false (set.contains holding_cmp held k))
      → AreTied hops' stale' held'
  taken_tied hops hops' stale stale' held held' a tied puts takes leaves = record {
    stale_is = λ q. takes q ∙ stale_taken (is_at (nat_cmp a) q) (set.contains nat_cmp stale q) (tree.get nat_cmp hops q) (tied.stale_is q) ∙ sym (ap is_stale_at (puts q));
    held_is = λ k.
        let b = is_at (nat_cmp a) k.hop in
        leaves k ∙ ap (λ c. cond c false (set.contains holding_cmp held k)) (own_is a (came_at (tree.get nat_cmp hops a)) k)
        ∙ held_taken b k.subnet (set.contains holding_cmp held k) (tree.get nat_cmp hops k.hop) (tree.get nat_cmp hops a) (λ t. ap (λ x. tree.get nat_cmp hops x) (one_address a k.hop t)) (tied.held_is k)
        ∙ sym (ap (λ x. is_with k.subnet (came_at x)) (puts k.hop));
  }

  -- ---- one made stale

  pub found_with : (s : AddressPrefix) (o : Option (Hop A)) → is_with s (came_at o) ≡ true → (h : Hop A) × (o ≡ Some h) × (h.came ≡ Some s)
  found_with s None e = absurd (cc)
  found_with s (Some h) e = (h, refl, with_told s h.came e)

  stale_more : (b was : Bool) (o at : Option (Hop A)) (h : Hop A) → o ≡ Some h → was ≡ is_stale_at at → cond b true was ≡ is_stale_at (cond b (option_map let_go o) at)
  stale_more true was o at h e is = sym (ap (λ x. is_stale_at (option_map let_go x)) e)
  stale_more false was o at h e is = is

  held_less : (b same was : Bool) (q : AddressPrefix) (o at : Option (Hop A)) (h : Hop A) → o ≡ Some h → (b ≡ true → was ≡ same) → was ≡ is_with q (came_at at) → cond (same && b) false was ≡ is_with q (came_at (cond b (option_map let_go o) at))
  held_less true true was q o at h e here is = sym (ap (λ x. is_with q (came_at (option_map let_go x))) e)
  held_less true false was q o at h e here is = here refl ∙ sym (ap (λ x. is_with q (came_at (option_map let_go x))) e)
  held_less false true was q o at h e here is = is
  held_less false false was q o at h e here is = is

  pub stale_tied : (hops hops' : BTreeMap ℕ (Hop A)) (stale stale' : BTreeSet ℕ) (held held' : BTreeSet Holding) (a : ℕ) (s : AddressPrefix) → AreTied hops stale held → set.contains holding_cmp held (record { subnet = s; hop = a }) ≡ true
      → Puts hops hops' a (option_map let_go (tree.get nat_cmp hops a))
      → Sets nat_cmp (is_at (nat_cmp a)) true stale stale'
      → ((k : Holding) → set.contains holding_cmp held' k ≡ cond (is_at (holding_cmp (record { subnet = s; hop = a })) k) false (set.contains holding_cmp held k))
      → AreTied hops' stale' held'
  stale_tied hops hops' stale stale' held held' a s tied has puts adds takes =
      let found = found_with s (tree.get nat_cmp hops a) (sym (tied.held_is (record { subnet = s; hop = a })) ∙ has) in
      record {
        stale_is = λ q.
            adds q ∙ stale_more (is_at (nat_cmp a) q) (set.contains nat_cmp stale q) (tree.get nat_cmp hops a) (tree.get nat_cmp hops q) found.0 found.1 (tied.stale_is q) ∙ sym (ap is_stale_at (puts q));
        held_is = λ k.
            takes k ∙ ap (λ c. cond c false (set.contains holding_cmp held k)) (own_parts s a k)
            ∙ held_less (is_at (nat_cmp a) k.hop) (same_prefix s k.subnet) (set.contains holding_cmp held k) k.subnet (tree.get nat_cmp hops a) (tree.get nat_cmp hops k.hop) found.0 found.1
            (λ t. tied.held_is k ∙ ap (λ x. is_with k.subnet (came_at x)) (ap (λ x. tree.get nat_cmp hops x) (one_address a k.hop t) ∙ found.1) ∙ ap (is_with k.subnet) found.2)
            (tied.held_is k)
            ∙ sym (ap (λ x. is_with k.subnet (came_at x)) (puts k.hop));
      }

  -- one that was made stale came with no subnet
  not_twice : (s : AddressPrefix) (o : Option (Hop A)) → is_with s (came_at (option_map (staled s) o)) ≡ true → ⊥
  not_twice s None e = absurd (cc)
  not_twice s (Some h) e = elim (is_with s h.came) as (λ b. is_with s h.came ≡ b → is_with s (cond b None h.came) ≡ true → ⊥) [
    | true ↦ λ _ none. absurd (cc)
    | false ↦ λ ne is. absurd (let clash : false ≡ true = sym ne ∙ is in cc)
  ] refl e

  gone : (s : AddressPrefix) (o : Option (Hop A)) → is_with s (came_at o) ≡ true → option_map let_go o ≡ option_map (staled s) o
  gone s None e = refl
  gone s (Some h) e = ap (λ b. Some (record { in_force = h.in_force; fresh = h.fresh; came = cond b None h.came })) (sym e)

  stale_one : (b : Bool) (s : AddressPrefix) (first old o was new : Option (Hop A)) → is_with s (came_at o) ≡ true → (b ≡ true → (old ≡ o) × (first ≡ was)) → new ≡ cond b (option_map let_go o) old
      → ((old ≡ first) ⊎ (old ≡ option_map (staled s) first)) → (new ≡ first) ⊎ (new ≡ option_map (staled s) first)
  stale_one true s first old o was new e same is (inl x) = inr (is ∙ gone s o e ∙ ap (option_map (staled s)) (sym (same refl).0 ∙ x))
  stale_one true s first old o was new e same is (inr x) = absurd (not_twice s first (ap (λ y. is_with s (came_at y)) (sym x ∙ (same refl).0) ∙ e))
  stale_one false s first old o was new e same is (inl x) = inl (is ∙ x)
  stale_one false s first old o was new e same is (inr x) = inr (is ∙ x)

  pub stale_more_of : (first hops hops' : BTreeMap ℕ (Hop A)) (stale : BTreeSet ℕ) (held : BTreeSet Holding) (a : ℕ) (s : AddressPrefix) → AreTied hops stale held → set.contains holding_cmp held (record { subnet = s; hop = a }) ≡ true
      → Puts hops hops' a (option_map let_go (tree.get nat_cmp hops a)) → PartlyMaps (staled s) first hops → PartlyMaps (staled s) first hops'
  stale_more_of first hops hops' stale held a s tied has puts partly = λ q.
      stale_one (is_at (nat_cmp a) q) s (tree.get nat_cmp first q) (tree.get nat_cmp hops q) (tree.get nat_cmp hops a) (tree.get nat_cmp first a) (tree.get nat_cmp hops' q)
      (sym (tied.held_is (record { subnet = s; hop = a })) ∙ has)
      (λ t. (ap (λ x. tree.get nat_cmp hops x) (one_address a q t), ap (λ x. tree.get nat_cmp first x) (one_address a q t)))
      (puts q) (partly q)

  kept : (s : AddressPrefix) (o : Option (Hop A)) → is_with s (came_at o) ≡ false → o ≡ option_map (staled s) o
  kept s None e = refl
  kept s (Some h) e = ap (λ b. Some (record { in_force = h.in_force; fresh = h.fresh; came = cond b None h.came })) (sym e)

  pub all_stale : (first hops : BTreeMap ℕ (Hop A)) (stale : BTreeSet ℕ) (held : BTreeSet Holding) (s : AddressPrefix) → AreTied hops stale held → IsHeldByNone held s → PartlyMaps (staled s) first hops → Maps (staled s) first hops
  all_stale first hops stale held s tied none partly = λ q. elim (partly q) [
    | inl e ↦ e ∙ kept s (tree.get nat_cmp first q) (ap (λ x. is_with s (came_at x)) (sym e) ∙ sym (tied.held_is (record { subnet = s; hop = q })) ∙ none q)
    | inr e ↦ e
  ]
