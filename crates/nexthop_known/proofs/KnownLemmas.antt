-- What the fields of the known next hops mean for the map that contracts see.
use Rattle.std.proofs.Common.{◌≡◌, ◌↔◌, ℕ, ◌<◌, ◌≤◌, Bool, true, false, not, ◌||◌, List, [], ◌∷◌, length, arith, refl, sym, ap, ◌∙◌, subst, inl, inr, Option, Some, None, is_some, MatchBool, MatchOption}
use Rattle.std.specs.Option.{option_map}
use Rattle.std.specs.List.{list_any}
use Rattle.std.specs.Ordering.{nat_cmp, is_eq, is_gt}
use Rattle.std.specs.Cmp.{nat_cmp_total, tied_itself}
use Rattle.std.specs.BTreeMap.{BTreeMap, is_at}
use Rattle.std.specs.BTreeMap as tree
use Rattle.std.specs.BTreeSet.{BTreeSet, btree_set_len}
use Rattle.std.specs.BTreeSet as set
use Rattle.std.specs.FinMap.{from_entries}
use Rattle.std.specs.FinMap as map
use Rattle.std.proofs.lemmas.Bool.Decides.{nat_tests}
use Rattle.addr4.specs.Prefixes.{AddressPrefix}
use Rattle.link_change.proofs.MapLemmas.{map_read, read_in}
use Rattle.nexthop_known.specs.Hops.{Hop}
use Rattle.nexthop_known.specs.Ties.{Holding}
use Rattle.nexthop_known.specs.Hops.{Hops, is_with, came_at, is_stale_at, IsWithSome, IsWithNone, IsMapped, IsPartlyMapped, IsLeastStale, IsSettled, IsDiffering, IsUnshared, IsSettledAt, IsDifferingAt}
use Rattle.nexthop_known.specs.Ties.{holding_cmp, AreTied, AreTold, Maps, PartlyMaps, IsFreed, IsHeldByNone}
use Rattle.nexthop_known.proofs.HopLemmas.{same_self}
use Rattle.nexthop_known.proofs.TieLemmas.{found_with}

none_listed : (ks : List ℕ) (a : ℕ) → (0 < length ks → ⊥) → list_any (is_at (nat_cmp a)) ks ≡ false
none_listed [] a none = refl
none_listed (k ∷ ks) a none = absurd (none (omega arith))

not_above : (a q : ℕ) → is_gt (nat_cmp a q) ≡ false → a ≤ q
not_above a q e = grind (arith, nat_tests)

some_listed : (ks : List ℕ) → (length ks ≡ 0 → ⊥) → (k : ℕ) × (list_any (is_at (nat_cmp k)) ks ≡ true)
some_listed [] some = absurd (some refl)
some_listed (k ∷ ks) some = (k, ap (λ o. is_eq o || list_any (is_at (nat_cmp k)) ks) (tied_itself nat_cmp_total k))

module _ {A : Type 0} where
  pub mapped : (f : Hop A → Hop A) (m n : BTreeMap ℕ (Hop A)) (now : Hops A) → from_entries m.entries ≡ now → Maps f m n → IsMapped f now (from_entries n.entries)
  mapped f m n now view maps = λ a. map_read nat_cmp_total n.entries a ∙ maps a ∙ ap (option_map f) (sym (read_in nat_cmp_total m now a view))

  pub partly_mapped : (f : Hop A → Hop A) (m n : BTreeMap ℕ (Hop A)) (now : Hops A) → from_entries m.entries ≡ now → PartlyMaps f m n → IsPartlyMapped f now (from_entries n.entries)
  partly_mapped f m n now view maps = λ a. elim (maps a) [
    | inl e ↦ inl (map_read nat_cmp_total n.entries a ∙ e ∙ sym (read_in nat_cmp_total m now a view))
    | inr e ↦ inr (map_read nat_cmp_total n.entries a ∙ e ∙ ap (option_map f) (sym (read_in nat_cmp_total m now a view)))
  ]

  -- ---- a subnet given up

  pub freed : (n : BTreeMap ℕ (Hop A)) (stale : BTreeSet ℕ) (held : BTreeSet Holding) (came result : Option AddressPrefix) → AreTied n stale held → IsFreed held came result → IsUnshared (map.get (from_entries {R = nat_cmp} n.entries)) came result
  freed n stale held came None tied (inl e) = inl e
  freed n stale held came None tied (inr has) =
      let found = found_with has.0 (tree.get nat_cmp n has.2) (sym (tied.held_is (record { subnet = has.0; hop = has.2 })) ∙ has.3) in
      inr (has.0, has.1, (has.2, found.0, map_read nat_cmp_total n.entries has.2 ∙ found.1, found.2))
  freed n stale held came (Some s) tied is = (
    is.0,
    λ a h e with_s.
        let here : tree.get nat_cmp n a ≡ Some h = sym (map_read nat_cmp_total n.entries a) ∙ e in
        let told = sym (is.1 a) ∙ tied.held_is (record { subnet = s; hop = a }) ∙ ap (λ o. is_with s (came_at o)) here ∙ ap (is_with s) with_s ∙ same_self s in
        let clash : false ≡ true = told in cc,
  )

  -- ---- whether the answer of one came with a subnet

  none_with : (m : BTreeMap ℕ (Hop A)) (stale : BTreeSet ℕ) (held : BTreeSet Holding) (now : Hops A) (s : AddressPrefix) → AreTied m stale held → from_entries m.entries ≡ now → IsHeldByNone held s → IsWithNone (map.get now) s
  none_with m stale held now s tied view none = λ a h e with_s.
      let here : tree.get nat_cmp m a ≡ Some h = sym (read_in nat_cmp_total m now a view) ∙ e in
      let told = sym (none a) ∙ tied.held_is (record { subnet = s; hop = a }) ∙ ap (λ o. is_with s (came_at o)) here ∙ ap (is_with s) with_s ∙ same_self s in
      let clash : false ≡ true = told in cc

  some_with : (m : BTreeMap ℕ (Hop A)) (stale : BTreeSet ℕ) (held : BTreeSet Holding) (now : Hops A) (s : AddressPrefix) (a : ℕ) → AreTied m stale held → from_entries m.entries ≡ now
      → set.contains holding_cmp held (record { subnet = s; hop = a }) ≡ true → IsWithSome (map.get now) s
  some_with m stale held now s a tied view has =
      let found = found_with s (tree.get nat_cmp m a) (sym (tied.held_is (record { subnet = s; hop = a })) ∙ has) in
      (a, found.0, read_in nat_cmp_total m now a view ∙ found.1, found.2)

  pub told_with : (m : BTreeMap ℕ (Hop A)) (stale : BTreeSet ℕ) (held : BTreeSet Holding) (now : Hops A) (s : AddressPrefix) (o : Option ℕ) → AreTied m stale held → from_entries m.entries ≡ now
      → MatchOption o (IsHeldByNone held s) (λ a. set.contains holding_cmp held (record { subnet = s; hop = a }) ≡ true) → MatchBool (is_some o) (IsWithSome (map.get now) s) (IsWithNone (map.get now) s)
  told_with m stale held now s None tied view none = none_with m stale held now s tied view none
  told_with m stale held now s (Some a) tied view has = some_with m stale held now s a tied view has

  pub came_of_known : (m : BTreeMap ℕ (Hop A)) (now : Hops A) (a : ℕ) (h : Hop A) → from_entries m.entries ≡ now → map.get now a ≡ Some h → came_at (tree.get nat_cmp m a) ≡ h.came
  came_of_known m now a h view e = ap came_at (sym (read_in nat_cmp_total m now a view) ∙ e)

  -- ---- the least stale one

  stale_told : (o : Option (Hop A)) → is_stale_at o ≡ true → (h : Hop A) × (o ≡ Some h) × (h.came ≡ None)
  stale_told None e = absurd (cc)
  stale_told (Some h) e = (h, refl, none h.came e)
    where
      none : (c : Option AddressPrefix) → not (is_some c) ≡ true → c ≡ None
      none None e = refl
      none (Some s) e = absurd (cc)

  told_stale : (m : BTreeMap ℕ (Hop A)) (stale : BTreeSet ℕ) (held : BTreeSet Holding) (now : Hops A) (a : ℕ) (h : Hop A) → AreTied m stale held → from_entries m.entries ≡ now → map.get now a ≡ Some h → h.came ≡ None → set.contains nat_cmp stale a ≡ true
  told_stale m stale held now a h tied view e none = tied.stale_is a ∙ ap is_stale_at (sym (read_in nat_cmp_total m now a view) ∙ e) ∙ ap (λ c. not (is_some c)) none

  pub none_stale : (m : BTreeMap ℕ (Hop A)) (stale : BTreeSet ℕ) (held : BTreeSet Holding) (now : Hops A) → AreTied m stale held → from_entries m.entries ≡ now → (0 < btree_set_len stale → ⊥) → IsLeastStale (map.get now) None
  none_stale m stale held now tied view none = λ a h e is. let clash : true ≡ false = sym (told_stale m stale held now a h tied view e is) ∙ none_listed stale.keys a none in cc

  pub least_stale : (m : BTreeMap ℕ (Hop A)) (stale : BTreeSet ℕ) (held : BTreeSet Holding) (now : Hops A) (a : ℕ) → AreTied m stale held → from_entries m.entries ≡ now → set.contains nat_cmp stale a ≡ true → set.IsLowerBound nat_cmp stale a → IsLeastStale (map.get now) (Some a)
  least_stale m stale held now a tied view has least =
      let found = stale_told (tree.get nat_cmp m a) (sym (tied.stale_is a) ∙ has) in (
        (found.0, read_in nat_cmp_total m now a view ∙ found.1, found.2),
        λ q h e is. not_above a q (least q (told_stale m stale held now q h tied view e is)),
      )

  -- ---- whether some differ

  differing_at : (now : Hops A) (k : ℕ) (o : Option (Hop A)) → map.get now k ≡ o → (IsSettledAt o → ⊥) → IsDiffering (map.get now)
  differing_at now k None is out = absurd (out tt)
  differing_at now k (Some h) is out = (k, h, is, out)

  -- one that is listed differs, and one that isn't doesn't
  pub differing_here : (m : BTreeMap ℕ (Hop A)) (differing : BTreeSet ℕ) (now : Hops A) (a : ℕ) (b : Bool) → AreTold m differing → from_entries m.entries ≡ now → b ≡ set.contains nat_cmp differing a
      → MatchBool b (IsDifferingAt (map.get now a)) (IsSettledAt (map.get now a))
  differing_here m differing now a b told view listed = subst (λ (o : Option (Hop A)). MatchBool b (IsDifferingAt o) (IsSettledAt o)) (sym (read_in nat_cmp_total m now a view)) (by_listed b listed)
    where
      by_hop : (o : Option (Hop A)) → (IsSettledAt o → ⊥) → IsDifferingAt o
      by_hop None out = out tt
      by_hop (Some h) out = out

      by_listed : (c : Bool) → c ≡ set.contains nat_cmp differing a → MatchBool c (IsDifferingAt (tree.get nat_cmp m a)) (IsSettledAt (tree.get nat_cmp m a))
      by_listed true is = by_hop (tree.get nat_cmp m a) (λ settled. let clash : true ≡ false = is ∙ (told a).1 settled in cc)
      by_listed false is = (told a).0 (sym is)

  pub differing_told : (m : BTreeMap ℕ (Hop A)) (differing : BTreeSet ℕ) (now : Hops A) (b : Bool) → AreTold m differing → from_entries m.entries ≡ now → ((b ≡ true) ↔ (btree_set_len differing ≡ 0)) → MatchBool (not b) (IsDiffering (map.get now)) (IsSettled (map.get now))
  differing_told m differing now true told view empty = λ a h e.
      let none = none_listed differing.keys a (λ lt. let z = empty.0 refl in absurd (omega (arith, lt, z))) in
      let here : tree.get nat_cmp m a ≡ Some h = sym (read_in nat_cmp_total m now a view) ∙ e in
      subst (λ x. IsSettledAt x) here ((told a).0 none)
  differing_told m differing now false told view empty =
      let has = some_listed differing.keys (λ z. let clash : false ≡ true = empty.1 z in cc) in
      differing_at now has.0 (tree.get nat_cmp m has.0) (read_in nat_cmp_total m now has.0 view) (λ s. let clash : true ≡ false = sym has.1 ∙ (told has.0).1 s in cc)
