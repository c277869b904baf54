-- A finite map: at a key and at another, against the `BTreeMap` that holds it, and what is summed over its values. At any keys and values.
use Rattle.std.proofs.Common.{◌≡◌, ◌≢◌, ℕ, zero, suc, ◌+◌, ◌-◌, ◌≤◌, Bool, true, false, ◌&&◌, cond, T, List, [], ◌∷◌, length, get_or, Option, Some, None, is_some, option_map, unwrap_or, refl, sym, ap, ◌∙◌, arith}
use Rattle.std.specs.Ordering.{eq_by_cmp, match_ordering, is_eq, is_lt}
use Rattle.std.specs.declared.cmp.Ordering.{Ordering}
use Rattle.std.specs.declared.cmp.Ordering.TheVariants.{Less, Equal, Greater}
use Rattle.std.specs.Cmp.{IsTotalOrder, Equal-is, eq_by_cmp_equiv, tied_itself}
use Rattle.std.specs.BTreeMap.{BTreeMap, is_at, insert_entry, values}
use Rattle.std.specs.Map.{lookup, keys_of, values_of}
use Rattle.std.specs.List.{All, AllByRecursion, sum_by}
use Rattle.std.specs.List.Sorted.{IsStrictlySortedBy}
use Rattle.std.specs.FinMap.{FinMap, IsAntisymmetric, get, insert, remove, empty, entries, len, from_entries, find, put, is_sorted, entries_sorted, get-entries, get-from_entries, get-insert, get-remove, entries-insert, len-entries, len-empty, len-remove, empty_of_len, same_map}
use Rattle.std.specs.FinMap as finite
use Rattle.std.specs.FinMap.Entries.{by_order, below_all}
use Rattle.std.proofs.lemmas.List.{nil_from_length}
use Rattle.std.proofs.lemmas.List.Elements.{All-map, recursion_from_All}
use Rattle.std.proofs.lemmas.List.Sums.{sum_by-cons, sum_by-le-sum_by}
use Rattle.std.proofs.lemmas.Map.Entries.{length-values_of, lookup_from_place, sum_by-remove_entry, sum_by-insert_entry}
use Rattle.std.proofs.lemmas.Map.Keys.{IsDistinct-from_sorted, sorted_tail}
use Rattle.std.proofs.lemmas.Option.{slice_get-get_or}

parts : (a b : Bool) → T (a && b) → T a × T b
parts true b h = (tt, h)
parts false b h = absurd h

first_less : (o : Ordering) (b : Bool) → T (is_lt o && b) → (o ≡ Less) × T b
first_less Less b h = (refl, h)
first_less Equal b h = absurd h
first_less Greater b h = absurd h

-- what is summed of a value that may be there
abbrev weight : {X : Type 0} → (X → ℕ) → Option X → ℕ
weight f o = unwrap_or (option_map f o) 0

pub find_at : {K X : Type 0} (R : K → K → Ordering) (es : List (K × X)) (q : K) → find R q es ≡ lookup (is_at (R q)) es
find_at R [] q = refl
find_at R (e ∷ es) q = ap (cond (is_at (R q) e.0) (Some e.1)) (find_at R es q)

pub no_entries : {K X : Type 0} (R : K → K → Ordering) → entries (empty {X = X} {R = R}) ≡ []
no_entries {K} {X} R = nil_from_length (entries {R = R} empty) (sym (len-entries {R = R} empty) ∙ len-empty R X)

-- as many values as entries
pub values_length : {K X : Type 0} {R : K → K → Ordering} (a : FinMap R X) → length (finite.values a) ≡ len a
values_length a = length-values_of (entries a) ∙ sym (len-entries a)

-- at the key, or at another
pub by_key : {K : Type 0} {R : K → K → Ordering} → IsTotalOrder R → IsAntisymmetric R → (q k : K) (P : Bool → Type 0) → (q ≡ k → P true) → (q ≢ k → P false) → P (eq_by_cmp R q k)
by_key {R = R} total exact q k P here apart =
    elim (eq_by_cmp R q k) as (λ b. eq_by_cmp R q k ≡ b → P b) [
      | true ↦ λ e. here (exact q k ((Equal-is (R q k)).0 e))
      | false ↦ λ e. apart (λ same. let clash : true ≡ false = sym (ap is_eq (ap (R q) (sym same) ∙ tied_itself total q)) ∙ e in cc)
    ] refl

module _ {K X : Type 0} {R : K → K → Ordering} (total : IsTotalOrder R) where
  -- ---- what a map answers where a key was set or taken out
  pub get_at : (m : FinMap R X) (k : K) (v : X) → get (insert m k v) k ≡ Some v
  get_at m k v = get-insert total m k v k ∙ ap (λ b. cond b (Some v) (get m k)) ((eq_by_cmp_equiv total).refl k)

  pub get_apart : IsAntisymmetric R → (m : FinMap R X) (k : K) (v : X) (q : K) → q ≢ k → get (insert m k v) q ≡ get m q
  get_apart exact m k v q ne = get-insert total m k v q ∙ by_key total exact q k (λ b. cond b (Some v) (get m q) ≡ get m q) (λ e. absurd (ne e)) (λ _. refl)

  pub removed_at : (m : FinMap R X) (k : K) → get (remove m k) k ≡ None
  removed_at m k = get-remove total m k k ∙ ap (λ b. cond b None (get m k)) ((eq_by_cmp_equiv total).refl k)

  pub removed_apart : IsAntisymmetric R → (m : FinMap R X) (k q : K) → q ≢ k → get (remove m k) q ≡ get m q
  removed_apart exact m k q ne = get-remove total m k q ∙ by_key total exact q k (λ b. cond b None (get m q) ≡ get m q) (λ e. absurd (ne e)) (λ _. refl)

  -- what is left was there, at another key
  pub left_apart : IsAntisymmetric R → (m : FinMap R X) (k q : K) (x : X) → get (remove m k) q ≡ Some x → (q ≢ k) × (get m q ≡ Some x)
  left_apart exact m k q x left =
      by_key total exact q k (λ b. cond b None (get m q) ≡ Some x → (q ≢ k) × (get m q ≡ Some x)) (λ _ none. absurd (cc)) (λ ne at. (ne, at)) (sym (get-remove total m k q) ∙ left)

  put_back : IsAntisymmetric R → (m : FinMap R X) (k : K) (v : X) → get m k ≡ Some v → insert (remove m k) k v ≡ m
  put_back exact m k v at = same_map total exact _ _ (λ q.
      get-insert total (remove m k) k v q ∙ ap (cond (eq_by_cmp R q k) (Some v)) (get-remove total m k q)
      ∙ by_key total exact q k (λ b. cond b (Some v) (cond b None (get m q)) ≡ get m q) (λ e. sym (ap (get m) e ∙ at)) (λ _. refl))

  -- ---- a map that a `BTreeMap` holds
  pub map_read : (es : List (K × X)) (q : K) → get (from_entries {R = R} es) q ≡ lookup (is_at (R q)) es
  map_read es q = get-from_entries total es q ∙ find_at R es q

  pub read_in : (m : BTreeMap K X) (now : FinMap R X) (q : K) → from_entries m.entries ≡ now → get now q ≡ lookup (is_at (R q)) m.entries
  read_in m now q view = sym (ap (λ x. get x q) view) ∙ map_read m.entries q

  -- after a change at k
  changed : IsAntisymmetric R → (m n : BTreeMap K X) (now after : FinMap R X) (k : K) (w : Option X) → from_entries m.entries ≡ now → ((q : K) → get after q ≡ cond (eq_by_cmp R q k) w (get now q))
      → ((q : K) → lookup (is_at (R q)) n.entries ≡ cond (is_at (R k) q) w (lookup (is_at (R q)) m.entries)) → from_entries {R = R} n.entries ≡ after
  changed exact m n now after k w view gets u = same_map total exact _ _ (λ q.
      map_read n.entries q ∙ u q ∙ ap (λ b. cond b w (lookup (is_at (R q)) m.entries)) ((eq_by_cmp_equiv total).symm k q)
      ∙ sym (gets q ∙ ap (cond (eq_by_cmp R q k) w) (read_in m now q view)))

  pub map_set : IsAntisymmetric R → (m n : BTreeMap K X) (now : FinMap R X) (k : K) (v : X) → from_entries m.entries ≡ now
      → ((q : K) → lookup (is_at (R q)) n.entries ≡ cond (is_at (R k) q) (Some v) (lookup (is_at (R q)) m.entries)) → from_entries {R = R} n.entries ≡ insert now k v
  map_set exact m n now k v view u = changed exact m n now (insert now k v) k (Some v) view (get-insert total now k v) u

  pub map_removed : IsAntisymmetric R → (m n : BTreeMap K X) (now : FinMap R X) (k : K) → from_entries m.entries ≡ now
      → ((q : K) → lookup (is_at (R q)) n.entries ≡ cond (is_at (R k) q) None (lookup (is_at (R q)) m.entries)) → from_entries {R = R} n.entries ≡ remove now k
  map_removed exact m n now k view u = changed exact m n now (remove now k) k None view (get-remove total now k) u

  put_first : (e : K × X) (es : List (K × X)) → IsStrictlySortedBy R (keys_of (e ∷ es)) → put R e.0 e.1 es ≡ e ∷ es
  unfolding IsStrictlySortedBy
  put_first e [] sorted = refl
  put_first e (f ∷ es) sorted = rw sorted.0.0 refl

  pub entries_kept : (es : List (K × X)) → IsStrictlySortedBy R (keys_of es) → entries (from_entries {R = R} es) ≡ es
  entries_kept [] sorted = no_entries R
  entries_kept (e ∷ es) sorted = entries-insert total (from_entries es) e.0 e.1 ∙ (ap (put R e.0 e.1) (entries_kept es (sorted_tail R e.0 (keys_of es) sorted)) ∙ put_first e es sorted)

  pub entries_in : (m : BTreeMap K X) (now : FinMap R X) → IsStrictlySortedBy R (keys_of m.entries) → from_entries m.entries ≡ now → m.entries ≡ entries now
  entries_in m now sorted view = sym (entries_kept m.entries sorted) ∙ ap entries view

  pub values_in : (m : BTreeMap K X) (now : FinMap R X) → IsStrictlySortedBy R (keys_of m.entries) → from_entries m.entries ≡ now → values m ≡ finite.values now
  values_in m now sorted view = ap values_of (entries_in m now sorted view)

  -- ---- the entries of a map
  all_below : (k : K) (es : List (K × X)) → T (below_all R k es) → AllByRecursion (λ q. R k q ≡ Less) (keys_of es)
  all_below k [] h = tt
  all_below k (e ∷ es) h = let p = first_less (R k e.0) (below_all R k es) h in (p.0, all_below k es p.1)

  in_order : (es : List (K × X)) → T (is_sorted R es) → IsStrictlySortedBy R (keys_of es)
  unfolding IsStrictlySortedBy
  in_order [] h = tt
  in_order (e ∷ es) h = let p = parts (below_all R e.0 es) (is_sorted R es) h in (all_below e.0 es p.0, in_order es p.1)

  -- what holds of the value at each key holds of all entries, and of all values
  all_here : (P : K → X → Type 0) (a : FinMap R X) → ((k : K) (v : X) → get a k ≡ Some v → P k v) → All (λ e. P e.0 e.1) (entries a)
  all_here P a each i d lt =
      let e : K × X = get_or (entries a) i d in
      let distinct = IsDistinct-from_sorted R (keys_of (entries a)) (in_order (entries a) (entries_sorted a)) in
      each e.0 e.1 (get-entries a e.0 ∙ find_at R (entries a) e.0 ∙ lookup_from_place (eq_by_cmp_equiv total) (entries a) i e.0 e.1 distinct (slice_get-get_or (entries a) i d lt))

  pub all_entries : (P : K → X → Type 0) (a : FinMap R X) → ((k : K) (v : X) → get a k ≡ Some v → P k v) → AllByRecursion (λ e. P e.0 e.1) (entries a)
  all_entries P a each = recursion_from_All (λ e. P e.0 e.1) (entries a) (all_here P a each)

  pub all_values : (P : X → Type 0) (a : FinMap R X) → ((k : K) (v : X) → get a k ≡ Some v → P v) → AllByRecursion P (finite.values a)
  all_values P a each = recursion_from_All P (finite.values a) (All-map P (λ (e : K × X). e.1) (entries a) (all_here (λ _ v. P v) a each))

  -- ---- sums
  put_is : (k : K) (v : X) (es : List (K × X)) → put R k v es ≡ insert_entry R es k v
  put_is k v [] = refl
  put_is k v (e ∷ es) =
      elim (R k e.0) as (λ o. by_order o ((k, v) ∷ e ∷ es) ((e.0, v) ∷ es) (e ∷ put R k v es) ≡ match_ordering o ((k, v) ∷ e ∷ es) ((e.0, v) ∷ es) (e ∷ insert_entry R es k v)) [
        | Less ↦ refl
        | Equal ↦ refl
        | Greater ↦ ap (λ (es : List (K × X)). e ∷ es) (put_is k v es)
      ]

  module _ (f : X → ℕ) where
    sum_put : (a : FinMap R X) (k : K) (v : X) → sum_by f (finite.values (insert a k v)) + weight f (get a k) ≡ sum_by f (finite.values a) + f v
    sum_put a k v =
        let put = ap (λ (es : List (K × X)). sum_by f (values_of es)) (entries-insert total a k v ∙ put_is k v (entries a)) in
        let old = ap (weight f) (get-entries a k ∙ find_at R (entries a) k) in
        let sum = sum_by-insert_entry f total (entries a) k v (in_order (entries a) (entries_sorted a)) in
        omega (arith, put, old, sum)

    -- a value in the place of another
    pub sum_replaced : (a : FinMap R X) (k : K) (v d : X) → get a k ≡ Some d → sum_by f (finite.values (insert a k v)) + f d ≡ sum_by f (finite.values a) + f v
    sum_replaced a k v d at = let put = sum_put a k v in let old = ap (weight f) at in omega (arith, put, old)

    -- one value is at most the sum
    pub one_of_sum : (a : FinMap R X) (k : K) (d : X) → get a k ≡ Some d → f d ≤ sum_by f (finite.values a)
    one_of_sum a k d at =
        let part = sum_by-remove_entry f (is_at (R k)) (entries a) in
        let old = ap (weight f) (sym (get-entries a k ∙ find_at R (entries a) k) ∙ at) in
        omega (arith, part, old)

    -- and the others are the rest
    pub sum_others : IsAntisymmetric R → (a : FinMap R X) (k : K) (d : X) → get a k ≡ Some d → sum_by f (finite.values (remove a k)) + f d ≡ sum_by f (finite.values a)
    sum_others exact a k d at =
        let put = sum_put (remove a k) k d in
        let none = ap (weight f) (removed_at a k) in
        let back = ap (λ (m : FinMap R X). sum_by f (finite.values m)) (put_back exact a k d at) in
        omega (arith, put, none, back)

pub sum_none : {X : Type 0} (f : X → ℕ) (xs : List X) → AllByRecursion (λ x. f x ≡ 0) xs → sum_by f xs ≡ 0
sum_none f [] all = refl
sum_none f (x ∷ xs) all = let a = sum_by-cons f x xs in let rest = sum_none f xs all.1 in let here : f x ≡ 0 = all.0 in omega (arith, a, rest, here)

-- of each the sum of two
pub sum_parts : {X : Type 0} (f g h : X → ℕ) → ((x : X) → f x ≡ g x + h x) → (xs : List X) → sum_by f xs ≡ sum_by g xs + sum_by h xs
sum_parts f g h parted [] = omega arith
sum_parts f g h parted (x ∷ xs) =
    let a = sum_by-cons f x xs in
    let b = sum_by-cons g x xs in
    let c = sum_by-cons h x xs in
    let here = parted x in
    let rest = sum_parts f g h parted xs in
    omega (arith, a, b, c, here, rest)

pub sum_within : {X : Type 0} (f g h : X → ℕ) (xs : List X) → ((x : X) → f x ≤ g x + h x) → sum_by f xs ≤ sum_by g xs + sum_by h xs
sum_within f g h xs less = let all = sum_by-le-sum_by f (λ x. g x + h x) xs less in let both = sum_parts (λ x. g x + h x) g h (λ _. refl) xs in omega (arith, all, both)

-- ---- sums over two maps, of which one has each key of the other
module _ {K X Y : Type 0} {R : K → K → Ordering} (total : IsTotalOrder R) (exact : IsAntisymmetric R) (f : X → ℕ) (g : Y → ℕ) where
  -- each value has a partner that is as large
  abbrev Partners : FinMap R X → FinMap R Y → Type 0
  Partners a b = (k : K) (x : X) → get a k ≡ Some x → (y : Y) × (get b k ≡ Some y) × (f x ≤ g y)

  some_entry : (n : ℕ) (a : FinMap R X) (es : List (K × X)) → len a ≡ suc n → entries a ≡ es → (k : K) × (x : X) × (get a k ≡ Some x)
  some_entry n a [] size is = let all = len-entries a in let none = ap length is in absurd (omega (arith, size, all, none))
  some_entry n a (e ∷ es) size is = (e.0, e.1, get-entries a e.0 ∙ ap (find R e.0) is ∙ ap (λ b. cond b (Some e.1) (find R e.0 es)) ((eq_by_cmp_equiv total).refl e.0))

  within : (n : ℕ) (a : FinMap R X) (b : FinMap R Y) → len a ≡ n → Partners a b → sum_by f (finite.values a) ≤ sum_by g (finite.values b)
  within zero a b size each =
      let none : sum_by f (finite.values a) ≡ 0 = ap (λ (m : FinMap R X). sum_by f (finite.values m)) (empty_of_len a size) ∙ ap (λ (es : List (K × X)). sum_by f (values_of es)) (no_entries R) in
      omega (arith, none)
  within (suc n) a b size each =
      let first = some_entry n a (entries a) size refl in
      let k = first.0 in
      let partner = each k first.1 first.2 in
      let fewer = len-remove total a k ∙ ap (λ (o : Option X). cond (is_some o) (len a - 1) (len a)) first.2 in
      let rest = within n (remove a k) (remove b k) (omega (arith, size, fewer)) (λ q x left.
      let was = left_apart total exact a k q x left in
      let y = each q x was.1 in
      (y.0, removed_apart total exact b k q was.0 ∙ y.1, y.2)) in
      let one = sum_others total f exact a k first.1 first.2 in
      let other = sum_others total g exact b k partner.0 partner.1 in
      let least = partner.2 in
      omega (arith, one, other, least, rest)

  pub sums_within : (a : FinMap R X) (b : FinMap R Y) → Partners a b → sum_by f (finite.values a) ≤ sum_by g (finite.values b)
  sums_within a b each = within (len a) a b refl each
