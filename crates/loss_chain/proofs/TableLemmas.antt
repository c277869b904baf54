-- Lost tables, after a turn of one of them and a weld.
use Rattle.std.proofs.Common.{◌≡◌, ℕ, ◌+◌, ◌||◌, ◌++◌, nat_lt, length-append, ◌<◌, ◌≤◌, Bool, true, false, cond, not, List, [], ◌∷◌, map, length, Option, Some, None, is_some, nat_eq, refl, sym, ap, ◌∙◌, arith, suc}
use Rattle.std.specs.List.{AllByRecursion, filter}
use Rattle.std.specs.FinMap.{FinMap}
use Rattle.addr4.specs.Prefixes.{AddressPrefix, prefix_cmp}
use Rattle.link_change.specs.Rows.{is_empty_map}
use Rattle.loss_chain.specs.Lost.{Lost}
use Rattle.journal_text.specs.declared.link.Task.{Task}
use Rattle.loss_chain.specs.declared.owner.Owner.{Owner}
use Rattle.loss_chain.specs.Owners.{loss_task}
use Rattle.std.proofs.lemmas.Bool.Decides.{nat_tests}
use Rattle.loss_chain.specs.Tables.{Tables}
use Rattle.loss_chain.proofs.ListLemmas.{all_appended}
use Rattle.loss_chain.specs.Steps.{without, swept_one, table_of, oldest_of, overdue_of, lost_tables}

pub equal_by : (m n : ℕ) → nat_eq m n ≡ true → m ≡ n
equal_by m n e = grind (arith, nat_tests)

pub same_by : (m n : ℕ) → m ≡ n → nat_eq m n ≡ true
same_by m n e = grind (arith, nat_tests)

pub other_by : (m n : ℕ) → (m ≡ n → ⊥) → nat_eq m n ≡ false
other_by m n e = grind (arith, nat_tests)

pub no_table : {A : Type 0} (o : Option A) → is_some o ≡ false → o ≡ None
no_table None e = refl
no_table (Some t) e = absurd (cc)

module _ {R : Type 0} where
  abbrev pub is_full : Lost R → Bool
  is_full d = not (is_empty_map d.rows)

  pub few_filter : (f : Lost R → Bool) (ds : List (Lost R)) → length (filter f ds) ≤ length ds
  few_filter f [] = omega arith
  few_filter f (d ∷ ds) =
      let rest = few_filter f ds in
      elim (f d) as (λ b. length (cond b (d ∷ filter f ds) (filter f ds)) ≤ length (d ∷ ds)) [ true ↦ omega (arith, rest) | false ↦ omega (arith, rest) ]

  pub few_map : (f : Lost R → Lost R) (ds : List (Lost R)) → length (map f ds) ≡ length ds
  few_map f [] = refl
  few_map f (d ∷ ds) = let e = few_map f ds in omega arith

  pub few_left : (f : Lost R → Lost R) (g : Lost R → Bool) (ds : List (Lost R)) → length (filter g (map f ds)) ≤ length ds
  few_left f g ds = let a = few_filter g (map f ds) in let b = few_map f ds in omega arith

  pub table_here : (n : ℕ) (d : Lost R) (ds : List (Lost R)) → d.number ≡ n → table_of n (d ∷ ds) ≡ Some d.rows
  table_here n d ds same = ap (λ (b : Bool). cond b (Some d.rows) (table_of n ds)) (same_by d.number n same)

  pub none_later : (n : ℕ) (ds : List (Lost R)) → AllByRecursion (λ later. n < later.number) ds → table_of n ds ≡ None
  none_later n [] all = refl
  none_later n (d ∷ ds) all = ap (λ (b : Bool). cond b (Some d.rows) (table_of n ds)) (other_by d.number n (λ same. let lt : n < d.number = all.0 in omega arith)) ∙ none_later n ds all.1

  pub swept_number : (n : ℕ) (p : AddressPrefix) (d : Lost R) → (swept_one n p d).number ≡ d.number
  swept_number n p d = elim (nat_eq d.number n) as (λ b. (cond b (without p d) d).number ≡ d.number) [ true ↦ refl | false ↦ refl ]

  pub short_filter : (n : ℕ) (p : AddressPrefix) (ds : List (Lost R)) (t : FinMap prefix_cmp R) → table_of n ds ≡ Some t → table_of n (filter is_full (map (swept_one n p) ds)) ≡ None
      → length (filter is_full (map (swept_one n p) ds)) < length ds
  short_filter n p [] t there gone = absurd (cc)
  short_filter n p (d ∷ ds) t there gone = by_test (nat_eq d.number n) refl (is_full (swept_one n p d)) refl (short_filter n p ds t)
    where
      rest_of : List (Lost R)
      rest_of = filter is_full (map (swept_one n p) ds)

      below : length rest_of ≤ length ds
      below = few_left (swept_one n p) is_full ds

      list_is : (b : Bool) → is_full (swept_one n p d) ≡ b → filter is_full (map (swept_one n p) (d ∷ ds)) ≡ cond b (swept_one n p d ∷ rest_of) rest_of
      list_is b f = ap (λ (x : Bool). cond x (swept_one n p d ∷ rest_of) rest_of) f

      found : (b : Bool) → nat_eq d.number n ≡ b → table_of n (swept_one n p d ∷ rest_of) ≡ cond b (Some (swept_one n p d).rows) (table_of n rest_of)
      found b e = ap (λ (x : Bool). cond x (Some (swept_one n p d).rows) (table_of n rest_of)) (ap (λ (k : ℕ). nat_eq k n) (swept_number n p d) ∙ e)

      by_test : (b : Bool) → nat_eq d.number n ≡ b → (f : Bool) → is_full (swept_one n p d) ≡ f → (table_of n ds ≡ Some t → table_of n rest_of ≡ None → length rest_of < length ds)
          → length (filter is_full (map (swept_one n p) (d ∷ ds))) < length (d ∷ ds)
      by_test true e true f rest =
          let has : table_of n (filter is_full (map (swept_one n p) (d ∷ ds))) ≡ Some (swept_one n p d).rows = ap (table_of n) (list_is true f) ∙ found true e in
          let contra : Some (swept_one n p d).rows ≡ None = sym has ∙ gone in
          absurd (cc)
      by_test true e false f rest =
          let k : length (filter is_full (map (swept_one n p) (d ∷ ds))) ≡ length rest_of = ap length (list_is false f) in
          let b = below in
          omega (arith, k, b)
      by_test false e true f rest =
          let skip : table_of n (filter is_full (map (swept_one n p) (d ∷ ds))) ≡ table_of n rest_of = ap (table_of n) (list_is true f) ∙ found false e in
          let r = rest (sym (ap (λ (b : Bool). cond b (Some d.rows) (table_of n ds)) e) ∙ there) (sym skip ∙ gone) in
          let k : length (filter is_full (map (swept_one n p) (d ∷ ds))) ≡ suc (length rest_of) = ap length (list_is true f) in
          omega (arith, k, r)
      by_test false e false f rest =
          let r = rest (sym (ap (λ (b : Bool). cond b (Some d.rows) (table_of n ds)) e) ∙ there) (ap (table_of n) (sym (list_is false f)) ∙ gone) in
          let k : length (filter is_full (map (swept_one n p) (d ∷ ds))) ≡ length rest_of = ap length (list_is false f) in
          omega (arith, k, r)

  more_tables : (d : Lost R) (ds xs : List (Lost R)) → AllByRecursion (λ x. is_some (table_of x.number ds) ≡ true) xs → AllByRecursion (λ x. is_some (table_of x.number (d ∷ ds)) ≡ true) xs
  more_tables d ds [] all = tt
  more_tables d ds (x ∷ xs) all = (by_test (nat_eq d.number x.number), more_tables d ds xs all.1)
    where
      by_test : (b : Bool) → is_some (cond b (Some d.rows) (table_of x.number ds)) ≡ true
      by_test true = refl
      by_test false = all.0

  -- each table is found by its number
  pub all_tables : (ds : List (Lost R)) → AllByRecursion (λ x. is_some (table_of x.number ds) ≡ true) ds
  all_tables [] = tt
  all_tables (d ∷ ds) = (ap (λ (o : Option (FinMap prefix_cmp R)). is_some o) (table_here d.number d ds refl), more_tables d ds ds (all_tables ds))

  -- the task of the stage that stands longest is that of the lowest
  pub stage_of : (b : Bool) (o : Owner) (ds : List (Lost R)) (task : Task) → cond b None (oldest_of o ds) ≡ Some task → (d : Lost R) × (rest : List (Lost R)) × (ds ≡ d ∷ rest) × (task ≡ loss_task o d.number)
  stage_of true o ds task e = absurd (cc)
  stage_of false o [] task e = absurd (cc)
  stage_of false o (d ∷ ds) task e = (d, ds, refl, cc)

-- ---- a stage that goes
-- no more stages than before, and fewer where this one has gone
pub record Shorter {R : Type 0} (n : ℕ) (ds ds' : List (Lost R)) : Type 0 where
  pub short : length ds' ≤ length ds
  pub gone : (t : FinMap prefix_cmp R) → table_of n ds ≡ Some t → table_of n ds' ≡ None → length ds' < length ds

left_of : (a b : Bool) → (a || b) ≡ true → b ≡ false → a ≡ true
left_of true b e f = refl
left_of false b e f = absurd (cc)

none_of : (b : Bool) (o : Option Task) → cond b None o ≡ None → (task : Task) → o ≡ Some task → b ≡ true
none_of true o e task some = refl
none_of false o e task some = let s = some in absurd (cc)

module _ {R : Type 0} where
  pub shorter_none : (n : ℕ) (ds : List (Lost R)) → Shorter n ds ds
  shorter_none n ds = record { short = omega arith; gone = λ t there none. let contra : Some t ≡ None = sym there ∙ none in absurd (cc) }

  pub shorter_more : (n : ℕ) (p : AddressPrefix) (ds ds' : List (Lost R)) → Shorter n (filter is_full (map (swept_one n p) ds)) ds' → Shorter n ds ds'
  shorter_more n p ds ds' r = record {
    short = let a = r.short in let b = few_left (swept_one n p) is_full ds in omega (arith, a, b);
    gone = λ t there none. by_table t there none (table_of n (filter is_full (map (swept_one n p) ds))) refl;
  }
    where
      by_table : (t : FinMap prefix_cmp R) → table_of n ds ≡ Some t → table_of n ds' ≡ None → (o : Option (FinMap prefix_cmp R)) → table_of n (filter is_full (map (swept_one n p) ds)) ≡ o → length ds' < length ds
      by_table t there none (Some x) e = let a = r.gone x e none in let b = few_left (swept_one n p) is_full ds in omega (arith, a, b)
      by_table t there none None e = let a = r.short in let b = short_filter n p ds t there e in omega (arith, a, b)

  -- where 16 stages don't stand, none is overdue; and where none is, and rows are live, fewer stand
  pub free_of : (o : Owner) (t : Tables R) → length t.deletions < 16 → overdue_of o t ≡ None
  free_of o t below = let few : nat_lt (length t.deletions) 16 ≡ true = grind (arith, nat_tests) in ap (λ (b : Bool). cond (b || is_empty_map t.live) None (oldest_of o t.deletions)) few

  room_of : (o : Owner) (t : Tables R) → overdue_of o t ≡ None → is_empty_map t.live ≡ false → length t.deletions < 16
  room_of o t none full = by_stages t.deletions refl
    where
      by_stages : (x : List (Lost R)) → t.deletions ≡ x → length t.deletions < 16
      by_stages [] is = let e : length t.deletions ≡ 0 = ap length is in omega arith
      by_stages (d ∷ ds) is =
          let test = none_of (nat_lt (length t.deletions) 16 || is_empty_map t.live) (oldest_of o t.deletions) none (loss_task o d.number) (ap (oldest_of o) is) in
          let only : nat_lt (length t.deletions) 16 ≡ true = left_of (nat_lt (length t.deletions) 16) (is_empty_map t.live) test full in
          grind (arith, nat_tests)

  -- a loss makes no more than 16
  pub few_lost : (o : Owner) (n : ℕ) (t : Tables R) → length t.deletions ≤ 16 → overdue_of o t ≡ None → length (lost_tables n t).deletions ≤ 16
  few_lost o n t few none = by_test (is_empty_map t.live) refl
    where
      more : List (Lost R)
      more = t.deletions ++ record { number = n; rows = t.live } ∷ []

      by_test : (e : Bool) → is_empty_map t.live ≡ e → length (lost_tables n t).deletions ≤ 16
      by_test true e = let k : length (lost_tables n t).deletions ≡ length t.deletions = ap (λ (x : Bool). length (cond x t.deletions more)) e in omega (arith, k, few)
      by_test false e =
          let k : length (lost_tables n t).deletions ≡ length more = ap (λ (x : Bool). length (cond x t.deletions more)) e in
          let m : length more ≡ length t.deletions + 1 = length-append t.deletions (record { number = n; rows = t.live } ∷ []) in
          let was = room_of o t none e in
          omega (arith, k, m, was)

  -- what holds of the tables, and of the one that a loss adds, holds of all after it
  pub all_lost : (P : Lost R → Type 0) (n : ℕ) (t : Tables R) → AllByRecursion P t.deletions → P (record { number = n; rows = t.live }) → AllByRecursion P (lost_tables n t).deletions
  all_lost P n t all one =
      let new : Lost R = record { number = n; rows = t.live } in
      elim (is_empty_map t.live) as (λ e. AllByRecursion P (cond e t.deletions (t.deletions ++ new ∷ []))) [ true ↦ all | false ↦ all_appended P P (λ d is. is) t.deletions new all one ]
