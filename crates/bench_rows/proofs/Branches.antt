-- The rows of the branches, where one is set.
use Rattle.std.proofs.Common.{◌≡◌, ◌≢◌, ℕ, zero, suc, ◌<◌, Bool, true, false, not, nat_lt, if◌then◌else◌, cond, List, [], ◌∷◌, ◌++◌, length, slice_get, slice_set, get_or, Option, Some, None, is_some, refl, sym, ◌∙◌, ap, subst, arith}
use Rattle.std.proofs.lemmas.Bool.Decides.{nat_tests}
use Rattle.std.proofs.lemmas.Option.{slice_get-get_or}
use Rattle.std.specs.Prelude.{IsSome}
use Rattle.std.specs.FinMap as map
use Rattle.std.specs.FinMap.{FinMap}
use Rattle.addr4.specs.Prefixes.{AddressPrefix, prefix_cmp}
use Rattle.addr4.proofs.PrefixOrder.{by_prefix}
use Rattle.link_change.specs.Rows.{Rows, Candidates, no_rows, with_row}
use Rattle.link_change.specs.Changes.{IsChangeOf}
use Rattle.link_change.specs.Changes.{Change}
use Rattle.link_change.proofs.RowLemmas.{same_function, with_row_same, with_row_here}
use Rattle.safe_table.specs.Tables.{Rows as Contents}
use Rattle.bgp_attr.specs.Routes.{Route}
use Rattle.decision.specs.Branches.{AllRows}
use Rattle.decision.specs.Contests.{Contest, Knows, KnowsBefore, Counts, Moves, HasMove, CoversAt, counted}
use Rattle.decision.proofs.CountLemmas.{no_candidate_where_none_is_counted, something_is_known}
use Rattle.bench_rows.specs.Tables.{table_at, rows_of, rows_in, candidates_in, Sets}

-- ---- tables
set_same : (ts : List (Contents Route)) (i : ℕ) (t : Contents Route) → i < length ts → slice_get (slice_set ts i t) i ≡ Some t
set_same [] i t h = absurd (omega (arith, h))
set_same (x ∷ ts) zero t h = refl
set_same (x ∷ ts) (suc i) t h = set_same ts i t (omega (arith, h))

set_other : (ts : List (Contents Route)) (i j : ℕ) (t : Contents Route) → j ≢ i → slice_get (slice_set ts i t) j ≡ slice_get ts j
set_other [] i j t h = refl
set_other (x ∷ ts) zero zero t h = absurd (h refl)
set_other (x ∷ ts) zero (suc j) t h = refl
set_other (x ∷ ts) (suc i) zero t h = refl
set_other (x ∷ ts) (suc i) (suc j) t h = set_other ts i j t (λ e. h (ap suc e))

below_case : (b : ℕ) (t : Bool) (o : Option (Contents Route)) → nat_lt b 65 ≡ t → b < 65 → (if t then o else None) ≡ o
below_case b true o e h = refl
below_case b false o e h = absurd (grind (arith, nat_tests, e, h))

pub table_below : (ts : List (Contents Route)) (b : ℕ) → b < 65 → table_at ts b ≡ slice_get ts b
table_below ts b h = below_case b (nat_lt b 65) (slice_get ts b) refl h

pub table_here : (ts : List (Contents Route)) (branch : ℕ) (t : Contents Route) → branch < 65 → branch < length ts → rows_in (slice_set ts branch t) branch ≡ map.get t.rows
table_here ts branch t small there = ap rows_of (table_below (slice_set ts branch t) branch small ∙ set_same ts branch t there)

pub table_elsewhere : (ts : List (Contents Route)) (branch b : ℕ) (t : Contents Route) → b ≢ branch → rows_in ts b ≡ rows_in (slice_set ts branch t) b
table_elsewhere ts branch b t apart = ap (λ o. rows_of (if nat_lt b 65 then o else None)) (sym (set_other ts branch b t apart))

-- ---- numbers
number_case : (b n : ℕ) (P : Type 0) (less more : Bool) → nat_lt b n ≡ less → nat_lt n b ≡ more → (b ≡ n → P) → (b ≢ n → P) → P
number_case b n P true more e f here elsewhere = elsewhere (λ same. absurd (grind (arith, nat_tests, e, same)))
number_case b n P false true e f here elsewhere = elsewhere (λ same. absurd (grind (arith, nat_tests, f, same)))
number_case b n P false false e f here elsewhere = here (grind (arith, nat_tests, e, f))

by_number : (b n : ℕ) (P : Type 0) → (b ≡ n → P) → (b ≢ n → P) → P
by_number b n P here elsewhere = number_case b n P (nat_lt b n) (nat_lt n b) refl refl here elsewhere

-- ---- rows
module _ (branch : ℕ) (p : AddressPrefix) (row before : Option Route) (old new : AllRows) (small : branch < 65) (s : Sets branch p row before old new) where
  -- where the row is the same nothing changes
  pub same_rows : before ≡ row → new ≡ old
  same_rows is = same_function _ _ (λ b. by_number b branch (new b ≡ old b)
      (λ same. ap new same ∙ s.is ∙ with_row_same (old branch) p row (sym s.was ∙ is) ∙ ap old (sym same))
      (λ differ. sym (s.others b differ)))

  pub row_now : new branch p ≡ row
  row_now = ap (λ (r : Rows Route). r p) s.is ∙ with_row_here (old branch) p row

  row_elsewhere : (q : AddressPrefix) → q ≢ p → new branch q ≡ old branch q
  row_elsewhere q apart = ap (λ (r : Rows Route). r q) s.is ∙ by_prefix q p (λ t. cond t row (old branch q) ≡ old branch q) (λ e. absurd (apart e)) (λ _. refl)

  others_same : (b : ℕ) (q : AddressPrefix) → q ≢ p → new b q ≡ old b q
  others_same b q apart = by_number b branch (new b q ≡ old b q)
      (λ same. ap (λ (n : ℕ). new n q) same ∙ row_elsewhere q apart ∙ sym (ap (λ (n : ℕ). old n q) same))
      (λ differ. ap (λ (r : Rows Route). r q) (sym (s.others b differ)))

  -- a change of rows that are known
  pub known_before : (change : Change Route) (contests : FinMap prefix_cmp Contest) → IsChangeOf p before row (Some change) → Knows contests old → KnowsBefore branch contests new change
  known_before change contests h knows = record {
    before = old;
    stay = s.others;
    sent = (
      refl,
      (ap (old branch) h.0 ∙ sym s.was ∙ sym h.1, λ e. h.3 (sym h.2 ∙ e ∙ h.1)),
      s.is ∙ ap (λ q. with_row (old branch) q row) (sym h.0) ∙ ap (with_row (old branch) change.prefix) (sym h.2),
    );
    knows = knows;
  }

  -- a row comes where none was, or goes, or stays one
  moves : (comes : Bool) → is_some before ≡ not comes → is_some row ≡ comes → Moves branch p comes (candidates_in old) (candidates_in new)
  moves comes was is = record {
    small = small;
    was = ap is_some (sym s.was) ∙ was;
    is = ap is_some row_now ∙ is;
    others = λ b differ. ap (λ (r : Rows Route). is_some (r p)) (sym (s.others b differ));
    elsewhere = λ b q apart. ap is_some (others_same b q apart);
  }

  pub move_of : (comes : Bool) (contests : FinMap prefix_cmp Contest) → is_some before ≡ not comes → is_some row ≡ comes → Counts contests (candidates_in old) → HasMove p comes contests
  move_of comes contests was is counts = record { branch = branch; before = candidates_in old; now = candidates_in new; moves = moves comes was is; counts = counts }

  pub same_candidates : is_some before ≡ is_some row → candidates_in new ≡ candidates_in old
  same_candidates same = same_function _ _ (λ b. same_function _ _ (λ q. by_prefix q p (λ _. is_some (new b q) ≡ is_some (old b q))
      (λ here. ap (λ r. is_some (new b r)) here ∙ at_prefix b ∙ sym (ap (λ r. is_some (old b r)) here))
      (λ apart. ap is_some (others_same b q apart))))
    where
      at_prefix : (b : ℕ) → is_some (new b p) ≡ is_some (old b p)
      at_prefix b = by_number b branch (is_some (new b p) ≡ is_some (old b p))
          (λ here. ap (λ (n : ℕ). is_some (new n p)) here ∙ ap is_some row_now ∙ sym same ∙ ap is_some s.was ∙ sym (ap (λ (n : ℕ). is_some (old n p)) here))
          (λ differ. ap (λ (r : Rows Route). is_some (r p)) (sym (s.others b differ)))

  -- something is known where the row was, or is
  pub there_before : (contests : FinMap prefix_cmp Contest) → is_some before ≡ true → Counts contests (candidates_in old) → IsSome (map.get contests p)
  there_before contests was counts = something_is_known contests (candidates_in old) p branch small (ap is_some (sym s.was) ∙ was) counts

  pub there_now : (contests : FinMap prefix_cmp Contest) → is_some row ≡ true → Counts contests (candidates_in new) → IsSome (map.get contests p)
  there_now contests is counts = something_is_known contests (candidates_in new) p branch small (ap is_some row_now ∙ is) counts

  -- where a row comes a candidate is there
  pub covers_come : is_some row ≡ true → CoversAt (candidates_in new) old p
  covers_come is none = absurd (let clash : true ≡ false = sym (ap is_some row_now ∙ is) ∙ no_candidate_where_none_is_counted (candidates_in new) p none branch small in cc)

  pub moved_counts : (comes : Bool) (contests next : FinMap prefix_cmp Contest) → is_some before ≡ not comes → is_some row ≡ comes
      → ((b : ℕ) (was is : ℕ → Candidates) → Moves b p comes was is → Counts contests was → Counts next is) → Counts contests (candidates_in old) → Counts next (candidates_in new)
  moved_counts comes contests next was is counted counts = counted branch (candidates_in old) (candidates_in new) (moves comes was is) counts

-- what a change of one row is: it comes, or it was there and goes or stays one
none_of : (o : Option Route) → is_some o ≡ false → o ≡ None
none_of None e = refl
none_of (Some r) e = absurd (let f : true ≡ false = e in cc)

some_of : (o : Option Route) → o ≢ None → is_some o ≡ true
some_of None e = absurd (e refl)
some_of (Some r) e = refl

module _ (p : AddressPrefix) (before row : Option Route) (change : Change Route) (h : IsChangeOf p before row (Some change)) where
  pub was_none : (t : Bool) → is_some change.before ≡ not t → t ≡ true → is_some before ≡ false
  was_none t e is = ap is_some (sym h.1) ∙ e ∙ ap not is

  pub comes_some : is_some before ≡ false → is_some row ≡ true
  comes_some was = some_of row (λ none. h.3 (none ∙ sym (none_of before was)))

  pub was_some : (t : Bool) → is_some change.before ≡ not t → t ≡ false → is_some before ≡ true
  was_some t e is = ap is_some (sym h.1) ∙ e ∙ ap not is

  pub row_is : (t b : Bool) → is_some change.after ≡ not t → t ≡ b → is_some row ≡ not b
  row_is t b e is = ap is_some (sym h.2) ∙ e ∙ ap not is

-- a branch's table with a row set
pub set_rows : (ts : List (Contents Route)) (branch i : ℕ) (t after : Contents Route) (p : AddressPrefix) (row before : Option Route) → i ≡ branch → branch < 65 → branch < length ts
    → t ≡ get_or ts i t → before ≡ map.get t.rows p → map.get after.rows ≡ with_row (map.get t.rows) p row
    → Sets branch p row before (rows_in ts) (rows_in (slice_set ts i after))
set_rows ts branch i t after p row before same small there at was is =
    let stands : slice_get ts branch ≡ Some t = slice_get-get_or ts branch t there ∙ ap Some (sym (at ∙ ap (λ (n : ℕ). get_or ts n t) same)) in
    let old : rows_in ts branch ≡ map.get t.rows = ap rows_of (table_below ts branch small ∙ stands) in
    subst (λ (n : ℕ). Sets branch p row before (rows_in ts) (rows_in (slice_set ts n after))) (sym same)
    (record {
      was = was ∙ sym (ap (λ (r : Rows Route). r p) old);
      is = table_here ts branch after small there ∙ is ∙ ap (λ (r : Rows Route). with_row r p row) (sym old);
      others = λ b differ. table_elsewhere ts branch b after differ;
    })

-- every row stands at a candidate
pub covers_rows : (rows : AllRows) (p : AddressPrefix) → CoversAt (candidates_in rows) rows p
covers_rows rows p none b below = by_row (rows b p) (no_candidate_where_none_is_counted (candidates_in rows) p none b below)
  where
    by_row : (o : Option Route) → is_some o ≡ false → o ≡ None
    by_row None e = refl
    by_row (Some r) e = absurd (let f : true ≡ false = e in cc)

-- ---- no rows
pub push_rows : (ts : List (Contents Route)) (t : Contents Route) (b : ℕ) → ((b : ℕ) → rows_in ts b ≡ no_rows) → map.get t.rows ≡ no_rows → rows_in (ts ++ t ∷ []) b ≡ no_rows
push_rows ts t b none empty = by_below (nat_lt b 65) refl
  where
    pushed : (us : List (Contents Route)) (b : ℕ) (P : Option (Contents Route) → Type 0) → P (slice_get us b) → P (Some t) → P None → P (slice_get (us ++ t ∷ []) b)
    pushed [] zero P h k n = k
    pushed [] (suc b) P h k n = n
    pushed (u ∷ us) zero P h k n = h
    pushed (u ∷ us) (suc b) P h k n = pushed us b P h k n

    by_below : (t' : Bool) → nat_lt b 65 ≡ t' → rows_of (if t' then slice_get (ts ++ t ∷ []) b else None) ≡ no_rows
    by_below false e = refl
    by_below true e = pushed ts b (λ o. rows_of o ≡ no_rows) (ap (λ (t : Bool). rows_of (if t then slice_get ts b else None)) (sym e) ∙ none b) empty refl
