-- Prefixes that stand for rows: how many lie beyond a place, of a table, of all tables of a chain, and of several parts together.
use Rattle.std.proofs.Common.{◌≡◌, ℕ, ◌+◌, ◌<◌, ◌≤◌, inl, inr, Bool, true, false, not, ◌||◌, cond, T, List, [], ◌∷◌, ◌++◌, map, length-append, get_or, Option, Some, None, is_some, refl, sym, ap, ◌∙◌, arith}
use Rattle.std.specs.Prelude.{filter, ◌==◌}
use Rattle.std.specs.List.{Contains, sum_by, remove as without_place}
use Rattle.std.proofs.lemmas.Bool.{or_cases}
use Rattle.std.proofs.lemmas.List.{length-map}
use Rattle.std.proofs.lemmas.List.Elements.{Contains-append_left, Contains-append_right}
use Rattle.std.proofs.lemmas.List.Sums.{count_by-le-length, sum_by-cons, sum_by-append, sum_by-le-sum_by, sum_by-remove}
use Rattle.std.proofs.lemmas.List.Filters.{sum_by-filter_both}
use Rattle.std.proofs.lemmas.Map.Views.{Contains-from_any}
use Rattle.std.specs.FinMap as tables
use Rattle.std.specs.FinMap.{FinMap, entries_sorted, from_sorted, is_sorted, find, get-entries, len-entries, contains_key-keys, get-remove, get-from_sorted, entries-from_sorted, same_map}
use Rattle.std.specs.FinMap.Entries.{where_key, is_sorted-where_key, find-where_key}
use Rattle.std.specs.Ordering.{eq_by_cmp}
use Rattle.addr4.specs.Prefixes.{AddressPrefix, prefix_cmp}
use Rattle.addr4.specs.Places.{IsBeyond}
use Rattle.addr4.proofs.PrefixOrder.{prefixes_total, exact_prefixes, one_prefix}
use Rattle.addr4.proofs.RankLemmas.{further}
use Rattle.link_change.specs.Rows.{Candidates, with_rows, together, is_empty_map}
use Rattle.pass_core.specs.Passed.{is_beyond}
use Rattle.pass_core.specs.Left.{CountsBeyond}
use Rattle.pass_core.proofs.SplitLemmas.{sides, beyond_so, at_itself}
use Rattle.loss_chain.specs.Lost.{Lost}
use Rattle.loss_chain.specs.Covering.{row_over}
use Rattle.loss_chain.specs.Steps.{swept_one, without}
use Rattle.loss_chain.specs.Tables.{rows_below, lost_count, table_beyond, lost_beyond}
use Rattle.loss_chain.specs.Laws.{Lists, RowsAreListed, TurnsLeaveNoMore, WeldsLeaveNoMore}

-- ---- a prefix beyond a place counts one
abbrev one : Option AddressPrefix → AddressPrefix → ℕ
one place q = cond (is_beyond place q) 1 0

one_at_most : (place : Option AddressPrefix) (q : AddressPrefix) → one place q ≤ 1
one_at_most place q = elim (is_beyond place q) as (λ b. cond b 1 0 ≤ 1) [ true ↦ omega arith | false ↦ omega arith ]

-- what lies beyond a prefix beyond the place lies beyond the place
one_further : (place : Option AddressPrefix) (p q : AddressPrefix) → IsBeyond place p → one (Some p) q ≤ one place q
one_further place p q h = elim (sides (Some p) q) as (λ _. one (Some p) q ≤ one place q) [
  | inl beyond ↦ rw (beyond_so place q (further place p q h beyond)) (one_at_most (Some p) q)
  | inr not_so ↦ rw not_so (omega arith)
]

-- ---- prefixes that stand for some rows
module _ {ps : List AddressPrefix} {n : ℕ} {beyond : Option AddressPrefix → ℕ} {candidates : Candidates} (l : Lists ps n beyond candidates) where
  pub listed_within : (place : Option AddressPrefix) → beyond place ≤ n
  listed_within place = let some = count_by-le-length (is_beyond place) ps in let all = l.all in let counts = l.counts place in omega (arith, some, all, counts)

  each_less : (a b : Option AddressPrefix) → ((q : AddressPrefix) → one a q ≤ one b q) → beyond a ≤ beyond b
  each_less a b less = let sums = sum_by-le-sum_by (one a) (one b) ps less in let x = l.counts a in let y = l.counts b in omega (arith, sums, x, y)

  pub listed_most : (place : Option AddressPrefix) → beyond place ≤ beyond None
  listed_most place = each_less place None (one_at_most place)

  -- a place that moves on leaves no more beyond it,
  pub listed_further : (place : Option AddressPrefix) (p : AddressPrefix) → IsBeyond place p → beyond (Some p) ≤ beyond place
  listed_further place p h = each_less (Some p) place (λ q. one_further place p q h)

  -- and fewer, where it moves to one of them
  pub listed_fewer : (place : Option AddressPrefix) (p : AddressPrefix) → IsBeyond place p → candidates p ≡ true → beyond (Some p) < beyond place
  listed_fewer place p h is =
      let w = l.stands p is in
      let rest = sum_by-le-sum_by (one (Some p)) (one place) (without_place ps w.0) (λ q. one_further place p q h) in
      let now = sum_by-remove (one (Some p)) ps w.0 p w.1 in
      let before = sum_by-remove (one place) ps w.0 p w.1 in
      let gone : one (Some p) (get_or ps w.0 p) ≡ 0 = ap (one (Some p)) w.2 ∙ ap (λ b. cond b 1 0) (at_itself p) in
      let was : one place (get_or ps w.0 p) ≡ 1 = ap (one place) w.2 ∙ ap (λ b. cond b 1 0) (beyond_so place p h) in
      let x = l.counts (Some p) in
      let y = l.counts place in
      omega (arith, rest, now, before, gone, was, x, y)

  pub listed_counts : CountsBeyond candidates beyond
  listed_counts = record { fewer = λ place p next. listed_fewer place p next.0 next.1; most = listed_most }

  -- the same numbers, and no more candidates
  pub like : {m : ℕ} {numbers : Option AddressPrefix → ℕ} {some : Candidates} → n ≡ m → ((place : Option AddressPrefix) → beyond place ≡ numbers place) → ((q : AddressPrefix) → some q ≡ true → candidates q ≡ true) → Lists ps m numbers some
  like rows same fewer = record { all = l.all ∙ rows; counts = λ place. l.counts place ∙ same place; stands = λ q is. l.stands q (fewer q is) }

-- those of two parts together
pub joined : {ps qs : List AddressPrefix} {m n : ℕ} {a b : Option AddressPrefix → ℕ} {c d : Candidates} → Lists ps m a c → Lists qs n b d → Lists (ps ++ qs) (m + n) (λ place. a place + b place) (together c d)
joined {ps} {qs} {m} {n} {a} {b} {c} {d} x y = record {
  all = let l = length-append ps qs in let f = x.all in let s = y.all in omega (arith, l, f, s);
  counts = λ place. let l = sum_by-append (one place) ps qs in let f = x.counts place in let s = y.counts place in omega (arith, l, f, s);
  stands = λ q is. elim (or_cases (c q) (d q) is) as (λ _. Contains (ps ++ qs) q) [
    | inl first ↦ Contains-append_left ps qs q (x.stands q first)
    | inr second ↦ Contains-append_right ps qs q (y.stands q second)
  ];
}

module _ {R : Type 0} where
  -- ---- a table
  pub table_listed : (t : FinMap prefix_cmp R) → Lists (tables.keys t) (tables.len t) (λ place. table_beyond place t) (with_rows (tables.get t))
  table_listed t = record {
    all = length-map (tables.entries t) (λ (e : AddressPrefix × R). e.0) ∙ sym (len-entries t);
    counts = λ place. refl;
    stands = λ q is. Contains-from_any one_prefix q (tables.keys t) (sym (contains_key-keys t q) ∙ is);
  }

  pub table_within : (place : Option AddressPrefix) (t : FinMap prefix_cmp R) → table_beyond place t ≤ tables.len t
  table_within place t = listed_within (table_listed t) place

  pub table_further : (place : Option AddressPrefix) (p : AddressPrefix) (t : FinMap prefix_cmp R) → IsBeyond place p → table_beyond (Some p) t ≤ table_beyond place t
  table_further place p t h = listed_further (table_listed t) place p h

  -- ---- the tables of a chain
  in_either : (held upper : Option R) → is_some (row_over held upper) ≡ true → (is_some held || is_some upper) ≡ true
  in_either None upper is = is
  in_either (Some row) upper is = refl

  listed_below : (live : FinMap prefix_cmp R) (ds : List (Lost R)) → (ps : List AddressPrefix) × Lists ps (tables.len live + lost_count ds) (λ place. table_beyond place live + lost_beyond place ds) (with_rows (rows_below live ds))
  listed_below live [] = (tables.keys live, like (table_listed live) (omega arith) (λ place. omega arith) (λ q is. is))
  listed_below live (d ∷ ds) =
      let rest = listed_below live ds in
      (tables.keys d.rows ++ rest.0, like (joined (table_listed d.rows) rest.1) (omega arith) (λ place. omega arith) (λ q. in_either (tables.get d.rows q) (rows_below live ds q)))

  pub tables_listed : RowsAreListed R
  tables_listed t = listed_below t.live t.deletions

  -- ---- a row that goes leaves no more beyond a place
  sum_keys : (f : AddressPrefix → ℕ) (es : List (AddressPrefix × R)) → sum_by f (map (λ (e : AddressPrefix × R). e.0) es) ≡ sum_by (λ (e : AddressPrefix × R). f e.0) es
  sum_keys f [] = refl
  sum_keys f (e ∷ es) = let a = sum_by-cons f e.0 (map (λ (r : AddressPrefix × R). r.0) es) in let b = sum_by-cons (λ (r : AddressPrefix × R). f r.0) e es in let rest = sum_keys f es in omega (arith, a, b, rest)

  removed_entries : (t : FinMap prefix_cmp R) (p : AddressPrefix) → tables.entries (tables.remove t p) ≡ filter (λ (e : AddressPrefix × R). not (eq_by_cmp prefix_cmp e.0 p)) (tables.entries t)
  removed_entries t p = ap (λ (m : FinMap prefix_cmp R). tables.entries m) (same_map prefixes_total exact_prefixes (tables.remove t p) (from_sorted {R = prefix_cmp} kept) alike) ∙ entries-from_sorted prefix_cmp kept sorted
    where
      other : AddressPrefix → Bool
      other q = not (eq_by_cmp prefix_cmp q p)

      kept : List (AddressPrefix × R)
      kept = where_key prefix_cmp other (tables.entries t)

      sorted : T (is_sorted prefix_cmp kept)
      sorted = is_sorted-where_key prefix_cmp other (tables.entries t) (entries_sorted t)

      by_test : (q : AddressPrefix) (b : Bool) → cond b None (tables.get t q) ≡ cond (not b) (find prefix_cmp q (tables.entries t)) None
      by_test q true = refl
      by_test q false = get-entries t q

      alike : (q : AddressPrefix) → tables.get (tables.remove t p) q ≡ tables.get (from_sorted {R = prefix_cmp} kept) q
      alike q =
          get-remove prefixes_total t p q ∙ by_test q (eq_by_cmp prefix_cmp q p)
          ∙ sym (find-where_key prefix_cmp other q (λ x e. ap other (sym (exact_prefixes q x e))) (tables.entries t)) ∙ sym (get-from_sorted prefix_cmp kept q sorted)

  removed_beyond : (place : Option AddressPrefix) (p : AddressPrefix) (t : FinMap prefix_cmp R) → table_beyond place (tables.remove t p) ≤ table_beyond place t
  removed_beyond place p t =
      let f : AddressPrefix × R → ℕ = λ e. one place e.0 in
      let before = sum_keys (one place) (tables.entries t) in
      let now = sum_keys (one place) (tables.entries (tables.remove t p)) ∙ ap (sum_by f) (removed_entries t p) in
      let both = sum_by-filter_both (λ (e : AddressPrefix × R). not (eq_by_cmp prefix_cmp e.0 p)) (λ e. not (not (eq_by_cmp prefix_cmp e.0 p))) (λ _. refl) f (tables.entries t) in
      omega (arith, before, now, both)

  swept_lost : (place : Option AddressPrefix) (n : ℕ) (p : AddressPrefix) (ds : List (Lost R)) → lost_beyond place (map (swept_one n p) ds) ≤ lost_beyond place ds
  swept_lost place n p [] = omega arith
  swept_lost place n p (d ∷ ds) =
      let rest = swept_lost place n p ds in
      let gone = removed_beyond place p d.rows in
      elim (d.number == n) as (λ b. table_beyond place (cond b (without p d) d).rows + lost_beyond place (map (swept_one n p) ds) ≤ lost_beyond place (d ∷ ds)) [ true ↦ omega (arith, gone, rest) | false ↦ omega (arith, rest) ]

  kept_lost : (place : Option AddressPrefix) (test : Lost R → Bool) (ds : List (Lost R)) → lost_beyond place (filter test ds) ≤ lost_beyond place ds
  kept_lost place test [] = omega arith
  kept_lost place test (d ∷ ds) =
      let rest = kept_lost place test ds in
      elim (test d) as (λ b. lost_beyond place (cond b (d ∷ filter test ds) (filter test ds)) ≤ lost_beyond place (d ∷ ds)) [ true ↦ omega (arith, rest) | false ↦ omega (arith, rest) ]

  pub swept_beyond : TurnsLeaveNoMore R
  swept_beyond place number p t = let less = swept_lost place number p t.deletions in omega (arith, less)

  pub welded_beyond : WeldsLeaveNoMore R
  welded_beyond place t = let less = kept_lost place (λ d. not (is_empty_map d.rows)) t.deletions in omega (arith, less)
