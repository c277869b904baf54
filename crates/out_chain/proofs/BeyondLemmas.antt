-- How many rows lie beyond a place, and how many candidates at least.
use Rattle.std.proofs.Common.{◌≡◌, inl, inr, ℕ, zero, suc, ◌<◌, ◌≤◌, Bool, true, false, ◌&&◌, cond, T, List, [], ◌∷◌, length, map, get_or, Option, Some, None, is_some, refl, sym, ap, ◌∙◌, arith}
use Rattle.std.specs.List.{Contains, AllByRecursion, count_by, remove as without_place}
use Rattle.std.specs.Ordering.{is_lt, ordering_reverse}
use Rattle.std.specs.Cmp.{eq_by_cmp_equiv}
use Rattle.std.specs.declared.cmp.Ordering.{Ordering}
use Rattle.std.specs.declared.cmp.Ordering.TheVariants.{Less, Equal, Greater}
use Rattle.std.proofs.lemmas.Bool.{cases_lt}
use Rattle.std.proofs.lemmas.List.Sums.{count_by-le-length, sum_by-cons, sum_by-le, sum_by-le-sum_by, sum_by-remove}
use Rattle.std.proofs.lemmas.Map.Views.{Contains-from_any, All-from_any}
use Rattle.std.specs.FinMap as tables
use Rattle.std.specs.FinMap.{FinMap, is_sorted, entries_sorted, contains_key-keys}
use Rattle.std.specs.FinMap.Entries.{below_all}
use Rattle.addr4.specs.Prefixes.{AddressPrefix, prefix_cmp, ComesBefore}
use Rattle.addr4.specs.Places.{IsBeyond}
use Rattle.addr4.proofs.PrefixOrder.{prefixes_total, exact_prefixes, one_prefix}
use Rattle.addr4.proofs.RankLemmas.{before_is, further}
use Rattle.bgp_attr.specs.Attributes.{Attrs}
use Rattle.link_change.specs.Rows.{Candidates, IsNextCandidate, with_rows}
use Rattle.link_change.proofs.MapLemmas.{all_entries}
use Rattle.pass_core.specs.Passed.{is_beyond}
use Rattle.pass_core.specs.Left.{CountsBeyond}
use Rattle.pass_core.proofs.SplitLemmas.{sides, beyond_so, at_itself}
use Rattle.out_chain.specs.Chains.{beyond_in}

-- ---- a prefix beyond a place counts one
abbrev one : Option AddressPrefix → AddressPrefix → ℕ
one place q = cond (is_beyond place q) 1 0

one_at_most : (place : Option AddressPrefix) (q : AddressPrefix) → one place q ≤ 1
one_at_most place q = elim (is_beyond place q) as (λ b. cond b 1 0 ≤ 1) [ true ↦ omega arith | false ↦ omega arith ]

-- what lies beyond a prefix beyond the place lies beyond the place
one_further : (place : Option AddressPrefix) (p q : AddressPrefix) → IsBeyond place p → one (Some p) q ≤ one place q
one_further place p q h = elim (sides (Some p) q) as (λ _. one (Some p) q ≤ one place q) [
  | inl beyond ↦ rw (beyond_so place q (further place p q h beyond)) (one_at_most (Some p) q)
  | inr not_so ↦ rw not_so (omega arith)
]

-- ---- the rows of a map
module _ (m : FinMap prefix_cmp Attrs) where
  -- before all prefixes most lie beyond
  pub most_beyond : (place : Option AddressPrefix) → beyond_in m place ≤ beyond_in m None
  most_beyond place = sum_by-le-sum_by (one place) (one None) (tables.keys m) (one_at_most place)

  -- a place that moves to a row leaves fewer beyond it
  pub moved_fewer : (place : Option AddressPrefix) (p : AddressPrefix) → IsBeyond place p → is_some (tables.get m p) ≡ true → beyond_in m (Some p) < beyond_in m place
  moved_fewer place p h is =
      let ps = tables.keys m in
      let w : Contains ps p = Contains-from_any one_prefix p ps (sym (contains_key-keys m p) ∙ is) in
      let rest = sum_by-le-sum_by (one (Some p)) (one place) (without_place ps w.0) (λ q. one_further place p q h) in
      let now = sum_by-remove (one (Some p)) ps w.0 p w.1 in
      let before = sum_by-remove (one place) ps w.0 p w.1 in
      let gone : one (Some p) (get_or ps w.0 p) ≡ 0 = ap (one (Some p)) w.2 ∙ ap (λ b. cond b 1 0) (at_itself p) in
      let was : one place (get_or ps w.0 p) ≡ 1 = ap (one place) w.2 ∙ ap (λ b. cond b 1 0) (beyond_so place p h) in
      omega (arith, rest, now, before, gone, was)

  -- none lies beyond a place beyond which there is no row
  pub none_beyond : (place : Option AddressPrefix) → ((q : AddressPrefix) → IsBeyond place q → is_some (tables.get m q) ≡ false) → beyond_in m place ≡ 0
  none_beyond place none =
      let within = sum_by-le (one place) 0 (tables.keys m) (All-from_any (eq_by_cmp_equiv prefixes_total) (λ q. one place q ≤ 0) (tables.keys m) (λ q any. here q (contains_key-keys m q ∙ any))) in
      omega (arith, within)
    where
      here : (q : AddressPrefix) → is_some (tables.get m q) ≡ true → one place q ≤ 0
      here q there = elim (sides place q) as (λ _. one place q ≤ 0) [
        | inl beyond ↦ absurd (let clash : true ≡ false = sym there ∙ none q beyond in cc)
        | inr not_so ↦ rw not_so (omega arith)
      ]

  -- where the next row lies, some lie beyond the place; where there is no next row, none does
  pub next_is_beyond : (place : Option AddressPrefix) (p : AddressPrefix) → IsNextCandidate (with_rows (tables.get m)) place (Some p) → 0 < beyond_in m place
  next_is_beyond place p next = let less = moved_fewer place p next.0 next.1 in omega (arith, less)

  pub no_next : (place : Option AddressPrefix) → IsNextCandidate (with_rows (tables.get m)) place None → beyond_in m place ≡ 0
  no_next place next = none_beyond place next

  -- where none lies beyond a place, no row stands there
  pub nothing_beyond : (place : Option AddressPrefix) (q : AddressPrefix) → beyond_in m place ≡ 0 → IsBeyond place q → tables.get m q ≡ None
  nothing_beyond place q none h = by (tables.get m q) refl
    where
      by : (row : Option Attrs) → tables.get m q ≡ row → tables.get m q ≡ None
      by None at = at
      by (Some a) at = absurd (let less = moved_fewer place q h (ap is_some at) in omega (arith, less, none))

-- ---- what holds of a prefix where it holds of all that come before it, holds of each
module _ (P : AddressPrefix → Type 0) (step : (k : AddressPrefix) → ((q : AddressPrefix) → ComesBefore q k → P q) → P k) where
  by_length : (n : ℕ) → ((q : AddressPrefix) → q.address < n → P q) → (m : ℕ) (k : AddressPrefix) → k.address < suc n → k.length < m → P k
  by_length n lower zero k a l = absurd (omega (arith, l))
  by_length n lower (suc m) k a l = step k (λ q before. elim (before_is q k before) as (λ _. P q) [
    | inl less ↦ lower q (omega (arith, less, a))
    | inr same ↦ by_length n lower m q (let e = same.0 in omega (arith, e, a)) (let less = same.1 in omega (arith, less, l))
  ])

  by_address : (n : ℕ) (k : AddressPrefix) → k.address < n → P k
  by_address zero k a = absurd (omega (arith, a))
  by_address (suc n) k a = by_length n (by_address n) (suc k.length) k a (omega arith)

  pub by_order : (k : AddressPrefix) → P k
  by_order k = by_address (suc k.address) k (omega arith)

-- ---- from a place to any candidate beyond it lies a least one: it can't be that there is none
abbrev IsThere : Candidates → Option AddressPrefix → AddressPrefix → Type 0
IsThere candidates place k = IsBeyond place k → candidates k ≡ true → ((p : AddressPrefix) → IsNextCandidate candidates place (Some p) → (ComesBefore k p → ⊥) → ⊥) → ⊥

not_before_itself : (k : AddressPrefix) → ComesBefore k k → ⊥
not_before_itself k h = let e : true ≡ false = sym (beyond_so (Some k) k h) ∙ at_itself k in absurd (cc)

least_there : (candidates : Candidates) (place : Option AddressPrefix) (k : AddressPrefix) → IsThere candidates place k
least_there candidates place = by_order (IsThere candidates place) (λ k lower beyond is after.
    after k (beyond, is, λ q further_on before. none k q lower further_on before after) (not_before_itself k))
  where
    none : (k q : AddressPrefix) → ((r : AddressPrefix) → ComesBefore r k → IsThere candidates place r) → IsBeyond place q → ComesBefore q k
        → ((p : AddressPrefix) → IsNextCandidate candidates place (Some p) → (ComesBefore k p → ⊥) → ⊥) → candidates q ≡ false
    none k q lower beyond before after = elim (candidates q) as (λ b. candidates q ≡ b → candidates q ≡ false) [
      | true ↦ λ e. absurd (lower q before beyond e (λ p next not_later. after p next (λ later. not_later (prefixes_total.trans q k p before later))))
      | false ↦ λ e. e
    ] refl

-- ---- so these numbers fall from a place to any candidate beyond it
module _ (candidates : Candidates) (beyond : Option AddressPrefix → ℕ) (counts : CountsBeyond candidates beyond) where
  -- the least one is the candidate, or one from which they fall further
  next_way : (place : Option AddressPrefix) (k p : AddressPrefix) → IsNextCandidate candidates place (Some p) → (ComesBefore k p → ⊥) → (beyond (Some k) < beyond place → ⊥)
      → (ComesBefore p k → beyond (Some p) < beyond place → (beyond (Some k) < beyond (Some p) → ⊥) → ⊥) → ⊥
  next_way place k p next not_later refuse further_on = by (prefix_cmp p k) refl
    where
      by : (o : Ordering) → prefix_cmp p k ≡ o → ⊥
      by Less e = let less = counts.fewer place p next in further_on e less (λ more. refuse (omega (arith, less, more)))
      by Equal e =
          let less = counts.fewer place p next in
          let same : beyond (Some p) ≡ beyond (Some k) = ap (λ q. beyond (Some q)) (exact_prefixes p k e) in
          refuse (omega (arith, less, same))
      by Greater e = not_later (prefixes_total.antisymm k p ∙ ap ordering_reverse e)

  falls_by : (n : ℕ) (place : Option AddressPrefix) (k : AddressPrefix) → beyond place ≤ n → IsBeyond place k → candidates k ≡ true → (beyond (Some k) < beyond place → ⊥) → ⊥
  falls_by zero place k top h is refuse = least_there candidates place k h is (λ p next _. let less = counts.fewer place p next in omega (arith, less, top))
  falls_by (suc n) place k top h is refuse = least_there candidates place k h is (λ p next not_later.
      next_way place k p next not_later refuse (λ before less. falls_by n (Some p) k (omega (arith, less, top)) before is))

  pub falls : (place : Option AddressPrefix) (k : AddressPrefix) → IsBeyond place k → candidates k ≡ true → beyond (Some k) < beyond place
  falls place k h is = elim (cases_lt (beyond (Some k)) (beyond place)) [
    | inl less ↦ less
    | inr more ↦ absurd (falls_by (beyond place) place k (omega arith) h is (λ less. omega (arith, less, more)))
  ]

  both_so : (a b : Bool) → T (a && b) → T a × T b
  both_so true b h = (tt, h)
  both_so false b h = absurd h

  less_so : (o : Ordering) → T (is_lt o) → is_lt o ≡ true
  less_so Less h = refl
  less_so Equal h = absurd h
  less_so Greater h = absurd h

  -- all that stand behind a prefix lie beyond it
  all_behind : (k : AddressPrefix) (es : List (AddressPrefix × Attrs)) → T (below_all prefix_cmp k es) → count_by (is_beyond (Some k)) (map (λ (e : AddressPrefix × Attrs). e.0) es) ≡ length (map (λ (e : AddressPrefix × Attrs). e.0) es)
  all_behind k [] h = refl
  all_behind k (e ∷ es) h =
      let p = both_so (is_lt (prefix_cmp k e.0)) (below_all prefix_cmp k es) h in
      let first = sum_by-cons (one (Some k)) e.0 (map (λ (e : AddressPrefix × Attrs). e.0) es) in
      let here : one (Some k) e.0 ≡ 1 = ap (λ b. cond b 1 0) (less_so (prefix_cmp k e.0) p.0) in
      let rest = all_behind k es p.1 in
      omega (arith, first, here, rest)

  -- no more prefixes that are candidates lie beyond a place than these numbers say
  counted : (es : List (AddressPrefix × Attrs)) (place : Option AddressPrefix) → T (is_sorted prefix_cmp es) → AllByRecursion (λ e. candidates e.0 ≡ true) es → count_by (is_beyond place) (map (λ (e : AddressPrefix × Attrs). e.0) es) ≤ beyond place
  counted [] place sorted all = omega arith
  counted (e ∷ es) place sorted all =
      let p = both_so (below_all prefix_cmp e.0 es) (is_sorted prefix_cmp es) sorted in
      let ks = map (λ (e : AddressPrefix × Attrs). e.0) es in
      let first = sum_by-cons (one place) e.0 ks in
      elim (sides place e.0) as (λ _. count_by (is_beyond place) (map (λ (e : AddressPrefix × Attrs). e.0) (e ∷ es)) ≤ beyond place) [
        | inl h ↦
            let less = falls place e.0 h all.0 in
            let rest = counted es (Some e.0) p.1 all.1 in
            let behind = all_behind e.0 es p.0 in
            let most = count_by-le-length (is_beyond place) ks in
            let here = one_at_most place e.0 in
            omega (arith, first, less, rest, behind, most, here)
        | inr not_so ↦
            let here : one place e.0 ≡ 0 = ap (λ b. cond b 1 0) not_so in
            let rest = counted es place p.1 all.1 in
            omega (arith, first, here, rest)
      ]

  -- nor more rows, where each stands at a candidate
  pub rows_counted : (m : FinMap prefix_cmp Attrs) → ((q : AddressPrefix) → is_some (tables.get m q) ≡ true → candidates q ≡ true) → (place : Option AddressPrefix) → beyond_in m place ≤ beyond place
  rows_counted m covers place =
      counted (tables.entries m) place (entries_sorted m) (all_entries prefixes_total (λ k (v : Attrs). candidates k ≡ true) m (λ k v at. covers k (ap is_some at)))
