-- A row that leaves a deletion stage leaves the link below without one: so no more next hops are known than before.
use Rattle.router_moments.proofs.Common.{sym, subst, ◌∙◌, ap, ◌≡◌, ℕ, refl, List, true, arith, false, ◌+◌, Bool, ◌≤◌, cond, ◌<◌, suc, zero, nat_eq, nat_tests, nat_cmp_total, FinMap, get-entries, Contains, nat_cmp, eq_by_cmp, AddressPrefix, prefix_cmp, Attrs, Route, filtered, resolver_at, Resolvers, known_in, PeerRows, IsHops, AllCounted, Chained, filt_rows, Entry, Value, sum_replaced, IsSent, Rows, with_row, Change, table_of, swept_one, route_hop, Resolving, Metric, function_at, Registry, Interior, Resolves}
use Rattle.std.proofs.Common.{[], ◌∷◌, map, length, Option, Some, None, IsSome, is_some}
use Rattle.std.specs.Option.{option_map}
use Rattle.std.specs.FinMap as tables
use Rattle.std.specs.FinMap.{find, entries, len, contains_key, len-entries}
use Rattle.link_change.proofs.RowLemmas.{with_row_here, rows_removed}
use Rattle.link_region.proofs.RegionLemmas.{by_bool}
use Rattle.loss_chain.specs.Lost.{Lost}
use Rattle.loss_chain.specs.Covering.{row_over}
use Rattle.loss_chain.specs.Tables.{rows_below, AreAllApart, AreRising}
use Rattle.loss_chain.specs.Steps.{without}
use Rattle.loss_chain.proofs.WholeLemmas.{rising_all}
use Rattle.loss_chain.proofs.WorkLemmas.{swept_above}
use Rattle.nexthop_known.proofs.CountLemmas.{counted_is_named, named_is_counted}
use Rattle.nexthop_resolver.specs.Resolving.{named_by}
use Rattle.hop_side.specs.Resolvers.{known_of}
use Rattle.hop_side.proofs.FewLemmas.{few}
use Rattle.hop_side.proofs.PutLemmas.{put_here}
use Rattle.in_chain.specs.Chains.{IsChain}
use Rattle.in_chain.specs.Steps.{Sweeps}

-- ---- a map has no more keys than one that has them all
abbrev place_of : ℕ → AddressPrefix
place_of a = record { address = a; length = 0 }

module _ {Y : Type 0} where
  abbrev places : List (ℕ × Y) → List AddressPrefix
  places [] = []
  places (e ∷ es) = place_of e.0 ∷ places es

  places_length : (es : List (ℕ × Y)) → length (places es) ≡ length es
  places_length [] = refl
  places_length (e ∷ es) = let rest = places_length es in omega (arith, rest)

  has_place : (a : ℕ) (y : Y) (es : List (ℕ × Y)) → find nat_cmp a es ≡ Some y → Contains (places es) (place_of a)
  has_place a y [] at = absurd (cc)
  has_place a y (e ∷ es) at =
      by_bool (eq_by_cmp nat_cmp a e.0) (λ b. cond b (Some e.1) (find nat_cmp a es) ≡ Some y → Contains (place_of e.0 ∷ places es) (place_of a))
      (λ same _. let key : e.0 ≡ a = grind (arith, nat_tests) in (zero, omega arith, ap place_of key))
      (λ _ later. let rest = has_place a y es later in (suc rest.0, (let lt = rest.1 in omega (arith, lt)), rest.2)) at

  pub fewer_keys : {X : Type 0} (new : FinMap nat_cmp X) (old : FinMap nat_cmp Y) → ((a : ℕ) → contains_key new a ≡ true → contains_key old a ≡ true) → len new ≤ len old
  fewer_keys new old each =
      let most = few (λ (q : AddressPrefix). Some q.address) (places (entries old)) new (λ a has. (place_of a, refl, there a (tables.get old a) refl (each a has))) in
      let size = places_length (entries old) in
      let all = len-entries old in
      omega (arith, most, size, all)
    where
      there : (a : ℕ) (o : Option Y) → tables.get old a ≡ o → is_some o ≡ true → Contains (places (entries old)) (place_of a)
      there a None at has = absurd (let clash : false ≡ true = has in cc)
      there a (Some y) at has = has_place a y (entries old) (sym (get-entries old a) ∙ at)

-- ---- a row that leaves a lost table
module _ {R : Type 0} (live : FinMap prefix_cmp R) (n : ℕ) (p : AddressPrefix) (table : FinMap prefix_cmp R) (row : R) (at : tables.get table p ≡ Some row) where
  over_some : (o u : Option R) → IsSome u → IsSome (row_over o u)
  over_some None u some = some
  over_some (Some r) u some = refl

  over_none : (o u : Option R) → o ≡ None → u ≡ None → row_over o u ≡ None
  over_none None u held above = above
  over_none (Some r) u held above = absurd (cc)

  stands_below : (ds : List (Lost R)) → table_of n ds ≡ Some table → IsSome (rows_below live ds p)
  stands_below [] is = absurd (cc)
  stands_below (d ∷ ds) is =
      by_bool (nat_eq d.number n) (λ b. cond b (Some d.rows) (table_of n ds) ≡ Some table → IsSome (row_over (tables.get d.rows p) (rows_below live ds p)))
      (λ _ here.
      let same : d.rows ≡ table = cc in
      subst (λ (o : Option R). IsSome (row_over o (rows_below live ds p))) (sym (ap (λ (t : FinMap prefix_cmp R). tables.get t p) same ∙ at)) refl)
      (λ _ later. over_some (tables.get d.rows p) (rows_below live ds p) (stands_below ds later)) is

  -- nothing stands below it then
  pub gone_below : (ds : List (Lost R)) → AreAllApart live ds → AreRising ds → table_of n ds ≡ Some table → rows_below live (map (swept_one n p) ds) p ≡ None
  gone_below [] apart rising is = absurd (cc)
  gone_below (d ∷ ds) apart rising is = by_number (gone_below ds apart.1 rising.1) (nat_eq d.number n) refl
    where
      tail : List (Lost R)
      tail = map (swept_one n p) ds

      by_number : (table_of n ds ≡ Some table → rows_below live tail p ≡ None) → (b : Bool) → nat_eq d.number n ≡ b → row_over (tables.get (swept_one n p d).rows p) (rows_below live tail p) ≡ None
      by_number below true e =
          let mine : Some d.rows ≡ Some table = sym (ap (λ (b : Bool). cond b (Some d.rows) (table_of n ds)) e) ∙ is in
          let same : d.rows ≡ table = cc in
          let first : swept_one n p d ≡ without p d = ap (λ (b : Bool). cond b (without p d) d) e in
          let low : n < d.number + 1 = (let number : d.number ≡ n = grind (arith, nat_tests) in omega (arith, number)) in
          let rest : tail ≡ ds = swept_above n p (d.number + 1) ds low (rising_all d.number ds rising.0 rising.1) in
          over_none (tables.get (swept_one n p d).rows p) (rows_below live tail p)
          (ap (λ (x : Lost R). tables.get x.rows p) first ∙ ap (λ (rows : Rows R). rows p) (rows_removed d.rows p) ∙ with_row_here (tables.get d.rows) p None)
          (ap (λ (l : List (Lost R)). rows_below live l p) rest ∙ apart.0 p (ap (λ (t : FinMap prefix_cmp R). is_some (tables.get t p)) same ∙ ap is_some at))
      by_number below false e =
          let later : table_of n ds ≡ Some table = sym (ap (λ (b : Bool). cond b (Some d.rows) (table_of n ds)) e) ∙ is in
          let first : swept_one n p d ≡ d = ap (λ (b : Bool). cond b (without p d) d) e in
          over_none (tables.get (swept_one n p d).rows p) (rows_below live tail p) (ap (λ (x : Lost R). tables.get x.rows p) first ∙ none_held later (tables.get d.rows p) refl) (below later)
        where
          none_held : table_of n ds ≡ Some table → (o : Option R) → tables.get d.rows p ≡ o → o ≡ None
          none_held later None held = refl
          none_held later (Some r) held =
              let above : rows_below live ds p ≡ None = apart.0 p (ap is_some held) in
              let clash : false ≡ true = sym (ap is_some above) ∙ stands_below ds later in
              cc

-- so nothing stands there on `filt.K`, and every row that does stood before
pub not_filtered : (c : Chained) (p : AddressPrefix) (o : Option Attrs) → o ≡ None → filtered c.me c.peer (function_at c.filter p) p o ≡ None
not_filtered c p None none = refl
not_filtered c p (Some attrs) none = absurd (cc)

row_stood : (old new : Rows Route) (p : AddressPrefix) (sent : Option (Change Route)) → IsSent old new p sent → new p ≡ None → (q : AddressPrefix) → IsSome (new q) → new q ≡ old q
row_stood old new p None is none q some = ap (λ (rows : Rows Route). rows q) is
row_stood old new p (Some change) is none q some =
    let here : change.after ≡ None = sym (ap (λ (rows : Rows Route). rows p) is.2 ∙ ap (λ (a : AddressPrefix). with_row old a change.after p) is.0 ∙ with_row_here old p change.after) ∙ none in
    by_bool (eq_by_cmp prefix_cmp q change.prefix) (λ b. new q ≡ cond b change.after (old q) → new q ≡ old q)
    (λ _ set. absurd (let clash : false ≡ true = sym (ap is_some (set ∙ here)) ∙ some in cc)) (λ _ kept. kept) (ap (λ (rows : Rows Route). rows q) is.2)

pub swept_stood : (old new : Chained) (s : ℕ) (sent : Option (Change Route)) (entries : List (Entry Value)) → IsChain old → Sweeps old new s sent entries → (q : AddressPrefix) → IsSome (filt_rows new q) → filt_rows new q ≡ filt_rows old q
swept_stood old new s sent entries chain t = row_stood (filt_rows old) (filt_rows new) t.prefix sent t.rows gone
  where
    gone : filt_rows new t.prefix ≡ None
    gone = ap (λ (c : Chained). filt_rows c t.prefix) t.after
        ∙ not_filtered old t.prefix _ (gone_below old.incoming.tables.live s t.prefix t.table t.row t.least.0 old.incoming.tables.deletions chain.apart chain.rising t.stands)

-- ---- next hops that rows name
some_row : (o : Option Route) (a : ℕ) → option_map route_hop o ≡ Some a → IsSome o
some_row None a e = absurd (cc)
some_row (Some r) a e = refl

module _ (k : ℕ) (uppers now : PeerRows) (stood : (q : AddressPrefix) → IsSome (now k q) → now k q ≡ uppers k q) (h h' : Resolvers) (sound : IsHops h) (sound' : IsHops h') (counted : AllCounted uppers h) (counted' : AllCounted now h') where
  known_then : (s s' : Resolving Metric) → resolver_at k h ≡ Some s → resolver_at k h' ≡ Some s' → known_of s' ≤ known_of s
  known_then s s' at at' = fewer_keys s'.known s.known (λ a has.
      let w = counted_is_named (named_by route_hop (now k)) s'.counts a (counted' k s' at') (sym ((sound' k s' at').named a) ∙ has) in
      let same = stood w.0 (some_row (now k w.0) a w.1) in
      (sound k s at).named a ∙ named_is_counted (named_by route_hop (uppers k)) s.counts w.0 a (counted k s at) (ap (option_map route_hop) (sym same) ∙ w.1))

  pub knows_no_more : (sent passed : Option (Change Route)) (r r' : Registry Interior) (entries : List (Entry Value)) → Resolves k sent passed r r' h h' entries → known_in h' ≤ known_in h
  knows_no_more None passed r r' entries t = let same : known_in h' ≡ known_in h = ap known_in t.2 in omega (arith, same)
  knows_no_more (Some change) passed r r' entries t =
      let one = known_then t.resolver t.taken t.at (ap (resolver_at k) t.after ∙ put_here k t.taken h) in
      let sum : known_in h' + known_of t.resolver ≡ known_in h + known_of t.taken =
      subst (λ (x : Resolvers). known_in x + known_of t.resolver ≡ known_in h + known_of t.taken) (sym t.after) (sum_replaced nat_cmp_total known_of h k t.taken t.resolver t.at) in
      omega (arith, one, sum)
