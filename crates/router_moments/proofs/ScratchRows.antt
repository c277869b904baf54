-- Rows from scratch: those of the interior routes, and those that next hops make, at a prefix.
use Rattle.router_moments.proofs.Common.{sym, ◌∙◌, ap, ◌≡◌, ℕ, refl, List, true, arith, false, ◌+◌, Bool, cond, ◌<◌, suc, zero, list_any, range_with_len, AddressPrefix, Route, Neighbour, Speaker, rows_by, metric_rows, link_by, route_rows, Value, Rows, table_of, same_some, route_hop, with_metric, metric_of, Resolving, passes, goes_on, Metric, Passed, function_at, Rule, redistributed, has, Protos, row_of_both, Proto, Connected, Static, Ospf, Rip, Interior, org_rows, int_rows, Treed, branch_of, IsTree, own_rows}
use Rattle.std.proofs.Common.{[], Option, Some, None, ◌∷◌}
use Rattle.std.specs.Prelude.{option_map}
use Rattle.addr4.specs.Prefixes.{block}
use Rattle.addr4.specs.Blocks.{width}
use Rattle.loss_chain.specs.Held.{has_row, has_within}
use Rattle.journal_text.specs.declared.link.Task.TheVariants.{Rdel}
use Rattle.journal_text.specs.Values.{valued}
use Rattle.rib_route.specs.Rows.{External as ExternalRow}
use Rattle.rib_merge.specs.Merging.{merged}
use Rattle.rib_tree.specs.Trees.{interior_distance}
use Rattle.rib_tree.specs.Steps.{tree_lags}
use Rattle.rib_tree.specs.Laws.{OrgWhereNoneIsLost}
use Rattle.live_state.specs.Lives.{Routes, Interiors}
use Rattle.live_state.specs.Decided.{judged_rows, least_rows, with_metric_of, rows_if_any, external_row, or_else, longest_within}
use Rattle.live_state.proofs.LeastLemmas.{first_false, second_false, least_two, least_four}
use Rattle.redist.specs.Local.{local_route}
use Rattle.nexthop_resolver.specs.Resolving.{Answers, made_by as goes_by}
use Rattle.nexthop_resolver.proofs.MoveLemmas.{clash_some}
use Rattle.router_moments.specs.Scratch.{row_in}

-- ---- the interior routes at a prefix that no lost table has
-- of numbers below a bound none passes a test that none of the list passes
pub none_below : (f : ℕ → Bool) (a n k : ℕ) → list_any f (range_with_len a n) ≡ false → k < n → (j : ℕ) → j ≡ a + k → f j ≡ false
none_below f a zero k none less j is = absurd (omega (arith, less))
none_below f a (suc n) zero none less j is = let e : j ≡ a = omega (arith, is) in ap f e ∙ first_false (f a) (list_any f (range_with_len (a + 1) n)) none
none_below f a (suc n) (suc k) none less j is = none_below f (a + 1) n k (second_false (f a) (list_any f (range_with_len (a + 1) n)) none) (omega (arith, less)) j (omega (arith, is))

module _ (org_exact : OrgWhereNoneIsLost) (t : Treed) (tree : IsTree t) where
  abbrev pub live_in : Proto → Interiors
  live_in proto = (branch_of proto t).tables.live

  -- no lost table of a protocol has the prefix
  abbrev pub LacksAt : AddressPrefix → Proto → Type 0
  LacksAt q proto = (n : ℕ) → tree_lags t (Rdel proto n) q ≡ false

  pub two_at : (a b : Proto) (q : AddressPrefix) → LacksAt q a → LacksAt q b → merged interior_distance (org_rows (branch_of a t)) (org_rows (branch_of b t)) q ≡ least_rows live_in (a ∷ b ∷ []) q
  two_at a b q na nb = (λ i. row_of_both interior_distance (org_exact t tree a q na i) (org_exact t tree b q nb i)) ∙ ap (λ (rows : Rows Interior). rows q) (least_two live_in a b)

  pub int_at : (q : AddressPrefix) → ((proto : Proto) → LacksAt q proto) → int_rows t q ≡ least_rows live_in (Connected ∷ Static ∷ Ospf ∷ Rip ∷ []) q
  int_at q none =
      (λ i. row_of_both interior_distance (row_of_both interior_distance (org_exact t tree Connected q (none Connected) i) (org_exact t tree Static q (none Static) i))
      (row_of_both interior_distance (org_exact t tree Ospf q (none Ospf) i) (org_exact t tree Rip q (none Rip) i)))
      ∙ ap (λ (rows : Rows Interior). rows q) (least_four live_in Connected Static Ospf Rip)

  -- where none has a prefix of an address, the longest match is that of the live routes
  pub match_at : (a n : ℕ) → ((proto : Proto) (k : ℕ) → has_within (table_of k (branch_of proto t).tables.deletions) a n ≡ false)
      → longest_within (int_rows t) a n ≡ longest_within (least_rows live_in (Connected ∷ Static ∷ Ospf ∷ Rip ∷ [])) a n
  match_at a zero none = int_at (block width a 0) none
  match_at a (suc n) none = λ i. or_else
      (int_at (block width a (suc n)) (λ proto k. first_false (has_row (table_of k (branch_of proto t).tables.deletions) (block width a (suc n))) (has_within (table_of k (branch_of proto t).tables.deletions) a n) (none proto k)) i)
      (match_at a n (λ proto k. second_false (has_row (table_of k (branch_of proto t).tables.deletions) (block width a (suc n))) (has_within (table_of k (branch_of proto t).tables.deletions) a n) (none proto k)) i)

-- no peer, nothing to judge
pub unjudged : (s : Option Speaker) (rules : List Rule) (routes : Routes) → judged_rows s None rules routes ≡ None
unjudged None rules routes = refl
unjudged (Some me) rules routes = refl

-- the rows of `res.K`, if it is live
abbrev pub opt_rows : Option (Resolving Metric) → Rows Route → Option (Rows Route)
opt_rows None upper = None
opt_rows (Some s) upper = Some (metric_rows s upper)

pub opt_link : (o : Option (Resolving Metric)) (upper : Rows Route) → link_by o upper ≡ option_map route_rows (opt_rows o upper)
opt_link None upper = refl
opt_link (Some s) upper = refl

-- from the row of a link to its value
pub row_value : {V : Type 0} (v : V → Value) (a b : Option (Rows V)) (p : AddressPrefix) → row_in a p ≡ row_in b p → row_in (option_map (valued v) a) p ≡ row_in (option_map (valued v) b) p
row_value {V} v a b p same = made a ∙ ap (option_map (option_map v)) same ∙ sym (made b)
  where
    made : (o : Option (Rows V)) → row_in (option_map (valued v) o) p ≡ option_map (option_map v) (row_in o p)
    made None = refl
    made (Some rows) = refl

abbrev pub or_none : {V : Type 0} → Option (Option V) → Option V
or_none None = None
or_none (Some row) = row

pub if_any : (o : Option (Rows Route)) (p : AddressPrefix) → rows_if_any o p ≡ or_none (row_in o p)
if_any None p = refl
if_any (Some rows) p = refl

pub by_resolver_row : (o : Option (Resolving Metric)) (upper : Rows Route) (p : AddressPrefix) → rows_by o upper p ≡ or_none (row_in (opt_rows o upper) p)
by_resolver_row None upper p = refl
by_resolver_row (Some s) upper p = refl

-- ---- next hops
pub by_match : (r : Route) (found : Option (AddressPrefix × Interior)) → with_metric r (metric_of found) ≡ with_metric_of r (option_map (λ x. x.1) found)
by_match r None = refl
by_match r (Some x) = refl

-- a row of `res.K` is that of `filt.K` with a metric
pub same_hop : (answers : Answers Metric) (o : Option Route) (r : Route) → goes_on route_hop with_metric answers o ≡ Some r → option_map route_hop o ≡ Some (route_hop r)
same_hop answers None r is = absurd (clash_some r ⊥ is)
same_hop answers (Some q) r is = by_answer (answers (route_hop q)) is
  where
    by_metric : (metric : Option ℕ) → with_metric q (record { igp = metric }) ≡ Some r → Some (route_hop q) ≡ Some (route_hop r)
    by_metric None e = absurd (clash_some r ⊥ e)
    by_metric (Some n) e = ap (λ (x : Route). Some (route_hop x)) (same_some (record q { igp = Some n }) r e)

    by_answer : (a : Option Metric) → goes_by route_hop with_metric q a ≡ Some r → Some (route_hop q) ≡ Some (route_hop r)
    by_answer None e = absurd (clash_some r ⊥ e)
    by_answer (Some answer) e = by_metric answer.igp e

pub same_next_hop : (o : Option (Resolving Metric)) (upper : Rows Route) (p : AddressPrefix) (r : Route) → rows_by o upper p ≡ Some r → option_map route_hop (upper p) ≡ Some (route_hop r)
same_next_hop None upper p r is = absurd (clash_some r ⊥ is)
same_next_hop (Some s) upper p r is = same_hop (function_at (passes s) p) (upper p) r is

-- this speaker's own routes come from no peer
pub own_external : (s : Option Speaker) (pass : Passed Protos) (int : Rows Interior) (p : AddressPrefix) (r : Route) → own_rows s pass int p ≡ Some r → external_row (λ w. true) (Some r) ≡ None
own_external None pass int p r is = absurd (clash_some r ⊥ is)
own_external (Some me) pass int p r is = by_row (int p) is
  where
    by_test : (b : Bool) → cond b (Some (local_route me)) None ≡ Some r → external_row (λ w. true) (Some r) ≡ None
    by_test true e = ap (λ (x : Route). external_row (λ w. true) (Some x)) (sym (same_some (local_route me) r e))
    by_test false e = absurd (clash_some r ⊥ e)

    by_row : (o : Option Interior) → redistributed me (function_at pass p) p o ≡ Some r → external_row (λ w. true) (Some r) ≡ None
    by_row None e = absurd (clash_some r ⊥ e)
    by_row (Some row) e = by_test (has (function_at pass p) row.proto) e

-- the next hop of an external row is that of the route
pub sent_hop : (o : Option Route) (x : ExternalRow) → external_row (λ w. true) o ≡ Some x → (r : Route) × (o ≡ Some r) × (route_hop r ≡ x.next_hop)
sent_hop None x is = absurd (clash_some x ⊥ is)
sent_hop (Some r) x is = (r, refl, by_from r.from is)
  where
    by_from : (from : Option Neighbour) → external_row (λ w. true) (Some (record r { from = from })) ≡ Some x → route_hop r ≡ x.next_hop
    by_from None e = absurd (clash_some x ⊥ e)
    by_from (Some peer) e = ap (λ (y : ExternalRow). y.next_hop) (same_some (record { internal = peer.internal; next_hop = r.attrs.next_hop }) x e)
