-- What is known of next hops and can be printed; and so the rows of `res.K`, which are those of `filt.K` with metrics in their range.
use Rattle.std.proofs.Common.{◌≡◌, ℕ, cond, List, Option, Some, None, refl, sym, ap, subst, ◌∙◌, inl, inr}
use Rattle.std.specs.Prelude.{option_map}
use Rattle.std.specs.Ordering.{nat_cmp, eq_by_cmp}
use Rattle.std.specs.Cmp.{nat_cmp_total}
use Rattle.std.specs.FinMap as tables
use Rattle.std.specs.FinMap.{get-insert}
use Rattle.addr4.specs.Families.{IsPrefixOf}
use Rattle.addr4.specs.Prefixes.{AddressPrefix}
use Rattle.bgp_attr.specs.Routes.{Route}
use Rattle.link_change.specs.Rows.{Rows, Candidates}
use Rattle.link_change.specs.Changes.{Change}
use Rattle.register_interest.specs.Width.{width}
use Rattle.rib_route.specs.Rows.{Interior}
use Rattle.register_interest.specs.Covers.{longest, IsLongest}
use Rattle.register_interest.specs.Registers.{Registry}
use Rattle.register_interest.specs.Interests.{Interest}
use Rattle.register_interest.proofs.CoverLemmas.{longest_is}
use Rattle.pass_core.specs.Passed.{function_of, is_beyond}
use Rattle.nexthop_known.specs.Hops.{Hop}
use Rattle.nexthop_known.specs.Hops.{Hops, IsMapped, settled, renewed, in_force_or}
use Rattle.nexthop_resolver.specs.declared.rows.Metric.{Metric}
use Rattle.nexthop_resolver.specs.Kept.{route_hop, metric_of, way_of, with_igp, with_metric}
use Rattle.nexthop_resolver.specs.Resolving.{Resolving, in_force_by, fresh_by, walk_to, goes_on, made_by}
use Rattle.nexthop_resolver.specs.Registered.{answer_of, told_of}
use Rattle.nexthop_resolver.specs.Takes.{Keeps}
use Rattle.nexthop_resolver.specs.Turns.{KnownAfter, Turned}
use Rattle.journal_text.specs.Values.{route_value, interior_value}
use Rattle.journal_check.specs.Laws.{IsNumberIfAny}
use Rattle.journal_laws.specs.Printed.{Printing, IsPrintable}
use Rattle.journal_laws.proofs.PrintedRows.{Prints}
use Rattle.link_region.proofs.RegionLemmas.{by_bool}
use Rattle.hop_side.specs.Resolvers.{Resolvers, resolver_at, put_resolver, metric_rows, rows_by}
use Rattle.hop_side.specs.Steps.{reached_hop, ReachedAt, AllReached}
use Rattle.hop_side.proofs.PutLemmas.{put_each}
use Rattle.journal_laws.specs.Standing.{AreAnswers, IsMetric, HaveMetrics, IsWay}

-- ---- answers of any kind
module _ {A : Type 0} (Is : A → Type 0) where
  by_hop : (f : Hop A → A) (o : Option (Hop A)) (x : A) → ((h : Hop A) → o ≡ Some h → Is (f h)) → option_map f o ≡ Some x → Is x
  by_hop f None x each is = absurd (cc)
  by_hop f (Some h) x each is = let same : f h ≡ x = cc in subst Is same (each h refl)

  -- those that hold at a prefix
  pub answers_fit : (known : Hops A) (walk : Option (Option AddressPrefix)) (p : AddressPrefix) → AreAnswers Is known → (a : ℕ) (x : A) → function_of (in_force_by known) (walk_to (fresh_by known) walk) p a ≡ Some x → Is x
  answers_fit known None p each a x is = by_hop (λ h. h.in_force) (tables.get known a) x (λ h at. (each a h at).0) is
  answers_fit known (Some place) p each a x is =
      by_bool (is_beyond place p) (λ b. cond b (in_force_by known) (fresh_by known) a ≡ Some x → Is x)
      (λ _ e. by_hop (λ h. h.in_force) (tables.get known a) x (λ h at. (each a h at).0) e) (λ _ e. by_hop (λ h. h.fresh) (tables.get known a) x (λ h at. (each a h at).1) e) is

  -- those that stay known, and those that came
  pub answers_kept : (kept : Option (AddressPrefix × Interior) → A) (r : Registry Interior) (old new : Resolving A) → ((a : ℕ) → Is (answer_of kept r a)) → Keeps (told_of kept r) old new
      → AreAnswers Is old.known → AreAnswers Is new.known
  answers_kept kept r old new fit keeps each a h at = elim (keeps.hops a h at) as (λ _. Is h.in_force × Is h.fresh) [
    | inl was ↦ each a h was
    | inr is ↦ (subst Is (sym is.is_told.in_force) (fit a), subst Is (sym is.is_told.fresh) (fit a))
  ]

  pub answers_mapped : (f : Hop A → Hop A) → ((h : Hop A) → Is h.in_force × Is h.fresh → Is (f h).in_force × Is (f h).fresh) → (old new : Hops A) → IsMapped f old new → AreAnswers Is old → AreAnswers Is new
  answers_mapped f keeps old new is each a h at = by_old (tables.get old a) refl (sym (is a) ∙ at)
    where
      by_old : (o : Option (Hop A)) → tables.get old a ≡ o → option_map f o ≡ Some h → Is h.in_force × Is h.fresh
      by_old None was e = absurd (cc)
      by_old (Some g) was e = let same : f g ≡ h = cc in subst (λ (x : Hop A). Is x.in_force × Is x.fresh) same (keeps g (each a g was))

  walked : (walk : Option (Option AddressPrefix)) (old new : Hops A) → KnownAfter walk old new → AreAnswers Is old → AreAnswers Is new
  walked None old new after each = answers_mapped settled (λ h x. (x.1, x.1)) old new after each
  walked (Some place) old new after each = subst (AreAnswers Is) (sym after) each

  asked : (old new : Hops A) (hop : ℕ) (s : AddressPrefix) (answer : A) → Is answer → new ≡ tables.insert old hop (renewed s answer (tables.get old hop)) → AreAnswers Is old → AreAnswers Is new
  asked old new hop s answer fit is each a h at =
      by_bool (eq_by_cmp nat_cmp a hop) (λ b. cond b (Some (renewed s answer (tables.get old hop))) (tables.get old a) ≡ Some h → Is h.in_force × Is h.fresh)
      (λ _ e. let same : renewed s answer (tables.get old hop) ≡ h = cc in subst (λ (x : Hop A). Is x.in_force × Is x.fresh) same (by_old (tables.get old hop) refl, fit)) (λ _ e. each a h e)
      (sym (ap (λ (m : Hops A). tables.get m a) is ∙ get-insert nat_cmp_total old hop (renewed s answer (tables.get old hop)) a) ∙ at)
    where
      by_old : (o : Option (Hop A)) → tables.get old hop ≡ o → Is (in_force_or answer o)
      by_old None was = fit
      by_old (Some g) was = (each hop g was).0

  pub answers_turned : {R L : Type 0} (hop : R → ℕ) (made : R → A → Option L) (kept : Option (AddressPrefix × Interior) → A) (candidates : Candidates) (upper : Rows R) (was is : Registry Interior) (old new : Resolving A) (sent : Option (Change L))
      → ((a : ℕ) → Is (answer_of kept was a)) → Turned hop made candidates upper kept was is old new sent → AreAnswers Is old.known → AreAnswers Is new.known
  answers_turned hop made kept candidates upper was is old new sent fit (inl goes) each = walked new.walk old.known new.known goes.steps.known each
  answers_turned hop made kept candidates upper was is old new sent fit (inr (inl asks)) each = asked old.known new.known asks.next_hop asks.renews.0 (answer_of kept was asks.next_hop) (fit asks.next_hop) asks.renews.1 each
  answers_turned hop made kept candidates upper was is old new sent fit (inr (inr begins)) each = walked new.walk old.known new.known begins.steps.known each

-- all that a call keeps
abbrev pub AllHaveMetrics : Resolvers → Type 0
AllHaveMetrics a = (k : ℕ) (s : Resolving Metric) → resolver_at k a ≡ Some s → HaveMetrics s

-- ---- rows
module _ (printing : Printing) where
  with_prints : (r row : Route) (igp : Option ℕ) → IsNumberIfAny igp → with_igp r igp ≡ Some row → IsPrintable printing (route_value r) → IsPrintable printing (route_value row)
  with_prints r row None fits is h = absurd (cc)
  with_prints r row (Some n) fits is h =
      let same : record r { igp = Some n } ≡ row = cc in
      let ranges = h.well_told.ranges in
      subst (λ (x : Route). IsPrintable printing (route_value x)) same (record {
        well_told = record {
          ranges = record { attrs = ranges.attrs; pref = ranges.pref; med = ranges.med; prepend = ranges.prepend; igp = fits; from = ranges.from };
          told = h.well_told.told;
        };
        short = h.short;
      })

  goes_prints : (p : AddressPrefix) (answers : ℕ → Option Metric) → ((a : ℕ) (x : Metric) → answers a ≡ Some x → IsNumberIfAny x.igp) → (o : Option Route) (row : Route) → ((r : Route) → o ≡ Some r → IsPrefixOf printing.v6 p × IsPrintable printing (route_value r))
      → goes_on route_hop with_metric answers o ≡ Some row → IsPrefixOf printing.v6 p × IsPrintable printing (route_value row)
  goes_prints p answers fit None row each is = absurd (cc)
  goes_prints p answers fit (Some r) row each is = by_answer (answers (route_hop r)) refl is
    where
      by_answer : (x : Option Metric) → answers (route_hop r) ≡ x → made_by route_hop with_metric r x ≡ Some row → IsPrefixOf printing.v6 p × IsPrintable printing (route_value row)
      by_answer None at is = absurd (cc)
      by_answer (Some x) at is = let own = each r refl in (own.0, with_prints r row x.igp (fit (route_hop r) x at) is own.1)

  res_prints : (s : Resolving Metric) (upper : Rows Route) → HaveMetrics s → Prints printing route_value upper → Prints printing route_value (metric_rows s upper)
  res_prints s upper metrics before p row is =
      goes_prints p (function_of (in_force_by s.known) (walk_to (fresh_by s.known) s.walk) p) (answers_fit IsMetric s.known s.walk p metrics) (upper p) row (λ r at. before p r at) is

  pub rows_print : (o : Option (Resolving Metric)) (upper : Rows Route) → ((s : Resolving Metric) → o ≡ Some s → HaveMetrics s) → Prints printing route_value upper → Prints printing route_value (rows_by o upper)
  rows_print None upper metrics before p row is = absurd (cc)
  rows_print (Some s) upper metrics before p row is = res_prints s upper (metrics s refl) before p row is

  -- ---- the register's answers
  pub present_fit : {A : Type 0} (Is : A → Type 0) (kept : Option (AddressPrefix × Interior) → A) (r : Registry Interior) (rows : Rows Interior)
      → Is (kept None) → ((q : AddressPrefix) (row : Interior) → IsPrintable printing (interior_value row) → Is (kept (Some (q, row)))) → tables.get r.rows ≡ rows → Prints printing interior_value rows → (a : ℕ) → Is (answer_of kept r a)
  present_fit Is kept r rows none some same prints a = subst (λ (x : Rows Interior). Is (kept (longest width x a))) (sym same) (by_found (longest width rows a) (longest_is width rows a))
    where
      by_found : (o : Option (AddressPrefix × Interior)) → IsLongest width rows a o → Is (kept o)
      by_found None is = none
      by_found (Some x) is = some x.0 x.1 (prints x.0 x.1 is.2).1

  pub metrics_fit : (r : Registry Interior) (rows : Rows Interior) → tables.get r.rows ≡ rows → Prints printing interior_value rows → (a : ℕ) → IsMetric (answer_of metric_of r a)
  metrics_fit r rows same prints = present_fit IsMetric metric_of r rows tt (λ q row own. own.well_told.ranges.1) same prints

  pub ways_fit : (r : Registry Interior) (rows : Rows Interior) → tables.get r.rows ≡ rows → Prints printing interior_value rows → (a : ℕ) → IsWay printing.v6 (answer_of way_of r a)
  ways_fit r rows same prints = present_fit (IsWay printing.v6) way_of r rows tt (λ q row own. (own.well_told.ranges.0, own.well_told.told)) same prints

-- ---- resolvers that stay so
pub metrics_reached : (out : List Interest) (a a' : Resolvers) → AllReached out a a' → AllHaveMetrics a → AllHaveMetrics a'
metrics_reached out a a' reaches metrics k s at = by_both (resolver_at k a) (resolver_at k a') refl at (reaches k)
  where
    by_both : (o p : Option (Resolving Metric)) → resolver_at k a ≡ o → p ≡ Some s → ReachedAt out k o p → HaveMetrics s
    by_both None None was is r = absurd (cc)
    by_both None (Some new) was is r = absurd r
    by_both (Some old) None was is r = absurd (cc)
    by_both (Some old) (Some new) was is r =
        let same : new ≡ s = cc in
        subst HaveMetrics same (answers_mapped IsMetric (reached_hop out k) (λ h x. x) old.known new.known r.known (metrics k old was))

-- with another resolver for a peer
pub metrics_put : (k : ℕ) (s : Resolving Metric) (a a' : Resolvers) → a' ≡ put_resolver k s a → HaveMetrics s → AllHaveMetrics a → AllHaveMetrics a'
metrics_put k s a a' is own metrics = subst AllHaveMetrics (sym is) (put_each (λ j x. HaveMetrics x) k s a own (λ j x other at. metrics j x at))
