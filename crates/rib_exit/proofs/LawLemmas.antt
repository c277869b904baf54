-- Laws of the RIB's exit.
use Rattle.std.proofs.Common.{◌≡◌, ℕ, Bool, true, false, not, ◌||◌, cond, Option, Some, None, Result, Ok, Err, OnOk, is_some, refl, sym, ap, subst, ◌∙◌}
use Rattle.std.specs.Prelude.{option_map}
use Rattle.std.specs.FinMap as map
use Rattle.std.specs.FinMap.{get-empty, len-empty}
use Rattle.std.specs.Ordering.{nat_cmp}
use Rattle.addr4.specs.Prefixes.{prefix_cmp}
use Rattle.bgp_attr.specs.Routes.{Route}
use Rattle.link_change.specs.Rows.{Rows, no_rows}
use Rattle.link_change.proofs.RowLemmas.{same_function, empty_rows}
use Rattle.rib_route.specs.Rows.{External}
use Rattle.rib_route.specs.Rows.{FibRow}
use Rattle.rib_merge.specs.Merging.{row_of_both, merged}
use Rattle.nexthop_known.specs.Hops.{Hop}
use Rattle.nexthop_known.specs.Counts.{AreCounted}
use Rattle.nexthop_known.proofs.CountLemmas.{nothing_is_counted}
use Rattle.nexthop_resolver.specs.Ways.{Way}
use Rattle.nexthop_resolver.specs.Kept.{external_hop, over, way_of, same_way}
use Rattle.nexthop_resolver.specs.Resolving.{nothing_known, named_by}
use Rattle.nexthop_resolver.specs.Turns.{Rests}
use Rattle.nexthop_resolver.proofs.HeldLemmas.{none_held_up_at_rest}
use Rattle.nexthop_resolver.proofs.MoveLemmas.{by_bool, same_some, clash_some}
use Rattle.nexthop_resolver.proofs.RowLemmas.{no_rows_at_first}
use Rattle.nexthop_resolver.proofs.AlikeLemmas.{tells_ways}
use Rattle.nexthop_resolver.proofs.LeftLemmas.{rests_idle, idle_rests}
use Rattle.nexthop_resolver.proofs.AgreeLemmas.{nothing_yet as none_asked, others_agree}
use Rattle.rib_split.specs.declared.split.BgpLink.TheVariants as sides
use Rattle.rib_split.specs.Splitting.{Parted, external_row, on_link}
use Rattle.rib_split.specs.Laws.{merged_links}
use Rattle.rib_split.proofs.TableLemmas.{tables_begin_empty}
use Rattle.ext_int.specs.Fibs.{forwarding_table, fib_table}
use Rattle.ext_int.specs.Laws as tables
use Rattle.ext_int.proofs.FibLemmas.{empty_table}
use Rattle.journal_text.specs.declared.link.Link.{Link}
use Rattle.journal_text.specs.declared.link.Link.TheVariants.{Ebgp, Ibgp, Ext, Fib}
use Rattle.journal_text.specs.Lines.{Value}
use Rattle.journal_text.specs.Walk.{Links, Leads, fold_links, no_links}
use Rattle.journal_text.specs.Values.{fib_rows}
use Rattle.rib_exit.specs.Exits.{nothing_yet, ext_rows, external_rows, exit_links, is_exit_link, beside}
use Rattle.rib_exit.specs.Passing.{external_distance}
use Rattle.rib_exit.specs.Steps.{LeadsExit, begin_entries}
use Rattle.rib_exit.specs.Laws.{StandsAtFirst, LeadsAnywhere, ExtIsOfBest, ExactUnlessHeldUp, NoneHeldUpWithoutWork, StrangersAgree, CandidatesAreOfBest}
use Rattle.rib_exit.proofs.BusyLemmas.{none_left_without_work}

-- what holds at any rate
pub on_ok : {X E : Type 0} (r : Result X E) (P : Type 0) → P → OnOk r P
on_ok (Ok x) P p = p
on_ok (Err e) P p = tt

-- ---- at first
empty_side : external_rows (map.get {R = prefix_cmp} map.empty) ≡ no_rows
empty_side = ap external_rows empty_rows

empty_merged : ext_rows nothing_yet ≡ no_rows
empty_merged = ap (λ (r : Rows External). merged external_distance r r) empty_rows

empty_fib : fib_table (nothing_known 0) no_rows (ext_rows nothing_yet) ≡ no_rows
empty_fib = ap (fib_table (nothing_known 0) no_rows) empty_merged ∙ ap (forwarding_table no_rows) (no_rows_at_first external_hop over 0) ∙ empty_table

bare : (rows now : Rows Value) → rows ≡ no_rows → Some rows ≡ Some now → now ≡ no_rows
bare rows now none same = sym (same_some rows now same) ∙ none

no_row : (link : Link) (rows : Rows Value) → exit_links nothing_yet no_rows link ≡ Some rows → rows ≡ no_rows
no_row Ebgp rows is = bare _ rows empty_side is
no_row Ibgp rows is = bare _ rows empty_side is
no_row Ext rows is = bare _ rows (ap external_rows empty_merged) is
no_row Fib rows is = bare _ rows (ap fib_rows empty_fib) is
no_row other rows is = clash_some rows _ is

pub begun_leads : LeadsExit no_links begin_entries (exit_links nothing_yet no_rows)
begun_leads others = record { lawful = (refl, (refl, (refl, (refl, tt)))); ends = same_function _ _ each }
  where
    each : (link : Link) → fold_links (beside others no_links) begin_entries link ≡ beside others (exit_links nothing_yet no_rows) link
    each Ebgp = ap (λ (r : Rows Value). Some r) (sym empty_side)
    each Ibgp = ap (λ (r : Rows Value). Some r) (sym empty_side)
    each Ext = ap (λ (r : Rows External). Some (external_rows r)) (sym empty_merged)
    each Fib = ap (λ (r : Rows FibRow). Some (fib_rows r)) (sym empty_fib)
    each other = refl

none_named : AreCounted (named_by external_hop (ext_rows nothing_yet)) map.empty
none_named = subst (λ (r : Rows External). AreCounted (named_by external_hop r) map.empty) (sym empty_merged) nothing_is_counted

none_known : (a : ℕ) (h : Hop Way) → map.get {R = nat_cmp} map.empty a ≡ Some h → ⊥
none_known a h at = clash_some h ⊥ (sym (get-empty nat_cmp a) ∙ at)

nothing_rests : Rests (nothing_known {A = Way} 0)
nothing_rests = record { off = refl; none_stale = λ a h at. absurd (none_known a h at); settled_all = λ a h at. absurd (none_known a h at) }

pub stands_at_first : StandsAtFirst nothing_yet
stands_at_first = record {
  rows = no_row;
  sound = record { client = refl; named = λ a. ap is_some (get-empty nat_cmp a) ∙ sym (ap is_some (get-empty nat_cmp a)) };
  stands = record { links = tables_begin_empty; counted = none_named };
  agree = λ r none. none_asked way_of 0 r none;
  known = len-empty nat_cmp _;
  left = λ beyond. (none_left_without_work nothing_yet beyond).0 (rests_idle same_way (nothing_known 0) tells_ways nothing_rests);
}

-- ---- links
module _ (before links : Links Value) where
  among : ((link : Link) → is_exit_link link ≡ true → before link ≡ links link) → beside before links ≡ before
  among is = same_function _ _ (λ link. by_bool (is_exit_link link) (λ b. cond b (links link) (before link) ≡ before link) (λ e. sym (is link e)) (λ _. refl))

  set_among : (after : Links Value) → ((link : Link) → is_exit_link link ≡ true → after link ≡ links link) → ((link : Link) → is_exit_link link ≡ false → after link ≡ before link) → beside before links ≡ after
  set_among after is same = same_function _ _ (λ link. by_bool (is_exit_link link) (λ b. cond b (links link) (before link) ≡ after link) (λ e. sym (is link e)) (λ e. sym (same link e)))

pub leads_anywhere : LeadsAnywhere
leads_anywhere old new before after entries leads are =
    subst (λ (l : Links Value). Leads l entries after) (among before old are.was)
    (subst (λ (l : Links Value). Leads (beside before old) entries l) (set_among before new after are.is are.same) (leads before))

-- ---- from the best routes
one_side : (b : Bool) (r : External) → row_of_both external_distance (cond (not b) (Some r) None) (cond b (Some r) None) ≡ Some r
one_side true r = refl
one_side false r = refl

own_row : (row : Option External) → row_of_both external_distance (on_link sides.Ebgp row) (on_link sides.Ibgp row) ≡ row
own_row None = refl
own_row (Some r) = one_side r.internal r

pub ext_is_of_best : ExtIsOfBest
ext_is_of_best e best stands = ap merged_links stands.links ∙ same_function _ _ (λ q. own_row (external_row (best q)))

pub exact_unless_held_up : tables.ExactUnlessHeldUp → ExactUnlessHeldUp
exact_unless_held_up exact e best int r p sound stands agree none = exact same_way tells_ways int (ext_rows e) r e.forwarding p agree sound.named stands.counted none

pub none_held_up_without_work : NoneHeldUpWithoutWork
none_held_up_without_work e p idle = none_held_up_at_rest same_way tells_ways e.forwarding p (option_map external_hop (ext_rows e p)) (idle_rests same_way e.forwarding tells_ways idle)

no_side : (row : Option Route) → row ≡ None → is_some (on_link sides.Ebgp (external_row row)) || is_some (on_link sides.Ibgp (external_row row)) ≡ false
no_side None e = refl
no_side (Some r) e = absurd (let clash : Some r ≡ None = e in cc)

pub candidates_are_of_best : CandidatesAreOfBest
candidates_are_of_best e best candidates q stands covers there =
    by_bool (candidates q) (λ b. b ≡ true) (λ _. refl) (λ none.
    let gone = ap (λ (r : Parted). is_some (r sides.Ebgp q) || is_some (r sides.Ibgp q)) stands.links ∙ no_side (best q) (covers q none) in
    let clash : true ≡ false = sym there ∙ gone in
    absurd (cc))

-- ---- the register
pub strangers_agree : StrangersAgree
strangers_agree e client was is sound other keeps agree =
    others_agree way_of e.forwarding.client client e.forwarding.known was is (λ same. other (sym same ∙ sound.client)) keeps agree
