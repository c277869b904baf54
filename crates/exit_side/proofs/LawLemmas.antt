-- Laws of the side of the exits.
use Rattle.std.proofs.Common.{◌≡◌, ℕ, true, false, cond, List, Option, Some, None, is_some, refl, sym, ap, subst, ◌∙◌, arith}
use Rattle.std.specs.List.{sum_by}
use Rattle.std.specs.Map.{values_of}
use Rattle.std.specs.FinMap as tables
use Rattle.std.specs.FinMap.{get-empty, contains_key-keys, nat_cmp-IsAntisymmetric}
use Rattle.std.specs.Ordering.{nat_cmp}
use Rattle.std.specs.Cmp.{nat_cmp_total}
use Rattle.std.proofs.lemmas.Map.Views.{Contains-from_any, tells_apart}
use Rattle.bgp_attr.specs.Routes.{Route}
use Rattle.bgp_attr.specs.declared.speaker.Profile.{Profile}
use Rattle.link_change.proofs.RowLemmas.{same_function}
use Rattle.link_change.proofs.MapLemmas.{no_entries, one_of_sum}
use Rattle.fanout_queue.specs.Queues.{Queued}
use Rattle.fanout_queue.specs.Readers.{unread_by, read_rows}
use Rattle.fanout_queue.proofs.Cases.{by_bool}
use Rattle.journal_text.specs.Lines.{Value}
use Rattle.journal_text.specs.Lines.{Entry}
use Rattle.journal_text.specs.Links.{owner_of}
use Rattle.journal_text.specs.Walk.{Links, Leads}
use Rattle.out_chain.specs.Chains.{OutChained}
use Rattle.out_chain.specs.Laws as out_laws
use Rattle.exit_side.specs.Exits.{no_exits, chain_at, links_by, busy_by, lags_by, left_of, left_in}
use Rattle.exit_side.specs.Steps.{is_exit, beside}
use Rattle.exit_side.specs.Laws.{StandsAtFirst, AreAmong, LeadsAnywhere, LeadsAnywhereWithBest, ExactUnlessHeldUp, NoneHeldUpWithoutWork, WorkIsListed, NoneLeftWithoutWork, TurnsAreBounded, LeftFollows}
use Rattle.exit_side.proofs.CountLemmas.{none_idle, all_bounded, all_follow}
use Rattle.exit_side.proofs.TaskLemmas.{entries_idle, idle_sum}

-- ---- at first
not_there : (profile : Profile) (k : ℕ) (c : OutChained) (P : Type 0) → chain_at k (no_exits profile) ≡ Some c → P
not_there profile k c P at = absurd (let none : chain_at k (no_exits profile) ≡ None = get-empty nat_cmp k in let clash : Some c ≡ None = sym at ∙ none in cc)

pub stands_at_first : (profile : Profile) → StandsAtFirst (no_exits profile)
stands_at_first profile = record {
  links = λ best link. ap (λ (o : Option OutChained). links_by tables.empty best o link) (get-empty nat_cmp (owner_of link));
  sound = record { each = λ k c at. not_there profile k c _ at; apart = λ i k c d at. not_there profile i c _ at };
  stand = λ best k c at. not_there profile k c _ at;
  left = λ beyond. ap (λ (es : List (ℕ × OutChained)). sum_by (left_of beyond tables.empty) (values_of es)) (no_entries nat_cmp);
}

-- ---- links
among_old : (old new before after : Links Value) → AreAmong old new before after → beside before old ≡ before
among_old old new before after are = same_function _ _ (λ link.
    by_bool (is_exit link) (λ b. cond b (old link) (before link) ≡ before link) (λ e. sym (are.was link e)) (λ _. refl))

among_new : (old new before after : Links Value) → AreAmong old new before after → beside before new ≡ after
among_new old new before after are = same_function _ _ (λ link.
    by_bool (is_exit link) (λ b. cond b (new link) (before link) ≡ after link) (λ e. sym (are.is link e)) (λ e. sym (are.same link e)))

led : (old new before after : Links Value) (entries : List (Entry Value)) → AreAmong old new before after → Leads (beside before old) entries (beside before new) → Leads before entries after
led old new before after entries are leads =
    subst (λ (l : Links Value). Leads l entries after) (among_old old new before after are) (subst (λ (l : Links Value). Leads (beside before old) entries l) (among_new old new before after are) leads)

pub leads_anywhere : LeadsAnywhere
leads_anywhere old new before after entries leads are = led old new before after entries are (leads before)

pub leads_anywhere_with_best : LeadsAnywhereWithBest
leads_anywhere_with_best best old new before after entries leads is are = led old new before after entries are (leads before is)

-- ---- what is held up
pub exact_unless_held_up : out_laws.ExactUnlessHeldUp → ExactUnlessHeldUp
exact_unless_held_up law e best j c p all at none = law c e.queue best p (all j c at).exact (sym (ap (λ (o : Option OutChained). lags_by e.queue best o p) at) ∙ none)

pub none_held_up : out_laws.NoneHeldUpWithoutWork → NoneHeldUpWithoutWork
none_held_up law e best j p idle = by_chain (chain_at j e) idle
  where
    by_chain : (o : Option OutChained) → busy_by e.queue o ≡ false → lags_by e.queue best o p ≡ false
    by_chain None idle = refl
    by_chain (Some c) idle = law c (unread_by e.queue c.reader) p (is_some (read_rows e.queue c.reader best p)) idle

some_by : (queued : Queued Route) (o : Option OutChained) → busy_by queued o ≡ true → is_some o ≡ true
some_by queued None works = works
some_by queued (Some c) works = refl

pub work_is_listed : WorkIsListed
work_is_listed e j works = Contains-from_any (tells_apart nat_cmp-IsAntisymmetric) j (tables.keys e.chains) (sym (contains_key-keys e.chains j) ∙ some_by e.queue (chain_at j e) works)

-- ---- how many turns are left
pub none_left_without_work : NoneLeftWithoutWork
none_left_without_work e beyond = (
  λ idle. idle_sum e beyond (tables.entries e.chains) (entries_idle e idle),
  λ zero j. idle_by j zero (chain_at j e) refl,
)
  where
    idle_by : (j : ℕ) → left_in beyond e ≡ 0 → (o : Option OutChained) → chain_at j e ≡ o → busy_by e.queue o ≡ false
    idle_by j zero None at = refl
    idle_by j zero (Some c) at =
        let part = one_of_sum nat_cmp_total (left_of beyond e.queue) e.chains j c at in
        none_idle beyond c (unread_by e.queue c.reader) (omega (arith, part, zero))

pub turns_bounded : TurnsAreBounded
turns_bounded candidates beyond e most counts is = all_bounded beyond candidates e most counts is

pub left_follow : LeftFollows
left_follow e before now less = all_follow e before now less
