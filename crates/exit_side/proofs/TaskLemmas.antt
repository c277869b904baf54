-- The first peer whose exit has work.
use Rattle.std.proofs.Common.{◌≡◌, ℕ, Bool, false, cond, is_some, List, [], ◌∷◌, Option, Some, None, refl, sym, ap, subst, ◌∙◌}
use Rattle.std.specs.Prelude.{IfNone, IsSome}
use Rattle.std.specs.List.{AllByRecursion, find, sum_by}
use Rattle.std.specs.List.Sorted.{IsStrictlySortedBy}
use Rattle.std.specs.BTreeMap.{BTreeMap}
use Rattle.std.specs.Ordering.{nat_cmp}
use Rattle.std.specs.Cmp.{nat_cmp_total}
use Rattle.std.specs.Map.{keys_of, values_of}
use Rattle.std.specs.FinMap as tables
use Rattle.addr4.specs.Prefixes.{AddressPrefix}
use Rattle.bgp_attr.specs.Routes.{Route}
use Rattle.link_change.specs.Rows.{Rows}
use Rattle.fanout_queue.specs.Queues.{Queued}
use Rattle.fanout_queue.specs.Readers.{unread_by}
use Rattle.fanout_queue.proofs.Cases.{by_bool}
use Rattle.out_chain.specs.Chains.{OutChained, has_out_work, out_lags}
use Rattle.out_chain.specs.Laws.{BestRowTells}
use Rattle.exit_side.specs.Exits.{Exited, chain_at, busy_by, lags_by, has_exit_work, exit_holds_up, IsExits, left_of, left_in}
use Rattle.exit_side.specs.Tasks.{first_of, first_lagging, HaveReaders}
use Rattle.bgp_attr.specs.declared.speaker.Profile.{Profile}
use Rattle.link_change.proofs.MapLemmas.{all_entries, sum_none, entries_in, read_in}
use Rattle.exit_side.proofs.HeldLemmas.{held, seen}
use Rattle.exit_side.proofs.CountLemmas.{idle_none}

abbrev Entries : Type 0
Entries = List (ℕ × OutChained)

-- each chain's reader is one of the queue's
abbrev pub AllLive : Queued Route → Entries → Type 0
AllLive queued es = AllByRecursion (λ x. IsSome (tables.get queued x.1.reader)) es

pub all_live : (queued : Queued Route) (m : BTreeMap ℕ OutChained) → IsStrictlySortedBy nat_cmp (keys_of m.entries) → HaveReaders queued m → AllLive queued m.entries
all_live queued m sorted have = subst (AllLive queued) (sym (entries_in nat_cmp_total m (tables.from_entries m.entries) sorted refl))
    (all_entries nat_cmp_total (λ k c. IsSome (tables.get queued c.reader)) (tables.from_entries m.entries) (λ k c at. have k c (sym (read_in nat_cmp_total m (tables.from_entries m.entries) k refl) ∙ at)))

module _ (e : Exited) where
  abbrev works : OutChained → Bool
  works c = has_out_work c (unread_by e.queue c.reader)

  -- each entry tells of its peer
  entries_work : AllByRecursion (λ x. has_exit_work e x.0 ≡ works x.1) (tables.entries e.chains)
  entries_work = all_entries nat_cmp_total (λ k c. has_exit_work e k ≡ works c) e.chains (λ k c at. ap (busy_by e.queue) at)

  first_among : (es : Entries) → AllByRecursion (λ x. has_exit_work e x.0 ≡ works x.1) es → find (has_exit_work e) (keys_of es) ≡ first_of e.queue es
  first_among [] all = refl
  first_among (x ∷ es) all = ap (λ (b : Bool). cond b (Some x.0) (find (has_exit_work e) (keys_of es))) all.0 ∙ ap (λ (o : Option ℕ). cond (works x.1) (Some x.0) o) (first_among es all.1)

  pub first_with_work : (es : Entries) → es ≡ tables.entries e.chains → first_of e.queue es ≡ find (has_exit_work e) (tables.keys e.chains)
  first_with_work es is = ap (first_of e.queue) is ∙ sym (first_among (tables.entries e.chains) entries_work)

  -- each entry tells whether its peer holds up a prefix, by whether there is a best row
  module _ (law : BestRowTells) (best : Rows Route) (p : AddressPrefix) (has_best : Bool) (is : has_best ≡ is_some (best p)) where
    abbrev is_held : ℕ → Bool
    is_held j = exit_holds_up e best j p

    abbrev lags : OutChained → Bool
    lags c = out_lags c (unread_by e.queue c.reader) p has_best

    entries_lag : AllByRecursion (λ x. is_held x.0 ≡ lags x.1) (tables.entries e.chains)
    entries_lag = all_entries nat_cmp_total (λ k c. is_held k ≡ lags c) e.chains (λ k c at.
        ap (λ (o : Option OutChained). lags_by e.queue best o p) at ∙ sym (law c e.queue best p) ∙ sym (ap (out_lags c (unread_by e.queue c.reader) p) is))

    first_that : (es : Entries) → AllByRecursion (λ x. is_held x.0 ≡ lags x.1) es → find is_held (keys_of es) ≡ first_lagging e.queue has_best p es
    first_that [] all = refl
    first_that (x ∷ es) all = ap (λ (b : Bool). cond b (Some x.0) (find is_held (keys_of es))) all.0 ∙ ap (λ (o : Option ℕ). cond (lags x.1) (Some x.0) o) (first_that es all.1)

    pub first_that_lags : (es : Entries) → es ≡ tables.entries e.chains → first_lagging e.queue has_best p es ≡ find is_held (tables.keys e.chains)
    first_that_lags es entries = ap (first_lagging e.queue has_best p) entries ∙ sym (first_that (tables.entries e.chains) entries_lag)

  all_idle : (es : Entries) → first_of e.queue es ≡ None → AllByRecursion (λ x. works x.1 ≡ false) es
  all_idle [] is = tt
  all_idle (x ∷ es) is = by_bool (works x.1) (λ b. cond b (Some x.0) (first_of e.queue es) ≡ None → (b ≡ false) × AllByRecursion (λ x. works x.1 ≡ false) es)
      (λ _ some. absurd (cc)) (λ off none. (refl, all_idle es none)) is

  pub idle_sum : (beyond : Option AddressPrefix → ℕ) (es : Entries) → AllByRecursion (λ x. works x.1 ≡ false) es → sum_by (left_of beyond e.queue) (values_of es) ≡ 0
  idle_sum beyond es all = sum_none (left_of beyond e.queue) (values_of es) (each es all)
    where
      each : (es : Entries) → AllByRecursion (λ x. works x.1 ≡ false) es → AllByRecursion (λ c. left_of beyond e.queue c ≡ 0) (values_of es)
      each [] all = tt
      each (x ∷ es) all = (idle_none beyond x.1 (unread_by e.queue x.1.reader) all.0, each es all.1)

  pub none_left : (es : Entries) (first : Option ℕ) → es ≡ tables.entries e.chains → first ≡ first_of e.queue es → IfNone first ((beyond : Option AddressPrefix → ℕ) → left_in beyond e ≡ 0)
  none_left es None is none = λ beyond. ap (λ (l : Entries). sum_by (left_of beyond e.queue) (values_of l)) (sym is) ∙ idle_sum beyond es (all_idle es (sym none))
  none_left es (Some k) is some = tt

  -- where no task has work, each entry has none
  pub entries_idle : ((j : ℕ) → has_exit_work e j ≡ false) → AllByRecursion (λ x. works x.1 ≡ false) (tables.entries e.chains)
  entries_idle idle = all_entries nat_cmp_total (λ k c. works c ≡ false) e.chains (λ k c at. sym (ap (busy_by e.queue) at) ∙ idle k)

-- ---- one peer's chain, over the queue as it is held
pub live_in : (e : Exited) (queue : Queued Route) (j : ℕ) (c : OutChained) → queue ≡ e.queue → IsExits e → chain_at j e ≡ Some c → IsSome (tables.get queue c.reader)
live_in e queue j c is sound at = subst (λ (q : Queued Route). IsSome (tables.get q c.reader)) (sym is) (sound.each j c at).live

pub works_in : (e : Exited) (queue : Queued Route) (j : ℕ) (c : OutChained) → queue ≡ e.queue → chain_at j e ≡ Some c → has_out_work c (unread_by queue c.reader) ≡ has_exit_work e j
works_in e queue j c is at = ap (λ (q : Queued Route). has_out_work c (unread_by q c.reader)) is ∙ ap (busy_by e.queue) (sym at)

pub have_readers : (e : Exited) (profile : Profile) (queue : Queued Route) (m : BTreeMap ℕ OutChained) → seen profile queue m ≡ e → IsExits e → HaveReaders queue m
have_readers e profile queue m view sound j c at = live_in e queue j c (ap (λ (x : Exited). x.queue) view) sound (sym (held profile queue m e view j) ∙ at)

-- the entries of the map are those of the chains
pub entries_of : (e : Exited) (profile : Profile) (queue : Queued Route) (m : BTreeMap ℕ OutChained) → seen profile queue m ≡ e → IsStrictlySortedBy nat_cmp (keys_of m.entries) → m.entries ≡ tables.entries e.chains
entries_of e profile queue m view sorted = entries_in nat_cmp_total m e.chains sorted (ap (λ (x : Exited). x.chains) view)

pub queue_of : (e : Exited) (profile : Profile) (queue : Queued Route) (m : BTreeMap ℕ OutChained) (first : Option ℕ) → seen profile queue m ≡ e → first ≡ first_of queue m.entries → first ≡ first_of e.queue m.entries
queue_of e profile queue m first view is = is ∙ ap (λ (x : Exited). first_of x.queue m.entries) view
