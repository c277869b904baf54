-- Peers that ask for all rows again.
use Rattle.std.proofs.Common.{◌≡◌, ◌≢◌, ◌<◌, ◌≤◌, ◌+◌, ◌*◌, ℕ, Bool, true, false, cond, List, [], ◌∷◌, Option, Some, None, is_some, refl, sym, ap, subst, ◌∙◌, arith}
use Rattle.std.specs.Prelude.{IfNone, IsSome}
use Rattle.std.specs.List.{AllByRecursion, find, sum_by}
use Rattle.std.specs.Map.{keys_of, values_of}
use Rattle.std.specs.Cmp.{nat_cmp_total}
use Rattle.std.specs.FinMap as tables
use Rattle.std.specs.FinMap.{nat_cmp-IsAntisymmetric, contains_key-keys}
use Rattle.std.proofs.lemmas.List.Elements.{All-from_recursion}
use Rattle.std.proofs.lemmas.List.Sums.{sum_by-le}
use Rattle.std.proofs.lemmas.Map.Views.{Contains-from_any, tells_apart}
use Rattle.addr4.specs.Prefixes.{AddressPrefix}
use Rattle.link_change.proofs.RowLemmas.{same_function}
use Rattle.link_change.proofs.MapLemmas.{all_entries, all_values, values_length, sum_none, one_of_sum}
use Rattle.fanout_queue.proofs.Cases.{by_bool}
use Rattle.journal_text.specs.Journals.{Journaled}
use Rattle.journal_text.specs.Links.{owner_of}
use Rattle.out_chain.specs.Chains.{OutChained, OutStands, refreshed, left_on, refresh_left, has_refresh_work}
use Rattle.out_chain.specs.Steps.{IsResent}
use Rattle.out_chain.specs.Laws.{IsSameButRefresh}
use Rattle.out_chain.proofs.RefreshLemmas as chains
use Rattle.exit_side.specs.Exits.{Exited, chain_at, with_exit, links_by, candidates_by, IsExit, IsExits, busy_by, lags_by, left_of, refreshing, has_refresh, refreshes_left, refreshed_by, refreshed_exits}
use Rattle.exit_side.specs.Steps.{ComesAgain}
use Rattle.exit_side.specs.Tasks.{first_refreshing}
use Rattle.exit_side.specs.Laws.{AreSameButRefresh, RefreshKeeps, ResendKeeps, StandingAreChains, RefreshIsListed, NoneLeftWithoutRefresh, ResendLeavesFewer, RefreshesAreBounded}
use Rattle.exit_side.proofs.SwapLemmas.{by_number, Swaps, swaps_in, others_apart, swap_each, swap_sound, put_back}
use Rattle.exit_side.proofs.LinkLemmas.{links_same}
use Rattle.exit_side.proofs.CountLemmas.{sum_swapped}
use Rattle.exit_side.proofs.StepLemmas.{of_one}

-- ---- a chain that is the same but for its walk
module _ (j : ℕ) (e : Exited) (chain taken : OutChained) (at : chain_at j e ≡ Some chain) (same : IsSameButRefresh chain taken) where
  abbrev put : Exited
  put = with_exit j taken e.queue e

  module _ (sound : IsExits e) where
    swaps : Swaps j chain.reader (Some taken) e put
    swaps = swaps_in j chain.reader taken e.queue e (λ other apart. refl) (others_apart e j chain sound at)

    -- whatever doesn't tell them apart is the same of each peer
    at_each : {X : Type 0} (f : Option OutChained → X) → f (Some taken) ≡ f (Some chain) → (k : ℕ) → f (chain_at k put) ≡ f (chain_at k e)
    at_each f is k = by_number k j (λ b. f (chain_at k put) ≡ f (chain_at k e))
        (λ here. ap (λ (n : ℕ). f (chain_at n put)) here ∙ ap f swaps.here ∙ is ∙ sym (ap f at) ∙ ap (λ (n : ℕ). f (chain_at n e)) (sym here))
        (λ differ. ap f (swaps.other k differ))

    with_walk : {X : Type 0} (f : OutChained → X) → f (record chain { refresh = taken.refresh }) ≡ f chain → f taken ≡ f chain
    with_walk f is = ap f same.is ∙ is

    reader_is : taken.reader ≡ chain.reader
    reader_is = with_walk (λ c. c.reader) refl

    pub same_but : AreSameButRefresh j e put
    same_but = record {
      profile = refl;
      queue = refl;
      others = λ k differ. swaps.other k differ;
      sound = let was = sound.each j chain at in
          swap_sound j chain.reader (Some taken) e put swaps sound (of_one (λ (c : OutChained). IsExit put j c × (c.reader ≡ chain.reader)) taken (
            record {
              number = with_walk (λ c. c.peer.number) refl ∙ was.number;
              profile = with_walk (λ c. c.exit.profile) refl ∙ was.profile;
              live = subst (λ (r : ℕ). IsSome (tables.get e.queue r)) (sym reader_is) was.live;
            },
            reader_is,
          ));
      stand = λ best all. swap_each j chain.reader (Some taken) e put swaps (λ k c. OutStands c e.queue best) (of_one (λ (c : OutChained). OutStands c e.queue best) taken (same.stands e.queue best (all j chain at))) (λ k c differ there. all k c there);
      links = λ best. links_same e put best best (at_each (links_by e.queue best) (with_walk (λ c. links_by e.queue best (Some c)) refl));
      candidates = λ best. same_function _ _ (λ link. at_each (λ (o : Option OutChained). candidates_by e.queue best o link) (with_walk (λ c. candidates_by e.queue best (Some c) link) refl) (owner_of link));
      left = λ beyond.
          let sum = sum_swapped (left_of beyond e.queue) (left_of beyond e.queue) j e.chains taken chain at (λ k c there differ. omega arith) in
          let now : left_of beyond e.queue taken ≡ left_of beyond e.queue chain = with_walk (left_of beyond e.queue) refl in
          omega (arith, sum, now);
      work = at_each (busy_by e.queue) (with_walk (λ c. busy_by e.queue (Some c)) refl);
      held = λ best k p. at_each (λ (o : Option OutChained). lags_by e.queue best o p) (with_walk (λ c. lags_by e.queue best (Some c) p) refl) k;
      strangers = λ reader own. swap_each j chain.reader (Some taken) e put swaps (λ k c. c.reader ≢ reader) (of_one (λ (c : OutChained). c.reader ≢ reader) taken (λ is. own j chain at (sym reader_is ∙ is))) (λ k c differ there. own k c there);
    }

unchanged : (j : ℕ) (e : Exited) → IsExits e → AreSameButRefresh j e e
unchanged j e sound = record {
  profile = refl;
  queue = refl;
  others = λ k differ. refl;
  sound = sound;
  stand = λ best all. all;
  links = λ best. refl;
  candidates = λ best. refl;
  left = λ beyond. refl;
  work = λ k. refl;
  held = λ best k p. refl;
  strangers = λ reader own. own;
}

pub refresh_keeps : RefreshKeeps
refresh_keeps j e sound = by (chain_at j e) refl
  where
    by : (o : Option OutChained) → chain_at j e ≡ o → AreSameButRefresh j e (refreshed_by j o e)
    by None at = unchanged j e sound
    by (Some c) at = same_but j e c (refreshed c) at (chains.refresh_keeps c) sound

pub resend_keeps : ResendKeeps
resend_keeps j e e' said sound r = subst (AreSameButRefresh j e) (sym r.after) (same_but j e r.chain r.taken r.there (chains.resend_keeps r.chain r.taken said r.resends) sound)

-- ---- how many turns are left
pub standing_are_chains : StandingAreChains
standing_are_chains e best all j c at = (all j c at).chain

some_by : (o : Option OutChained) → refreshing o ≡ true → is_some o ≡ true
some_by None on = on
some_by (Some c) on = refl

pub refresh_is_listed : RefreshIsListed
refresh_is_listed e j on = Contains-from_any (tells_apart nat_cmp-IsAntisymmetric) j (tables.keys e.chains) (sym (contains_key-keys e.chains j) ∙ some_by (chain_at j e) on)

pub none_left_without_refresh : NoneLeftWithoutRefresh
none_left_without_refresh e are = (
  λ none. sum_none refresh_left (tables.values e.chains) (all_values nat_cmp_total (λ c. refresh_left c ≡ 0) e.chains (λ k c at. (chains.none_left_without_refresh c (are k c at)).0 (sym (ap refreshing at) ∙ none k))),
  λ zero j. off_by j zero (chain_at j e) refl,
)
  where
    off_by : (j : ℕ) → refreshes_left e ≡ 0 → (o : Option OutChained) → chain_at j e ≡ o → refreshing o ≡ false
    off_by j zero None at = refl
    off_by j zero (Some c) at =
        let part = one_of_sum nat_cmp_total refresh_left e.chains j c at in
        (chains.none_left_without_refresh c (are j c at)).1 (omega (arith, part, zero))

resend_fewer : (j : ℕ) (e : Exited) (chain taken : OutChained) → chain_at j e ≡ Some chain → refresh_left taken < refresh_left chain → refreshes_left (with_exit j taken e.queue e) + 1 ≤ refreshes_left e
resend_fewer j e chain taken at fewer =
    let sum = sum_swapped refresh_left refresh_left j e.chains taken chain at (λ k c there differ. omega arith) in
    omega (arith, sum, fewer)

pub resend_leaves_fewer : ResendLeavesFewer
resend_leaves_fewer j e e' said r = subst (λ (x : Exited). refreshes_left x + 1 ≤ refreshes_left e) (sym r.after) (resend_fewer j e r.chain r.taken r.there r.resends.fewer)

pub refreshes_bounded : RefreshesAreBounded
refreshes_bounded candidates beyond e best counts covers all idle =
    let each = all_values nat_cmp_total (λ c. refresh_left c ≤ beyond None) e.chains (λ k c at. chains.refresh_is_bounded candidates beyond c e.queue best counts covers (all k c at) (sym (ap (busy_by e.queue) at) ∙ idle k)) in
    subst (λ (n : ℕ). refreshes_left e ≤ n * beyond None) (values_length e.chains)
    (sum_by-le refresh_left (beyond None) (tables.values e.chains) (All-from_recursion (λ c. refresh_left c ≤ beyond None) (tables.values e.chains) each))

-- ---- the calls
pub refreshed_none : (e : Exited) (j : ℕ) → chain_at j e ≡ None → e ≡ refreshed_exits j e
refreshed_none e j none = sym (ap (λ (o : Option OutChained). refreshed_by j o e) none)

pub refreshed_some : (m v e' : Exited) → v ≡ m → (j : ℕ) (chain taken : OutChained) → chain_at j v ≡ Some chain → taken ≡ refreshed chain → e' ≡ with_exit j taken v.queue v → e' ≡ refreshed_exits j m
refreshed_some m v e' view j chain taken at is e'_is =
    e'_is ∙ ap (λ (c : OutChained). with_exit j c v.queue v) is ∙ sym (ap (λ (o : Option OutChained). refreshed_by j o v) at) ∙ ap (refreshed_exits j) view

pub resent_none : (e : Exited) (j : ℕ) (before : Journaled) → chain_at j e ≡ None → ComesAgain j e e before before false
resent_none e j before none = (ap refreshing none, refl, refl)

resent : (e : Exited) (j : ℕ) (chain taken : OutChained) → chain_at j e ≡ Some chain → (on : Bool) (before now : Journaled) → IsResent chain taken before now on → ComesAgain j e (with_exit j taken e.queue e) before now on
resent e j chain taken at false before now none =
    (ap refreshing at ∙ ap is_some none.0, ap (λ (c : OutChained). with_exit j c e.queue e) none.1 ∙ put_back e j chain at, none.2)
resent e j chain taken at true before now adds = (adds.0, adds.1, record { chain = chain; there = at; taken = taken; resends = adds.2; after = refl })

pub resent_some : (m v e' : Exited) → v ≡ m → (j : ℕ) (chain taken : OutChained) → chain_at j v ≡ Some chain → e' ≡ with_exit j taken v.queue v → (on : Bool) (before now : Journaled)
    → IsResent chain taken before now on → ComesAgain j m e' before now on
resent_some m v e' view j chain taken at e'_is on before now is =
    subst (λ (x : Exited). ComesAgain j x e' before now on) view (subst (λ (x : Exited). ComesAgain j v x before now on) (sym e'_is) (resent v j chain taken at on before now is))

-- ---- the first peer of whom a walk is on
abbrev Entries : Type 0
Entries = List (ℕ × OutChained)

module _ (e : Exited) where
  entries_on : AllByRecursion (λ x. has_refresh e x.0 ≡ has_refresh_work x.1) (tables.entries e.chains)
  entries_on = all_entries nat_cmp_total (λ k c. has_refresh e k ≡ has_refresh_work c) e.chains (λ k c at. ap refreshing at)

  first_among : (es : Entries) → AllByRecursion (λ x. has_refresh e x.0 ≡ has_refresh_work x.1) es → find (has_refresh e) (keys_of es) ≡ first_refreshing es
  first_among [] all = refl
  first_among (x ∷ es) all =
      ap (λ (b : Bool). cond b (Some x.0) (find (has_refresh e) (keys_of es))) all.0 ∙ ap (λ (o : Option ℕ). cond (has_refresh_work x.1) (Some x.0) o) (first_among es all.1)

  pub first_on : (es : Entries) → es ≡ tables.entries e.chains → first_refreshing es ≡ find (has_refresh e) (tables.keys e.chains)
  first_on es is = ap first_refreshing is ∙ sym (first_among (tables.entries e.chains) entries_on)

  off_left : (c : OutChained) → has_refresh_work c ≡ false → refresh_left c ≡ 0
  off_left c off = by c.refresh off refl
    where
      by : (w : Option (Option AddressPrefix)) → is_some w ≡ false → c.refresh ≡ w → refresh_left c ≡ 0
      by None off is = ap (left_on c.sent) is
      by (Some place) off is = absurd (let clash : true ≡ false = off in cc)

  all_off : (es : Entries) → first_refreshing es ≡ None → AllByRecursion (λ c. refresh_left c ≡ 0) (values_of es)
  all_off [] is = tt
  all_off (x ∷ es) is = by_bool (has_refresh_work x.1) (λ b. cond b (Some x.0) (first_refreshing es) ≡ None → (refresh_left x.1 ≡ 0) × AllByRecursion (λ c. refresh_left c ≡ 0) (values_of es))
      (λ _ some. absurd (cc)) (λ off none. (off_left x.1 off, all_off es none)) is

  pub none_on : (es : Entries) (first : Option ℕ) → es ≡ tables.entries e.chains → first ≡ first_refreshing es → IfNone first (refreshes_left e ≡ 0)
  none_on es None is none = ap (λ (l : Entries). sum_by refresh_left (values_of l)) (sym is) ∙ sum_none refresh_left (values_of es) (all_off es (sym none))
  none_on es (Some k) is some = tt
