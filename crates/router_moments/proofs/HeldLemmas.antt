-- The first task that holds up a prefix, phase by phase; and the next hops of peers.
use Rattle.router_moments.proofs.Common.{sym, ◌∙◌, ap, ◌≡◌, ℕ, refl, List, true, arith, false, ◌+◌, Bool, ◌≤◌, ◌<◌, suc, zero, take, ◌||◌, get_or, ◌-◌, list_any, range_with_len, option_or, AddressPrefix, Chained, Task, route_hop, chain_at, Chains, filt_at, filt_by, first_held, next_hop_at, holds_up_at, held_in, Moment, all_phases, phase_tasks, Phase}
use Rattle.std.proofs.Common.{[], ◌∷◌, length, length-set, map, set, drop, Option, Some, None}
use Rattle.std.specs.Prelude.{option_map}
use Rattle.std.specs.List.{find, flat_map}
use Rattle.std.proofs.lemmas.List.{drop_more, take_more_set}
use Rattle.std.proofs.lemmas.List.Folds.{find-append, list_any-append}
use Rattle.std.proofs.lemmas.List.FromFn.{map-range_with_len_more}
use Rattle.router_moments.specs.Holding.{some_so}

module _ (m : Moment) (p : AddressPrefix) where
  abbrev held : List Task → Option Task
  held = find (λ task. holds_up_at task m p)

  -- ---- phase by phase
  -- the first task of the phases from a place on
  abbrev pub from_phase : ℕ → Option Task
  from_phase i = held (flat_map (λ r. phase_tasks r m) (drop i all_phases))

  one_phase : (i : ℕ) (x : Phase) → i < length all_phases → from_phase i ≡ option_or (held_in (get_or all_phases i x) m p) (from_phase (i + 1))
  one_phase i x within =
      ap (λ (rs : List Phase). held (flat_map (λ r. phase_tasks r m) rs)) (drop_more all_phases i x within)
      ∙ find-append (λ task. holds_up_at task m p) (phase_tasks (get_or all_phases i x) m) (flat_map (λ r. phase_tasks r m) (drop (i + 1) all_phases))

  of_phase : (phases : List Phase) (i : ℕ) (x : Phase) (found held : Option Task) → phases ≡ all_phases → i < length all_phases → first_held m p ≡ from_phase i → found ≡ held_in (get_or phases i x) m p → found ≡ held
      → first_held m p ≡ option_or held (from_phase (i + 1))
  of_phase phases i x found held same within so is at =
      so ∙ one_phase i x within ∙ ap (λ (o : Option Task). option_or o (from_phase (i + 1))) (ap (λ (rs : List Phase). held_in (get_or rs i x) m p) (sym same) ∙ sym is ∙ at)

  pub phase_passed : (phases : List Phase) (i : ℕ) (x : Phase) (found : Option Task) → phases ≡ all_phases → i < length all_phases → first_held m p ≡ from_phase i → found ≡ held_in (get_or phases i x) m p → found ≡ None
      → first_held m p ≡ from_phase (i + 1)
  phase_passed phases i x found same within so is none = of_phase phases i x found None same within so is none

  pub phase_holds : (phases : List Phase) (i : ℕ) (x : Phase) (found : Option Task) (task : Task) → phases ≡ all_phases → i < length all_phases → first_held m p ≡ from_phase i → found ≡ held_in (get_or phases i x) m p → found ≡ Some task
      → Some task ≡ first_held m p
  phase_holds phases i x found task same within so is some = sym (of_phase phases i x found (Some task) same within so is some)

  -- ---- the next hops of peers
  or_none : (b : Bool) → b ≡ (b || false)
  or_none true = refl
  or_none false = refl

  abbrev pub hops_upto : ℕ → List (Option ℕ)
  hops_upto n = map (λ k. next_hop_at m k p) (range_with_len 0 n)

  -- the hops in front are those of the numbers below this one that have any
  pub record AreUpTo (hops : List ℕ) (count n : ℕ) : Type 0 where
    pub long : length hops ≡ 65
    pub few : count ≤ n
    pub within : n ≤ 65
    pub front : (f : ℕ → Bool) → list_any f (take count hops) ≡ list_any (some_so f) (hops_upto n)

  one_more : (f : ℕ → Bool) (n : ℕ) (o : Option ℕ) → o ≡ next_hop_at m n p → list_any (some_so f) (hops_upto (n + 1)) ≡ (list_any (some_so f) (hops_upto n) || (some_so f o || false))
  one_more f n o is =
      ap (list_any (some_so f)) (map-range_with_len_more (λ k. next_hop_at m k p) 0 n n (omega arith)) ∙ list_any-append (some_so f) (hops_upto n) (next_hop_at m n p ∷ [])
      ∙ ap (λ (x : Option ℕ). list_any (some_so f) (hops_upto n) || (some_so f x || false)) (sym is)

  hop_told : (a : Chains) (n : ℕ) (found o : Option ℕ) → a ≡ m.chains → found ≡ option_map route_hop (filt_at a n p) → found ≡ o → o ≡ next_hop_at m n p
  hop_told a n found o chains is at = sym at ∙ is ∙ ap (λ (x : Chains). option_map route_hop (filt_at x n p)) chains

  pub hop_more : (a : Chains) (hops : List ℕ) (count n hop : ℕ) (found : Option ℕ) → a ≡ m.chains → n < 65 → AreUpTo hops count n → found ≡ option_map route_hop (filt_at a n p) → found ≡ Some hop
      → AreUpTo (set hops count hop) (count + 1) (n + 1)
  hop_more a hops count n hop found chains less upto is at =
      let long : length hops ≡ 65 = upto.long in
      let few : count ≤ n = upto.few in
      record {
        long = length-set hops count hop ∙ long;
        few = omega (arith, few);
        within = omega (arith, less);
        front = λ f.
            ap (list_any f) (take_more_set hops count hop (omega (arith, less, long, few))) ∙ list_any-append f (take count hops) (hop ∷ []) ∙ ap (λ (b : Bool). b || (f hop || false)) (upto.front f)
            ∙ sym (one_more f n (Some hop) (hop_told a n found (Some hop) chains is at));
      }

  pub hop_none : (a : Chains) (hops : List ℕ) (count n : ℕ) (found : Option ℕ) → a ≡ m.chains → n < 65 → AreUpTo hops count n → found ≡ option_map route_hop (filt_at a n p) → found ≡ None → AreUpTo hops count (n + 1)
  hop_none a hops count n found chains less upto is at =
      let few : count ≤ n = upto.few in
      record { long = upto.long; few = omega (arith, few); within = omega (arith, less); front = λ f. upto.front f ∙ or_none (list_any (some_so f) (hops_upto n)) ∙ sym (one_more f n None (hop_told a n found None chains is at)) }

  -- beyond the greatest number of a peer there is none
  no_more_hops : (f : ℕ → Bool) (n d : ℕ) → ((k : ℕ) → n ≤ k → k < n + d → chain_at k m.chains ≡ None) → list_any (some_so f) (hops_upto n) ≡ list_any (some_so f) (hops_upto (n + d))
  no_more_hops f n zero none = ap (λ (x : ℕ). list_any (some_so f) (hops_upto x)) (omega arith)
  no_more_hops f n (suc d) none =
      no_more_hops f n d (λ k from upto. none k from (omega (arith, upto))) ∙ or_none (list_any (some_so f) (hops_upto (n + d)))
      ∙ sym (one_more f (n + d) None (sym (ap (λ (o : Option Chained). option_map route_hop (filt_by o p)) (none (n + d) (omega arith) (omega arith)))))
      ∙ ap (λ (x : ℕ). list_any (some_so f) (hops_upto x)) (omega arith)

  pub all_hops : (hops : List ℕ) (count n : ℕ) → AreUpTo hops count n → ((k : ℕ) → k < 65 → n ≤ k → chain_at k m.chains ≡ None) → (f : ℕ → Bool) → list_any f (take count hops) ≡ list_any (some_so f) (hops_upto 65)
  all_hops hops count n upto none f =
      let within : n ≤ 65 = upto.within in
      let end : n + (65 - n) ≡ 65 = omega (arith, within) in
      upto.front f ∙ no_more_hops f n (65 - n) (λ k from less. none k (omega (arith, less, end)) from) ∙ ap (λ (x : ℕ). list_any (some_so f) (hops_upto x)) end
