-- Whether a resolver has something to do.
use Rattle.std.proofs.Common.{◌≡◌, ℕ, Bool, true, false, ◌||◌, ◌&&◌, not, refl, sym, ap, ◌∙◌, inl, inr, Option, Some, None, is_some, MatchBool}
use Rattle.std.specs.Option.{option_map}
use Rattle.std.specs.FinMap as map
use Rattle.addr4.specs.Prefixes.{AddressPrefix}
use Rattle.addr4.specs.Places.{Place}
use Rattle.addr4.specs.Places.{key_of}
use Rattle.nexthop_known.specs.Hops.{Hop}
use Rattle.nexthop_known.specs.Hops.{is_stale_at, IsLeastStale, IsSettled, IsSettledAt, IsDiffering, IsDifferingAt}
use Rattle.nexthop_resolver.specs.Resolving.{Resolving, is_in_force}
use Rattle.nexthop_resolver.specs.Turns.{Rests, HasWork}
use Rattle.nexthop_resolver.specs.Left.{TellsAlike, differs_at, hop_lags}
use Rattle.nexthop_resolver.proofs.AskLemmas.{none_of}

pub walk_off : (walk : Option Place) (b : Bool) → b ≡ is_some walk → b ≡ false → option_map key_of walk ≡ None
walk_off None b is e = refl
walk_off (Some place) b is e = absurd (let clash : true ≡ false = sym is ∙ e in cc)

-- whether a known next hop differs, by a test of answers
not_so : (b : Bool) → (b ≡ true → ⊥) → true ≡ not b
not_so true unlike = absurd (unlike refl)
not_so false _ = refl

pub told_by : {A : Type 0} (alike : A → A → Bool) (b : Bool) (o : Option (Hop A)) → TellsAlike alike → MatchBool b (IsDifferingAt o) (IsSettledAt o) → b ≡ differs_at alike o
told_by alike true None tells differs = absurd differs
told_by alike true (Some h) tells differs = not_so (alike h.fresh h.in_force) (λ e. differs ((tells h.fresh h.in_force).0 e))
told_by alike false None tells settled = refl
told_by alike false (Some h) tells settled = sym (ap not ((tells h.fresh h.in_force).1 settled))

module _ {A : Type 0} where
  pub stale_work : (s : Resolving A) (o : Option ℕ) (b : Bool) → IsLeastStale (map.get s.known) o → b ≡ is_some o → b ≡ true → HasWork s
  stale_work s None b least is e = absurd (let clash : false ≡ true = sym is ∙ e in cc)
  stale_work s (Some a) b least is e = inr (inl (a, ap (λ o. is_stale_at o) least.0.1 ∙ ap (λ c. not (is_some c)) least.0.2))

  pub not_stale : (hops : ℕ → Option (Hop A)) (o : Option ℕ) (b : Bool) → IsLeastStale hops o → b ≡ is_some o → b ≡ false → IsLeastStale hops None
  not_stale hops None b least is e = least
  not_stale hops (Some a) b least is e = absurd (let clash : true ≡ false = sym is ∙ e in cc)

  pub work_or_rest : (s : Resolving A) (b : Bool) → s.walk ≡ None → IsLeastStale (map.get s.known) None
      → MatchBool b (IsDiffering (map.get s.known)) (IsSettled (map.get s.known)) → MatchBool b (HasWork s) (Rests s)
  work_or_rest s true off none differs = inr (inr differs)
  work_or_rest s false off none settled = record { off = off; none_stale = none; settled_all = settled }

  stale_hop : (o : Option (Hop A)) → is_stale_at o ≡ true → (h : Hop A) × (o ≡ Some h) × (h.came ≡ None)
  stale_hop None e = absurd (let clash : false ≡ true = e in cc)
  stale_hop (Some h) e = (h, refl, none_of h.came (not_true (is_some h.came) e))
    where
      not_true : (b : Bool) → not b ≡ true → b ≡ false
      not_true true e = absurd (let clash : false ≡ true = e in cc)
      not_true false e = refl

  pub never_both : (s : Resolving A) → HasWork s → Rests s → ⊥
  never_both s (inl on) rests = let off = rests.off in cc
  never_both s (inr (inl stale)) rests = let h = stale_hop (map.get s.known stale.0) stale.1 in rests.none_stale stale.0 h.0 h.1 h.2
  never_both s (inr (inr differs)) rests = differs.3 (rests.settled_all differs.0 differs.1 differs.2)

-- ---- whether a next hop lags at a prefix
module _ {A : Type 0} (alike : A → A → Bool) (s : Resolving A) (q : AddressPrefix) (a : ℕ) where
  pub stale_lags : (b : Bool) → b ≡ is_stale_at (map.get s.known a) → b ≡ true → true ≡ hop_lags alike s q (Some a)
  stale_lags b is e = ap (λ (x : Bool). x || (is_in_force s.walk q && differs_at alike (map.get s.known a))) (sym e ∙ is)

  pub passed_lags : (b c : Bool) → b ≡ is_stale_at (map.get s.known a) → b ≡ false → c ≡ is_in_force s.walk q → c ≡ false → false ≡ hop_lags alike s q (Some a)
  passed_lags b c is e at f =
      ap (λ (y : Bool). y && differs_at alike (map.get s.known a)) (sym f ∙ at) ∙ ap (λ (x : Bool). x || (is_in_force s.walk q && differs_at alike (map.get s.known a))) (sym e ∙ is)

  pub differing_lags : (b c d : Bool) → b ≡ is_stale_at (map.get s.known a) → b ≡ false → c ≡ is_in_force s.walk q → c ≡ true → TellsAlike alike
      → MatchBool d (IsDifferingAt (map.get s.known a)) (IsSettledAt (map.get s.known a)) → d ≡ hop_lags alike s q (Some a)
  differing_lags b c d is e at f tells differs =
      told_by alike d (map.get s.known a) tells differs
      ∙ ap (λ (y : Bool). y && differs_at alike (map.get s.known a)) (sym f ∙ at) ∙ ap (λ (x : Bool). x || (is_in_force s.walk q && differs_at alike (map.get s.known a))) (sym e ∙ is)
