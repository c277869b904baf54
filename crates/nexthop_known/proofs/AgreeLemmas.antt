-- Known next hops that keep to what the register would answer.
use Rattle.std.proofs.Common.{◌≡◌, ℕ, Bool, true, false, refl, sym, ap, ◌∙◌, subst, inl, inr, Option, Some, None}
use Rattle.std.specs.Option.{option_map}
use Rattle.std.specs.FinMap as map
use Rattle.std.proofs.lemmas.Bool.{cases_eq}
use Rattle.addr4.specs.Prefixes.{AddressPrefix, Holds}
use Rattle.addr4.proofs.PrefixOrder.{by_prefix}
use Rattle.register_interest.specs.Width.{width}
use Rattle.nexthop_known.specs.Hops.{Hop}
use Rattle.nexthop_known.specs.Hops.{Hops, came_at, settled, IsMapped, IsWithSome, IsUnshared}
use Rattle.nexthop_known.specs.Agreement.{IsPresent, IsPutAt, IsInterestIn, GivesUp}
use Rattle.nexthop_known.specs.Laws.{NothingAgrees, AnsweredAgrees, EarlyAgrees, EarlyIsGivenUp, ForgottenAgrees, SettledAgrees}

clash_some : {X : Type 0} (x : X) (P : Type 0) → None ≡ Some x → P
clash_some x P e = absurd (cc)

clash_bool : (P : Type 0) → false ≡ true → P
clash_bool P e = absurd (cc)

same_some : {X : Type 0} (x y : X) → Some x ≡ Some y → x ≡ y
same_some x y e = cc

-- an interest that is kept stays so where another one comes
still_in : (was is : AddressPrefix → Bool) (s t : AddressPrefix) → IsInterestIn was is s true → was t ≡ true → is t ≡ true
still_in was is s t i kept = by_prefix t s (λ _. is t ≡ true) (λ e. ap is e ∙ i.here) (λ ne. i.others t ne ∙ kept)

module _ {A : Type 0} where
  pub nothing_agrees : NothingAgrees A
  nothing_agrees answer interested none = record {
    present = λ a h s e came. clash_some h _ e;
    wanted = λ s is. clash_bool _ (sym (none s) ∙ is);
  }

  -- where the interests that a next hop needs are kept
  moved : (answer : ℕ → A) (was is : AddressPrefix → Bool) (a : ℕ) (h : Hop A) (s : AddressPrefix) → IsPresent answer was a h s → is s ≡ true → IsPresent answer is a h s
  moved answer was is a h s p kept = record { answered = p.answered; kept = kept; holds = p.holds }

  pub answered_agrees : AnsweredAgrees A
  answered_agrees answer was is old new a h s agree free put fresh came holds i = record {
    present = λ b g t e has. elim (cases_eq b a) [
      | inl at ↦
          let same : h ≡ g = same_some h g (sym put.here ∙ ap new (sym at) ∙ e) in
          let sub : s ≡ t = same_some s t (sym came ∙ ap (λ (x : Hop A). x.came) same ∙ has) in
          record {
            answered = ap (λ (x : Hop A). x.fresh) (sym same) ∙ fresh ∙ ap answer (sym at);
            kept = ap is (sym sub) ∙ i.here;
            holds = subst (λ (x : ℕ). Holds width t x) (sym at) (subst (λ (x : AddressPrefix). Holds width x a) sub holds);
          }
      | inr ne ↦
          let p = agree.present b g t (sym (put.others b ne) ∙ e) has in
          moved answer was is b g t p (still_in was is s t i p.kept)
    ];
    wanted = λ t kept. by_prefix t s (λ _. IsWithSome new t)
        (λ e. (a, h, put.here, came ∙ ap Some (sym e)))
        (λ ne.
        let w = agree.wanted t (sym (i.others t ne) ∙ kept) in
        elim (cases_eq w.0 a) [
          | inl e ↦ clash_some t _ (sym free ∙ ap (λ x. came_at (old x)) (sym e) ∙ ap came_at w.2 ∙ w.3)
          | inr apart ↦ (w.0, w.1, put.others w.0 apart ∙ w.2, w.3)
        ]);
  }

  pub early_agrees : EarlyAgrees A
  early_agrees answer was is hops s agree i some = record {
    present = λ b g t e has. let p = agree.present b g t e has in moved answer was is b g t p (still_in was is s t i p.kept);
    wanted = λ t kept. by_prefix t s (λ _. IsWithSome hops t)
        (λ e. subst (λ (x : AddressPrefix). IsWithSome hops x) (sym e) some)
        (λ ne. agree.wanted t (sym (i.others t ne) ∙ kept));
  }

  pub early_is_given_up : EarlyIsGivenUp A
  early_is_given_up answer was is then_is hops s agree i none j = record {
    present = λ b g t e has. let p = agree.present b g t e has in
        moved answer was then_is b g t p (by_prefix t s (λ _. then_is t ≡ true)
        (λ at. absurd (none b g e (has ∙ ap Some at)))
        (λ ne. j.others t ne ∙ i.others t ne ∙ p.kept));
    wanted = λ t kept. by_prefix t s (λ _. IsWithSome hops t)
        (λ e. clash_bool _ (sym j.here ∙ ap then_is (sym e) ∙ kept))
        (λ ne. agree.wanted t (sym (i.others t ne) ∙ sym (j.others t ne) ∙ kept));
  }

  -- ---- one is forgotten

  -- a next hop that stays has its interest still
  stays_kept : (answer : ℕ → A) (was is : AddressPrefix → Bool) (new : ℕ → Option (Hop A)) (came up : Option AddressPrefix) (b : ℕ) (g : Hop A) (t : AddressPrefix)
      → IsUnshared new came up → GivesUp was is up → new b ≡ Some g → g.came ≡ Some t → IsPresent answer was b g t → is t ≡ true
  stays_kept answer was is new came None b g t un gives e has p = gives t ∙ p.kept
  stays_kept answer was is new came (Some s) b g t un gives e has p =
      by_prefix t s (λ _. is t ≡ true) (λ at. absurd (un.1 b g e (has ∙ ap Some at))) (λ ne. gives.others t ne ∙ p.kept)

  other_wants : (new : ℕ → Option (Hop A)) (h : Hop A) (t : AddressPrefix) → IsUnshared new h.came None → h.came ≡ Some t → IsWithSome new t
  other_wants new h t (inl none) came = clash_some t _ (sym none ∙ came)
  other_wants new h t (inr shared) came = subst (λ (x : AddressPrefix). IsWithSome new x) (same_some shared.0 t (sym shared.1 ∙ came)) shared.2

  still_wanted : (was is : AddressPrefix → Bool) (old new : ℕ → Option (Hop A)) (a : ℕ) (h : Hop A) (up : Option AddressPrefix) (t : AddressPrefix)
      → ((s : AddressPrefix) → was s ≡ true → IsWithSome old s) → old a ≡ Some h → IsPutAt old new a None → IsUnshared new h.came up → GivesUp was is up → is t ≡ true
      → IsWithSome new t
  still_wanted was is old new a h None t wanted at put un gives kept =
      let w = wanted t (sym (gives t) ∙ kept) in
      elim (cases_eq w.0 a) [
        | inl e ↦
            let same : h ≡ w.1 = same_some h w.1 (sym at ∙ ap old (sym e) ∙ w.2) in
            other_wants new h t un (ap (λ (x : Hop A). x.came) same ∙ w.3)
        | inr ne ↦ (w.0, w.1, put.others w.0 ne ∙ w.2, w.3)
      ]
  still_wanted was is old new a h (Some s) t wanted at put un gives kept =
      by_prefix t s (λ _. IsWithSome new t)
      (λ e. clash_bool _ (sym gives.here ∙ ap is (sym e) ∙ kept))
      (λ apart.
      let w = wanted t (sym (gives.others t apart) ∙ kept) in
      elim (cases_eq w.0 a) [
        | inl e ↦
            let same : h ≡ w.1 = same_some h w.1 (sym at ∙ ap old (sym e) ∙ w.2) in
            absurd (apart (same_some t s (sym w.3 ∙ sym (ap (λ (x : Hop A). x.came) same) ∙ un.0)))
        | inr ne ↦ (w.0, w.1, put.others w.0 ne ∙ w.2, w.3)
      ])

  pub forgotten_agrees : ForgottenAgrees A
  forgotten_agrees answer was is old new a h up agree at put un gives = record {
    present = λ b g t e has. elim (cases_eq b a) [
      | inl here ↦ clash_some g _ (sym put.here ∙ ap new (sym here) ∙ e)
      | inr ne ↦
          let p = agree.present b g t (sym (put.others b ne) ∙ e) has in
          moved answer was is b g t p (stays_kept answer was is new h.came up b g t un gives e has p)
    ];
    wanted = λ t kept. still_wanted was is old new a h up t agree.wanted at put un gives kept;
  }

  -- ---- fresh answers come into force

  was_settled : (o : Option (Hop A)) (h : Hop A) → option_map settled o ≡ Some h → (g : Hop A) × (o ≡ Some g) × (g.fresh ≡ h.fresh) × (g.came ≡ h.came)
  was_settled None h e = clash_some h _ e
  was_settled (Some g) h e = let same : settled g ≡ h = same_some (settled g) h e in (g, refl, ap (λ (x : Hop A). x.fresh) same, ap (λ (x : Hop A). x.came) same)

  with_settled : (old new : Hops A) (s : AddressPrefix) → IsMapped settled old new → IsWithSome (map.get old) s → IsWithSome (map.get new) s
  with_settled old new s mapped w = (w.0, settled w.1, mapped w.0 ∙ ap (option_map settled) w.2, w.3)

  pub settled_agrees : SettledAgrees A
  settled_agrees answer interested old new agree mapped = record {
    present = λ a h s e came.
        let w = was_settled (map.get old a) h (sym (mapped a) ∙ e) in
        let p = agree.present a w.0 s w.1 (w.3 ∙ came) in
        record { answered = sym w.2 ∙ p.answered; kept = p.kept; holds = p.holds };
    wanted = λ s kept. with_settled old new s mapped (agree.wanted s kept);
  }
