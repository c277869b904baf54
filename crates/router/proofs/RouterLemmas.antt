-- What the router's calls leave, by its parts.
use Rattle.std.proofs.Common.{◌≡◌, ◌≢◌, ℕ, ◌+◌, ◌<◌, ◌^◌, Bool, true, false, List, [], ◌∷◌, Option, Some, None, Result, Ok, Err, option_map, refl, sym, ap, subst, ◌∙◌}
use Rattle.std.specs.Result.{OnOk}
use Rattle.journal_text.specs.Journals.{Journaled, with_lines, flushed}
use Rattle.journal_text.specs.declared.line.Line.TheVariants as lines
use Rattle.bgp_attr.specs.Speakers.{IsProfileOf}
use Rattle.bgp_wire.specs.Readable.{said_of}
use Rattle.bgp_wire.specs.declared.message.Update.{Update}
use Rattle.event_text.specs.Event.{Event}
use Rattle.event_text.specs.declared.event.Event.TheVariants.{Nothing, Bgp, Idle}
use Rattle.event_text.specs.declared.event.FileEvent.{FileEvent}
use Rattle.event_text.specs.declared.event.FileEvent.TheVariants.{First, Second}
use Rattle.event_text.specs.Declarations.{Declaration, refusal}
use Rattle.event_text.specs.FileEvents.{file_refusal, IsWellSaid}
use Rattle.event_text.specs.WellFormed.{IsWellFormed}
use Rattle.live_state.specs.Declared.{declared_after}
use Rattle.live_state.specs.Laws.{DeclarationsFollow}
use Rattle.router_moments.specs.Moments.{Cored, Gives, bound_of}
use Rattle.router_moments.specs.Blocks.{Acts}
use Rattle.router_moments.specs.Laws.{RowsAtRestAreExact}
use Rattle.router_moments.specs.Scratch.{IsExactAtRest}
use Rattle.router_moments.specs.Stands.{CoreStands}
use Rattle.router_core.specs.Heard.{AreUpdate, SayOfFamily}
use Rattle.router.specs.Ties.{AreTied, with_addr}
use Rattle.router.specs.Told.{told}
use Rattle.router.specs.Codes.{told_so_far, told_then}
use Rattle.router.specs.Networks.{OfEach, OfSecond, Routed, BothStand, IsSecondOf, networks_of, moment_of}
use Rattle.router.specs.Steps.{is_idle, idle_lines, BothAct, GivesBoth, GivesSecond, MayStep}
use Rattle.router.specs.Laws.{MayStandAlone, SecondMayStand, MayBeTold, ToldMayStand, ToldInTwo, IsToldUpdate, UpdateIsTold}
use Rattle.router.proofs.AloneLemmas.{idle_may}
use Rattle.router.proofs.BothLemmas.{declared_by, both_act, both_idle, both_stand, one_acts, one_stands, one_idles}

-- what a call of the first network says of its moment
first_declared : (c c' : Cored) (event : Event) (turns : ℕ) (before now : Journaled) → DeclarationsFollow → Gives (Acts c.moment event turns c'.moment) before now → c'.moment.declared ≡ declared_after c.moment.declared event
first_declared c c' event turns before now follow g = declared_by c.moment c'.moment event turns g.0 follow g.2

second_declared : (c c' : Cored) (event : Event) (turns : ℕ) (before now : Journaled) → DeclarationsFollow → GivesSecond (Acts c.moment event turns c'.moment) before now → c'.moment.declared ≡ declared_after c.moment.declared event
second_declared c c' event turns before now follow g = declared_by c.moment c'.moment event turns g.0 follow g.2

module _ (old : Routed) (first : Cored) (o : Option Cored) (failed : Bool) (view : record { first = first; second = o; failed = failed } ≡ old) (stands : BothStand old.first old.second) where
  pub both_now : BothStand first o
  both_now = subst (λ (r : Routed). BothStand r.first r.second) (sym view) stands

  -- a claim of the first network, by what the router is
  pub of_first : (P : Cored → Type 0) → P old.first → P first
  of_first P is = subst (λ (r : Routed). P r.first) (sym view) is

  -- where the second network isn't there
  pub seen_alone : o ≡ None → networks_of old ≡ record { first = first.moment; second = None }
  seen_alone none = ap networks_of (sym view) ∙ ap (λ x. record { first = first.moment; second = option_map moment_of x }) none

  pub alone_now : o ≡ None → BothStand first None
  alone_now none = subst (BothStand first) none both_now

  module _ (none : o ≡ None) (first' : Cored) (turns : ℕ) (before now : Journaled) (lines : before.v6 ≡ false) where
    pub alone_acted : (event event6 : Event) → is_idle event ≡ false → Gives (Acts first.moment event turns first'.moment) before now
        → GivesBoth (BothAct (networks_of old) event event6 turns (record { first = first'.moment; second = option_map moment_of o })) before now
    alone_acted event event6 other g =
        subst (λ x. GivesBoth (BothAct (networks_of old) event event6 turns (record { first = first'.moment; second = option_map moment_of x })) before now) (sym none)
        (subst (λ n. GivesBoth (BothAct n event event6 turns (record { first = first'.moment; second = None })) before now) (sym (seen_alone none)) (one_acts first.moment first'.moment event event6 turns before now lines other g))

    pub alone_idled : Gives (Acts first.moment Idle turns first'.moment) before now
        → GivesBoth (BothAct (networks_of old) Idle Idle turns (record { first = first'.moment; second = option_map moment_of o })) before now
    alone_idled g =
        subst (λ x. GivesBoth (BothAct (networks_of old) Idle Idle turns (record { first = first'.moment; second = option_map moment_of x })) before now) (sym none)
        (subst (λ n. GivesBoth (BothAct n Idle Idle turns (record { first = first'.moment; second = None })) before now) (sym (seen_alone none)) (one_idles first.moment first'.moment turns before now lines g))

    pub alone_stood : (event : Event) → DeclarationsFollow → CoreStands first' → Gives (Acts first.moment event turns first'.moment) before now → BothStand first' o
    alone_stood event follow stands' g = subst (BothStand first') (sym none) (one_stands first first' event (alone_now none) stands' (first_declared first first' event turns before now follow g))

  -- where it is
  module _ (c6 : Cored) (is : o ≡ Some c6) where
    pub two_now : BothStand first (Some c6)
    two_now = subst (BothStand first) is both_now

    pub seen_both : networks_of old ≡ record { first = first.moment; second = Some c6.moment }
    seen_both = ap networks_of (sym view) ∙ ap (λ x. record { first = first.moment; second = option_map moment_of x }) is

    -- an idle of both
    pub idle_may_second : refusal c6.moment.declared Idle ≡ None
    idle_may_second = idle_may c6.moment.declared (with_addr two_now.behind.tied.addr two_now.behind.tied.me) two_now.behind.tied.speaker6

    module _ (first' c6' : Cored) (turns turns6 : ℕ) (j1 j2 j3 : Journaled) (g : Gives (λ inner. Acts first.moment Idle turns first'.moment (idle_lines (bound_of first.moment) inner turns)) j1 j2) (h : GivesSecond (λ inner. Acts c6.moment Idle turns6 c6'.moment (idle_lines (bound_of c6.moment) inner turns6)) j2 j3) where
      pub both_idled : (bound bound6 sum all : ℕ) (before j4 now : Journaled) → before.v6 ≡ false → bound ≡ bound_of first.moment → bound6 ≡ bound_of c6.moment → sum ≡ bound + bound6 → sum < 2 ^ 128 → j1 ≡ with_lines before (lines.Bound sum ∷ [])
          → all ≡ turns + turns6 → j4 ≡ with_lines j3 (lines.Idle all ∷ []) → now ≡ flushed j4
          → GivesBoth (BothAct (networks_of old) Idle Idle all (record { first = first'.moment; second = Some c6'.moment })) before now
      both_idled bound bound6 sum all before j4 now first_lines is_bound is_bound6 is_sum small bounded is_all last is_now =
          let same : sum ≡ bound_of first.moment + bound_of c6.moment = is_sum ∙ (ap (λ n. n + bound6) is_bound ∙ ap (λ n. bound_of first.moment + n) is_bound6) in
          subst (λ n. GivesBoth (BothAct n Idle Idle all (record { first = first'.moment; second = Some c6'.moment })) before now) (sym seen_both)
          (both_idle first.moment first'.moment c6.moment c6'.moment turns turns6 all before j1 j2 j3 j4 now first_lines (subst (λ n. n < 2 ^ 128) same small) (bounded ∙ ap (λ n. with_lines before (lines.Bound n ∷ [])) same) g h is_all last is_now)

      pub both_idle_stood : DeclarationsFollow → CoreStands first' → CoreStands c6' → first'.events ≡ first.events + 1 → c6'.events ≡ c6.events + 1 → BothStand first' (Some c6')
      both_idle_stood follow one two events events6 =
          both_stand first first' c6 c6' Idle Idle two_now one two events events6 (declared_by first.moment first'.moment Idle turns _ follow g.2) (declared_by c6.moment c6'.moment Idle turns6 _ follow h.2) two_now.behind.tied

    module _ (first' c6' : Cored) (event event6 : Event) (turns turns6 : ℕ) (before between now : Journaled) (g : Gives (Acts first.moment event turns first'.moment) before between) (h : GivesSecond (Acts c6.moment event6 turns6 c6'.moment) between now) where
      pub both_acted : (sum : ℕ) → before.v6 ≡ false → is_idle event ≡ false → sum ≡ turns + turns6
          → GivesBoth (BothAct (networks_of old) event event6 sum (record { first = first'.moment; second = Some c6'.moment })) before now
      both_acted sum lines other is_sum =
          subst (λ n. GivesBoth (BothAct n event event6 sum (record { first = first'.moment; second = Some c6'.moment })) before now) (sym seen_both)
          (subst (λ k. GivesBoth (BothAct (record { first = first.moment; second = Some c6.moment }) event event6 k (record { first = first'.moment; second = Some c6'.moment })) before now) (sym is_sum)
          (both_act first.moment first'.moment c6.moment c6'.moment event event6 turns turns6 before between now lines other g h))

      pub both_acted_as : (told6 : Event) → event6 ≡ told6 → (sum : ℕ) → before.v6 ≡ false → is_idle event ≡ false → sum ≡ turns + turns6
          → GivesBoth (BothAct (networks_of old) event told6 sum (record { first = first'.moment; second = Some c6'.moment })) before now
      both_acted_as told6 same sum lines other is_sum =
          subst (λ e. GivesBoth (BothAct (networks_of old) event e sum (record { first = first'.moment; second = Some c6'.moment })) before now) same (both_acted sum lines other is_sum)

      pub both_stood : DeclarationsFollow → CoreStands first' → CoreStands c6' → first'.events ≡ first.events + 1 → c6'.events ≡ c6.events + 1
          → AreTied (declared_after first.moment.declared event) (declared_after c6.moment.declared event6) → BothStand first' (Some c6')
      both_stood follow one two events events6 tied =
          both_stand first first' c6 c6' event event6 two_now one two events events6 (first_declared first first' event turns before between follow g) (second_declared c6 c6' event6 turns6 between now follow h) tied

    -- an event of the second alone
    module _ (event : Event) (law : SecondMayStand) (admitted : file_refusal old.first.moment.declared (Second event) ≡ None) (said : IsWellSaid old.first.moment.declared.profile (Second event)) where
      alone_may : MayStandAlone c6.moment.declared event
      alone_may = law first.moment.declared c6.moment.declared event two_now.behind.tied (of_first (λ c. file_refusal c.moment.declared (Second event) ≡ None) admitted) (of_first (λ c. IsWellSaid c.moment.declared.profile (Second event)) said)

      pub second_may_step : MayStep event c6
      second_may_step = (alone_may.admitted, alone_may.formed)

      pub tied_alone : AreTied (declared_after first.moment.declared Nothing) (declared_after c6.moment.declared event)
      tied_alone = subst (AreTied first.moment.declared) (sym alone_may.stays) two_now.behind.tied

    -- what it is told of an event of the first
    module _ (event : Event) (law : ToldMayStand) (admitted : refusal old.first.moment.declared event ≡ None) (formed : IsWellFormed false old.first.moment.declared.profile event) where
      told_may : MayBeTold first.moment.declared c6.moment.declared event
      told_may = law first.moment.declared c6.moment.declared event two_now.behind.tied two_now.family (of_first (λ c. refusal c.moment.declared event ≡ None) admitted) (of_first (λ c. IsWellFormed false c.moment.declared.profile event) formed)

      pub told_may_step : (first' : Cored) (event6 : Event) (turns : ℕ) (before now : Journaled) → DeclarationsFollow → ToldInTwo → Gives (Acts first.moment event turns first'.moment) before now
          → event6 ≡ told_then first'.moment.declared (told_so_far first.moment.declared event) → event6 ≡ told first.moment.declared event
      told_may_step first' event6 turns before now follow two g is6 =
          is6 ∙ (ap (λ d. told_then d (told_so_far first.moment.declared event)) (first_declared first first' event turns before now follow g) ∙ two first.moment.declared event)

      pub told_step : (event6 : Event) → event6 ≡ told first.moment.declared event → MayStep event6 c6
      told_step event6 is6 = subst (λ e. MayStep e c6) (sym is6) (told_may.admitted, told_may.formed)

      pub tied_told : (event6 : Event) → event6 ≡ told first.moment.declared event → AreTied (declared_after first.moment.declared event) (declared_after c6.moment.declared event6)
      tied_told event6 is6 = subst (λ e. AreTied (declared_after first.moment.declared event) (declared_after c6.moment.declared e)) (sym is6) told_may.tied

    -- an UPDATE that was read once
    module _ (k : ℕ) (octets : List ℕ) (u : Update) (law : UpdateIsTold) (are : AreUpdate old.first.moment.declared k octets u) where
      update_law : IsToldUpdate first.moment.declared c6.moment.declared k octets u
      update_law = law first.moment.declared c6.moment.declared k octets u two_now.behind.tied (of_first (λ c. AreUpdate c.moment.declared k octets u) are)

      pub is_told_update : Bgp k octets ≡ told first.moment.declared (Bgp k octets)
      is_told_update = sym update_law.is_told

      pub second_says : IsProfileOf true c6.moment.declared.profile → SayOfFamily c6.moment.declared k octets u.second
      second_says of = record { update = u; are = update_law.are; of_family = ap (λ b. said_of b u) (sym of.second) }

-- what an UPDATE says of the first network's family, by the profile that its declarations have
pub says_first : (d : Declaration) (k : ℕ) (octets : List ℕ) (u : Update) → IsProfileOf false d.profile → AreUpdate d k octets u → SayOfFamily d k octets u.first
says_first d k octets u of are = record { update = u; are = are; of_family = ap (λ b. said_of b u) (sym of.second) }

-- an event that is no idle
pub no_idle : (event : Event) → event ≢ Idle → is_idle event ≡ false
no_idle Idle other = absurd (other refl)
no_idle event other = refl

-- what holds anyway holds where there is a value
pub on_ok : {T : Type 0} {E : Type 0} {P : Type 0} (r : Result T E) → P → OnOk r P
on_ok (Ok x) is = is
on_ok (Err e) is = tt

-- an event of the first network, or of both, may stand there where the line's event may
pub first_admitted : (d : Declaration) (event : FileEvent) (own : Event) → event ≡ First own → file_refusal d event ≡ None → refusal d own ≡ None
unfolding file_refusal
first_admitted d event own is admitted = subst (λ e. file_refusal d e ≡ None) is admitted

-- both are exact where no work holds them up
pub exact_both : RowsAtRestAreExact → (first : Cored) (o : Option Cored) → BothStand first o → OfEach (λ v6. IsExactAtRest) (record { first = first.moment; second = option_map moment_of o })
exact_both law first o both = (law first.moment both.stands.stands both.stands.exits, second o both.behind)
  where
    second : (x : Option Cored) → IsSecondOf first x → OfSecond IsExactAtRest (option_map moment_of x)
    second None is = tt
    second (Some c6) is = law c6.moment is.stands.stands is.stands.exits
