-- `local6`: the second network begins.
use Rattle.std.proofs.Common.{◌≡◌, ℕ, ◌+◌, ◌<◌, Bool, true, false, [], Option, Some, None, refl, sym, ap, subst, ◌∙◌, arith, ◌++◌}
use Rattle.bgp_attr.specs.Speakers.{Speaker, IsSpeaker, IsProfileOf}
use Rattle.bgp_attr.specs.declared.speaker.Profile.{Profile}
use Rattle.journal_text.specs.Journals.{Journaled}
use Rattle.event_text.specs.declared.event.Event.TheVariants.{Local}
use Rattle.event_text.specs.declared.event.FileEvent.TheVariants.{Local6}
use Rattle.event_text.specs.Declarations.{Declaration, refusal, no_declaration, with_profile, with_speaker}
use Rattle.event_text.specs.FileEvents.{file_refusal, IsWellSaid, with_ipv6}
use Rattle.journal_laws.specs.FamilyLines.{of_family}
use Rattle.live_state.specs.Laws.{DeclarationsFollow}
use Rattle.router_moments.specs.Moments.{Cored, first_moment, profiled, spoken}
use Rattle.router_moments.specs.Blocks.{Acts}
use Rattle.router_moments.specs.Stands.{CoreStands}
use Rattle.router.specs.Ties.{AreTied, in_second, with_addr}
use Rattle.router.specs.Told.{words6}
use Rattle.router.specs.Networks.{Networks, Routed, BothStand, IsSecondOf, networks_of, moment_of, second_moment}
use Rattle.router.specs.Steps.{GivesBoth, GivesSecond, SecondBegins, SecondActs, MayStep, IsFew}
use Rattle.router.specs.Laws.{MayBegin, Local6MayStand}
use Rattle.router.proofs.BothLemmas.{declared_by}
use Rattle.router.proofs.TextLemmas.{of_one}
use Rattle.router.proofs.RouterLemmas.{both_now, seen_alone}

-- ---- the second network alone
-- nothing was declared to it, so `local` may stand there
nothing_said : (profile : Profile) (words : Speaker) → refusal (with_profile (no_declaration true) profile) (Local words) ≡ None
unfolding refusal
nothing_said profile words = refl

abbrev pub fresh_core : Profile → Cored
fresh_core profile = record { moment = profiled (first_moment true) profile; events = 0; failed = false }

module _ (profile : Profile) (words : Speaker) (fresh : Cored) (is : fresh ≡ fresh_core profile) where
  pub local_may_step : IsSpeaker true profile.as4 words → MayStep (Local words) fresh
  local_may_step formed = subst (MayStep (Local words)) (sym is) (nothing_said profile words, formed)

  pub few_yet : IsFew fresh
  few_yet =
      let few : 0 < 4294967295 = omega arith in
      subst IsFew (sym is) few

  pub begun_acts : (second : Cored) (turns : ℕ) (before now : Journaled) → GivesSecond (Acts fresh.moment (Local words) turns second.moment) before now → GivesSecond (Acts (profiled (first_moment true) profile) (Local words) 0 second.moment) before now
  begun_acts second turns before now g = (
    g.0,
    g.1,
    subst (λ (c : Cored). Acts c.moment (Local words) 0 second.moment g.0) is (subst (λ n. Acts fresh.moment (Local words) n second.moment g.0) g.2.block.0 g.2),
  )

-- ---- both
same_some : (a b : Speaker) → Some a ≡ Some b → a ≡ b
same_some a b e = cc

module _ (old : Routed) (first : Cored) (o : Option Cored) (failed : Bool) (view : record { first = first; second = o; failed = failed } ≡ old) (stands : BothStand old.first old.second) (addr : ℕ) (law : Local6MayStand) (admitted : file_refusal old.first.moment.declared (Local6 addr) ≡ None) (said : IsWellSaid old.first.moment.declared.profile (Local6 addr)) where
  both_here : BothStand first o
  both_here = both_now old first o failed view stands

  begins_here : MayBegin first.moment.declared addr
  begins_here =
      law first.moment.declared addr both_here.stands.printable.declared both_here.family
      (subst (λ (r : Routed). file_refusal r.first.moment.declared (Local6 addr) ≡ None) (sym view) admitted)
      (subst (λ (r : Routed). IsWellSaid r.first.moment.declared.profile (Local6 addr)) (sym view) said)

  -- this speaker was declared, and no peer
  pub speaker_here : (me : Speaker) × (first.moment.declared.speaker ≡ Some me)
  speaker_here = (begins_here.me, begins_here.local)

  pub alone_here : first.moment.declared.peers ≡ []
  alone_here = begins_here.alone

  -- the second isn't there yet
  none_by : (x : Option Cored) → IsSecondOf first x → x ≡ None
  none_by None is = refl
  none_by (Some c6) is = absurd (let clash : true ≡ false = sym is.tied.spoken ∙ begins_here.unspoken in cc)

  none_here : o ≡ None
  none_here = none_by o both_here.behind

  module _ (first' : Cored) (is' : first' ≡ record { moment = spoken first.moment; events = first.events + 1; failed = false }) (me : Speaker) (is_me : first.moment.declared.speaker ≡ Some me) (profile : Profile) (is_profile : profile ≡ in_second first'.moment.declared.profile) where
    same_me : begins_here.me ≡ me
    same_me = same_some begins_here.me me (sym begins_here.local ∙ is_me)

    profile_is : profile ≡ in_second (with_ipv6 first.moment.declared.profile)
    profile_is = is_profile ∙ ap (λ (c : Cored). in_second c.moment.declared.profile) is'

    pub family_here : IsProfileOf true profile
    family_here = subst (IsProfileOf true) (sym profile_is) begins_here.family

    pub words_here : IsSpeaker true profile.as4 (with_addr addr me)
    words_here = subst (λ (p : Profile). IsSpeaker true p.as4 (with_addr addr me)) (sym profile_is) (subst (λ m. IsSpeaker true first.moment.declared.profile.as4 (with_addr addr m)) same_me begins_here.words)

    module _ (second : Cored) (before now : Journaled) (g : GivesSecond (Acts (profiled (first_moment true) profile) (Local (with_addr addr me)) 0 second.moment) before now) where
      begins_by : SecondActs (Some (second_moment first.moment.declared.profile)) (words6 addr first.moment.declared.speaker) 0 (Some second.moment) g.0
      begins_by =
          subst (λ s. SecondActs (Some (second_moment first.moment.declared.profile)) (words6 addr s) 0 (Some second.moment) g.0) (sym is_me)
          (subst (λ p. Acts (profiled (first_moment true) p) (Local (with_addr addr me)) 0 second.moment g.0) profile_is g.2)

      pub begun_both : GivesBoth (SecondBegins (networks_of old) addr (record { first = first'.moment; second = Some second.moment })) before now
      begun_both = (
        of_family true g.0,
        g.1 ∙ ap (λ t. record before { text = before.text ++ (before.pending ++ t); pending = [] }) (sym (of_one before.quiet true g.0)),
        subst (λ (n : Networks). SecondBegins n addr (record { first = first'.moment; second = Some second.moment }) (of_family true g.0)) (sym (seen_alone old first o failed view stands none_here))
            (record { none = refl; first = ap moment_of is'; inner6 = g.0; begins = begins_by; lines = refl }),
      )

      declared_there : DeclarationsFollow → second.moment.declared ≡ with_speaker (with_profile (no_declaration true) profile) (with_addr addr me)
      declared_there follow = declared_by (profiled (first_moment true) profile) second.moment (Local (with_addr addr me)) 0 g.0 follow g.2

      tied_there : DeclarationsFollow → AreTied first'.moment.declared second.moment.declared
      tied_there follow =
          subst (λ (d : Declaration). AreTied d second.moment.declared) (sym (ap (λ (c : Cored). c.moment.declared) is'))
          (subst (AreTied (spoken first.moment).declared) (sym (declared_there follow ∙ ap (λ p. with_speaker (with_profile (no_declaration true) p) (with_addr addr me)) profile_is))
          (subst (λ m. AreTied (spoken first.moment).declared (with_speaker (with_profile (no_declaration true) (in_second (with_ipv6 first.moment.declared.profile))) (with_addr addr m))) same_me begins_here.tied))

      pub begun_stand : DeclarationsFollow → CoreStands first' → CoreStands second → second.events ≡ 1 → BothStand first' (Some second)
      begun_stand follow one two once =
          let events = ap (λ (c : Cored). c.events) is' in
          record {
            family = ap (λ (c : Cored). c.moment.declared.v6) is' ∙ both_here.family;
            stands = one;
            behind = record { stands = two; few = omega (arith, once, events); tied = tied_there follow };
          }
