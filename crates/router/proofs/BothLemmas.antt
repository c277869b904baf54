-- What both networks did, put together.
use Rattle.std.proofs.Common.{◌≡◌, ℕ, ◌+◌, ◌<◌, ◌^◌, Bool, true, false, List, [], ◌∷◌, ◌++◌, Some, None, refl, sym, ap, subst, ◌∙◌, arith, append_assoc}
use Rattle.std.proofs.lemmas.List.{append-nil}
use Rattle.journal_text.specs.Lines.{Line}
use Rattle.journal_text.specs.declared.line.Line.TheVariants as lines
use Rattle.journal_text.specs.Journals.{Journaled, with_lines, flushed}
use Rattle.bgp_attr.specs.declared.speaker.Profile.{Profile}
use Rattle.event_text.specs.Event.{Event}
use Rattle.event_text.specs.declared.event.Event.TheVariants.{Idle}
use Rattle.event_text.specs.declared.event.Event.TheVariants as events
use Rattle.event_text.specs.Declarations.{Declaration}
use Rattle.journal_laws.specs.FamilyLines.{of_family}
use Rattle.live_state.specs.Declared.{declared_after}
use Rattle.live_state.specs.Laws.{DeclarationsFollow}
use Rattle.router_moments.specs.Moments.{Moment, Cored, Gives, bound_of}
use Rattle.router_moments.specs.Blocks.{Acts}
use Rattle.router_moments.specs.Lives.{live_state}
use Rattle.router_moments.specs.Stands.{CoreStands}
use Rattle.router_moments.proofs.ProfileLemmas.{profile_after, profile_follows, family_follows, whole_spoken}
use Rattle.router.specs.Ties.{AreTied}
use Rattle.router.specs.Networks.{BothStand}
use Rattle.router.specs.Steps.{AreJoined, is_idle, idle_lines, CountsIdle, BothAct, GivesBoth, GivesSecond}
use Rattle.router.proofs.TextLemmas.{first_said, then_second, then_first, pushed_first}

-- what was declared behind an event, by what is live
pub declared_by : (m m' : Moment) (event : Event) (turns : ℕ) (said : List Line) → DeclarationsFollow → Acts m event turns m' said → m'.declared ≡ declared_after m.declared event
declared_by m m' event turns said follow acts = follow (live_state m) event (live_state m') acts.live

-- ---- one network alone
pub one_acts : (m m' : Moment) (event event6 : Event) (turns : ℕ) (before now : Journaled) → before.v6 ≡ false → is_idle event ≡ false → Gives (Acts m event turns m') before now
    → GivesBoth (BothAct (record { first = m; second = None }) event event6 turns (record { first = m'; second = None })) before now
one_acts m m' event event6 turns before now first other g = (
  of_family false g.0,
  first_said before now g.0 first g.1,
  record {
    inner = g.0;
    inner6 = [];
    taken = turns;
    taken6 = 0;
    first = g.2;
    second = (refl, refl, refl);
    sum = omega arith;
    joined = subst (λ b. AreJoined b g.0 [] (of_family false g.0)) (sym other) (sym (append-nil (of_family false g.0)));
  },
)

of_append : (v6 : Bool) (one other : List Line) → of_family v6 (one ++ other) ≡ of_family v6 one ++ of_family v6 other
of_append v6 [] other = refl
of_append v6 (line ∷ one) other = ap (λ l. record { v6 = v6; line = line } ∷ l) (of_append v6 one other)

pub one_idles : (m m' : Moment) (turns : ℕ) (before now : Journaled) → before.v6 ≡ false → Gives (Acts m Idle turns m') before now
    → GivesBoth (BothAct (record { first = m; second = None }) Idle Idle turns (record { first = m'; second = None })) before now
one_idles m m' turns before now first g =
    let block = g.2.block in
    let bound : bound_of m ≡ bound_of m + 0 = omega arith in
    let same : turns ≡ turns + 0 = omega arith in (
      of_family false g.0,
      first_said before now g.0 first g.1,
      record {
        inner = g.0;
        inner6 = [];
        taken = turns;
        taken6 = 0;
        first = g.2;
        second = (refl, refl, refl);
        sum = same;
        joined = record {
          bound = bound_of m;
          bound6 = 0;
          inner = block.inner;
          inner6 = [];
          turns = turns;
          turns6 = 0;
          counts = subst (λ s. CountsIdle s (bound_of m) block.inner turns) (sym block.lines) refl;
          counts6 = (refl, refl, refl);
          lines = ap (of_family false) block.lines
              ∙ (ap (λ l. record { v6 = false; line = lines.Bound (bound_of m) } ∷ l) (of_append false block.inner (lines.Idle turns ∷ []))
              ∙ ap (λ n. of_family false (lines.Bound n ∷ block.inner) ++ of_family false (lines.Idle turns ∷ [])) bound
              ∙ ap (λ n. of_family false (lines.Bound (bound_of m + 0) ∷ block.inner) ++ of_family false (lines.Idle n ∷ [])) same);
          fits = subst (λ n. n < 2 ^ 128) bound block.fits;
        };
      },
    )

-- ---- both
pub both_act : (m m' m6 m6' : Moment) (event event6 : Event) (turns turns6 : ℕ) (before between now : Journaled) → before.v6 ≡ false → is_idle event ≡ false → Gives (Acts m event turns m') before between
    → GivesSecond (Acts m6 event6 turns6 m6') between now
    → GivesBoth (BothAct (record { first = m; second = Some m6 }) event event6 (turns + turns6) (record { first = m'; second = Some m6' })) before now
both_act m m' m6 m6' event event6 turns turns6 before between now first other g h = (
  of_family false g.0 ++ of_family true h.0,
  then_second before between now (of_family false g.0) h.0 (first_said before between g.0 first g.1) h.1,
  record {
    inner = g.0;
    inner6 = h.0;
    taken = turns;
    taken6 = turns6;
    first = g.2;
    second = h.2;
    sum = refl;
    joined = subst (λ b. AreJoined b g.0 h.0 (of_family false g.0 ++ of_family true h.0)) (sym other) refl;
  },
)

pub both_idle : (m m' m6 m6' : Moment) (turns turns6 all : ℕ) (before j1 j2 j3 j4 now : Journaled) → before.v6 ≡ false → bound_of m + bound_of m6 < 2 ^ 128 → j1 ≡ with_lines before (lines.Bound (bound_of m + bound_of m6) ∷ [])
    → Gives (λ inner. Acts m Idle turns m' (idle_lines (bound_of m) inner turns)) j1 j2 → GivesSecond (λ inner. Acts m6 Idle turns6 m6' (idle_lines (bound_of m6) inner turns6)) j2 j3
    → all ≡ turns + turns6 → j4 ≡ with_lines j3 (lines.Idle all ∷ []) → now ≡ flushed j4
    → GivesBoth (BothAct (record { first = m; second = Some m6 }) Idle Idle all (record { first = m'; second = Some m6' })) before now
both_idle m m' m6 m6' turns turns6 all before j1 j2 j3 j4 now first fits bounded g h sum last is =
    let sum_line = lines.Bound (bound_of m + bound_of m6) in
    let front = of_family false (sum_line ∷ g.0) in (
      (front ++ of_family true h.0) ++ of_family false (lines.Idle all ∷ []),
      then_first before j3 now (front ++ of_family true h.0) (lines.Idle all ∷ []) first (then_second before j2 j3 front h.0 (pushed_first before j1 j2 sum_line g.0 first bounded g.1) h.1) (is ∙ ap flushed last),
      record {
        inner = idle_lines (bound_of m) g.0 turns;
        inner6 = idle_lines (bound_of m6) h.0 turns6;
        taken = turns;
        taken6 = turns6;
        first = g.2;
        second = h.2;
        sum = sum;
        joined = record {
          bound = bound_of m;
          bound6 = bound_of m6;
          inner = g.0;
          inner6 = h.0;
          turns = turns;
          turns6 = turns6;
          counts = refl;
          counts6 = refl;
          lines = append_assoc front (of_family true h.0) (of_family false (lines.Idle all ∷ [])) ∙ ap (λ n. front ++ (of_family true h.0 ++ of_family false (lines.Idle n ∷ []))) sum;
          fits = fits;
        };
      },
    )

-- ---- what stands then
v6_stays : (profile : Profile) (event : Event) → (profile_after profile event).v6 ≡ profile.v6
v6_stays profile (events.Whole word) = whole_spoken word profile
v6_stays profile other = refl

pub one_stands : (c c' : Cored) (event : Event) → BothStand c None → CoreStands c' → c'.moment.declared ≡ declared_after c.moment.declared event → BothStand c' None
one_stands c c' event before stands is = record {
  family = ap (λ (d : Declaration). d.v6) is ∙ (family_follows c.moment.declared event ∙ before.family);
  stands = stands;
  behind = ap (λ (d : Declaration). d.profile.v6) is ∙ (ap (λ (p : Profile). p.v6) (sym (profile_follows c.moment.declared event)) ∙ (v6_stays c.moment.declared.profile event ∙ before.behind));
}

pub both_stand : (c c' c6 c6' : Cored) (event event6 : Event) → BothStand c (Some c6) → CoreStands c' → CoreStands c6' → c'.events ≡ c.events + 1 → c6'.events ≡ c6.events + 1
    → c'.moment.declared ≡ declared_after c.moment.declared event → c6'.moment.declared ≡ declared_after c6.moment.declared event6 → AreTied (declared_after c.moment.declared event) (declared_after c6.moment.declared event6)
    → BothStand c' (Some c6')
both_stand c c' c6 c6' event event6 before stands stands6 events events6 is is6 tied =
    let few = before.behind.few in
    record {
      family = ap (λ (d : Declaration). d.v6) is ∙ (family_follows c.moment.declared event ∙ before.family);
      stands = stands;
      behind = record {
        stands = stands6;
        few = omega (arith, few, events, events6);
        tied = subst (λ (d : Declaration). AreTied d c6'.moment.declared) (sym is) (subst (AreTied (declared_after c.moment.declared event)) (sym is6) tied);
      };
    }
