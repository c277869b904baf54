-- A core behind `local6`, one to which nothing was declared yet, and one that does its work in an idle of several networks.
use Rattle.router_moments.proofs.Common.{sym, subst, ◌∙◌, ap, ◌≡◌, ℕ, ◌+◌, ◌<◌, ◌++◌, refl, List, false, Bool, Profile, Journaled, flushed, with_lines, Line, live_state, Moment, Gives, bound_of, HasStepped}
use Rattle.std.proofs.Common.{◌^◌, [], ◌∷◌, None}
use Rattle.journal_text.specs.declared.line.Line.TheVariants as lines
use Rattle.event_text.specs.declared.event.Event.TheVariants.{Idle}
use Rattle.event_text.specs.Declarations.{refusal}
use Rattle.live_state.specs.Laws.{DeclarationsFollow}
use Rattle.bgp_attr.specs.Speakers.{IsProfileOf}
use Rattle.rib_tree.specs.Laws.{ANewTreeStands}
use Rattle.router_moments.specs.Moments.{Cored, first_moment, profiled, spoken}
use Rattle.router_moments.specs.Blocks.{Acts}
use Rattle.router_moments.specs.Stands.{CoreStands}
use Rattle.router_moments.specs.Works.{AllHaveDrained}
use Rattle.router_moments.proofs.CoreLemmas.{cored, core_acts_by, core_stepped, fresh_stands, spoken_core}
use Rattle.router_network.specs.Informed.{Contested, Informed}
use Rattle.router_network.proofs.KnownRows.{informed_same}
use Rattle.router_network.proofs.StepLemmas.{idle_said}

-- a core that stands, by its parts
pub off_of : (old : Cored) (m : Moment) (n : ℕ) (failed : Bool) → record { moment = m; events = n; failed = failed } ≡ old → CoreStands old → failed ≡ false
off_of old m n failed view stands = ap (λ (c : Cored). c.failed) view ∙ stands.good

pub stood : (old : Cored) (m : Moment) (n : ℕ) (failed : Bool) → record { moment = m; events = n; failed = failed } ≡ old → failed ≡ false → (old.failed ≡ false → CoreStands old) → CoreStands old
stood old m n failed view off stands = stands (ap (λ (c : Cored). c.failed) (sym view) ∙ off)

-- ---- a core by its parts
module _ (old : Cored) (m : Moment) (n : ℕ) (failed : Bool) (view : record { moment = m; events = n; failed = failed } ≡ old) (off : failed ≡ false) (stands : CoreStands old) where
  own : CoreStands (cored m n)
  own = subst (λ b. CoreStands (record { moment = m; events = n; failed = b })) off (subst CoreStands (sym view) stands)

  module _ (turns : ℕ) (m' : Moment) (before now : Journaled) (few : old.events < 4294967295) (bound : bound_of old.moment < 2 ^ 128) (admitted : refusal old.moment.declared Idle ≡ None) (follow : DeclarationsFollow) (g : Gives (AllHaveDrained m turns m') before now) where
    said : List Line
    said = lines.Bound (bound_of m) ∷ (g.0 ++ lines.Idle turns ∷ [])

    stepped : Gives (HasStepped m Idle turns m') before (flushed (with_lines before said))
    unfolding said
    stepped =
        let h = idle_said m m' (bound_of m) turns g.0 own.stands refl (subst (λ (c : Cored). bound_of c.moment < 2 ^ 128) (sym view) bound) g.2 in
        (said, refl, record { block = h.idles; live = live_state m; after = refl; keeps = h.keeps })

    pub rest_acts : Gives (λ inner. Acts old.moment Idle turns m' (lines.Bound (bound_of old.moment) ∷ (inner ++ lines.Idle turns ∷ []))) before now
    unfolding said stepped
    rest_acts = (
      g.0,
      g.1,
      subst (λ (c : Cored). Acts old.moment Idle turns m' (lines.Bound (bound_of c.moment) ∷ (g.0 ++ lines.Idle turns ∷ []))) view
          (core_acts_by old m n failed view off (λ _. stands) Idle turns m' before (flushed (with_lines before said)) few admitted tt follow stepped),
    )

    pub rest_stands : CoreStands (cored m' (n + 1))
    rest_stands = core_stepped old m n failed view off (λ _. stands) Idle turns m' before (flushed (with_lines before said)) few admitted tt follow stepped

  -- ---- `local6`
  module _ (m' : Moment) (is : m' ≡ spoken m) where
    pub spoken_value : ◌≡◌ {A = Cored} (record { moment = m'; events = n + 1; failed = failed }) (record { moment = spoken old.moment; events = old.events + 1; failed = false })
    spoken_value =
        subst (λ (c : Cored). ◌≡◌ {A = Cored} (record { moment = m'; events = n + 1; failed = failed }) (record { moment = spoken c.moment; events = c.events + 1; failed = false })) view
        (subst (λ x. ◌≡◌ {A = Cored} (record { moment = x; events = n + 1; failed = failed }) (record { moment = spoken m; events = n + 1; failed = false })) (sym is)
        (ap (λ b. record { moment = spoken m; events = n + 1; failed = b }) off))

    pub spoken_stood : old.moment.declared.peers ≡ [] → CoreStands (record { moment = m'; events = n + 1; failed = failed })
    spoken_stood alone =
        subst (λ b. CoreStands (record { moment = m'; events = n + 1; failed = b })) (sym off)
        (subst (λ x. CoreStands (cored x (n + 1))) (sym is) (spoken_core m n own (subst (λ (c : Cored). c.moment.declared.peers ≡ []) (sym view) alone)))

    pub spoken_informed : (contests : Contested) → Informed contests m → Informed contests m'
    spoken_informed contests i = subst (Informed contests) (sym is) (informed_same contests m (spoken m) refl refl refl refl refl i)

-- nothing was declared yet, and messages are read by this profile
pub profiled_informed : (contests : Contested) (m m' : Moment) (profile : Profile) → m' ≡ profiled m profile → Informed contests m → Informed contests m'
profiled_informed contests m m' profile is i = subst (Informed contests) (sym is) (informed_same contests m (profiled m profile) refl refl refl refl refl i)

-- ---- before anything was declared
module _ (v6 : Bool) (profile : Profile) (old : Cored) (m m' : Moment) (n : ℕ) (failed : Bool) (view : record { moment = m; events = n; failed = failed } ≡ old) (fresh : old ≡ record { moment = first_moment v6; events = 0; failed = false }) (is : m' ≡ profiled m profile) where
  pub fresh_value : ◌≡◌ {A = Cored} (record { moment = m'; events = n; failed = failed }) (record { moment = profiled (first_moment v6) profile; events = 0; failed = false })
  fresh_value =
      subst (λ x. ◌≡◌ {A = Cored} (record { moment = x; events = n; failed = failed }) (record { moment = profiled (first_moment v6) profile; events = 0; failed = false })) (sym is)
      (ap (λ (c : Cored). record { moment = profiled c.moment profile; events = c.events; failed = c.failed }) (view ∙ fresh))

  pub fresh_stood : IsProfileOf v6 profile → ANewTreeStands → CoreStands (record { moment = m'; events = n; failed = failed })
  fresh_stood of law = subst CoreStands (sym fresh_value) (fresh_stands v6 profile of law)
