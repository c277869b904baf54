-- What peers of a route reflector are told.
use Rattle.std.proofs.Common.{◌≡◌, ℕ, ◌+◌, List, [], ◌∷◌, Option, Some, None, refl, sym, ap, subst, ◌∙◌}
use Rattle.std.specs.FinMap as tables
use Rattle.bgp_attr.specs.Attributes.{Attrs}
use Rattle.link_change.specs.Rows.{Rows}
use Rattle.journal_text.specs.Lines.{Line}
use Rattle.event_text.specs.Event.{Event}
use Rattle.event_text.specs.declared.event.FileEvent.{FileEvent}
use Rattle.event_text.specs.declared.event.FileEvent.TheVariants.{First, Local6, Second}
use Rattle.event_text.specs.Declarations.{IsDeclaration}
use Rattle.event_text.specs.FileEvents.{file_refusal, IsWellSaid}
use Rattle.journal_laws.specs.FamilyLines.{FamilyLine}
use Rattle.journal_laws.proofs.PrintedPeers.{event_leaves}
use Rattle.live_state.specs.Decided.{best_of, sent_rows}
use Rattle.live_state.specs.Laws.{DeclarationsFollow}
use Rattle.live_state.specs.Reflected.{ReflectionIsMarked}
use Rattle.exit_laws.specs.Views.{views_of}
use Rattle.router_moments.specs.Blocks.{Acts}
use Rattle.router_moments.specs.Laws.{FirstStands}
use Rattle.router_moments.specs.Lives.{live_state}
use Rattle.router_moments.specs.Moments.{Moment}
use Rattle.router.specs.Networks.{Networks, OfSecond, first_networks, second_moment}
use Rattle.router.specs.Told.{told, words6}
use Rattle.router.specs.Steps.{SecondActs, FileActs}
use Rattle.replay.specs.Output.{Step, Run}
use Rattle.replay.specs.Heard.{AreBest}
use Rattle.replay.specs.Reflection.{ReflectedRoutesAreMarked}
use Rattle.replay.proofs.Acted.{of_network}
use Rattle.replay.proofs.Lines.{accepted_is_admitted, accepted_is_said}
use Rattle.replay.proofs.Sound.{MayBeSaid, MayBeSaidIn, AreSound, first_sound, step_sound, told_in, second_in, begins_in}

-- ---- what is declared in each network is what events can have declared
abbrev IsDeclaredIn : Option Moment → Type 0
IsDeclaredIn o = OfSecond (λ n. IsDeclaration n.declared) o

pub record AreDeclared (m : Networks) : Type 0 where
  pub sound : AreSound m
  pub second : IsDeclaredIn m.second

module _ (follow : DeclarationsFollow) where
  acts_declared : (m m' : Moment) (event : Event) (turns : ℕ) (said : List Line) → IsDeclaration m.declared → MayBeSaid m.declared event → Acts m event turns m' said → IsDeclaration m'.declared
  acts_declared m m' event turns said declared may acts =
      subst IsDeclaration (sym (follow (live_state m) event (live_state m') acts.live)) (event_leaves m.declared event declared may.admitted may.formed).declared

  second_declared : (o o' : Option Moment) (event : Event) (turns : ℕ) (said : List Line) → IsDeclaredIn o → MayBeSaidIn o event → SecondActs o event turns o' said → IsDeclaredIn o'
  second_declared o None event turns said declared may acts = tt
  second_declared None (Some m') event turns said declared may acts = absurd (let clash : ◌≡◌ {A = Option Moment} (Some m') None = acts.1 in cc)
  second_declared (Some m) (Some m') event turns said declared may acts = acts_declared m m' event turns said declared may acts

  file_declared : (m m' : Networks) (event : FileEvent) (turns : ℕ) (said : List FamilyLine) → AreDeclared m → file_refusal m.first.declared event ≡ None → IsWellSaid m.first.declared.profile event → FileActs m event turns m' said → IsDeclaredIn m'.second
  file_declared m m' (First event) turns said are admitted words acts =
      second_declared m.second m'.second (told m.first.declared event) acts.taken6 acts.inner6 are.second (told_in m event are.sound admitted words) acts.second
  file_declared m m' (Local6 addr) turns said are admitted words acts =
      second_declared (Some (second_moment m.first.declared.profile)) m'.second (words6 addr m.first.declared.speaker) 0 acts.1.inner6 refl (begins_in m addr are.sound admitted words) acts.1.begins
  file_declared m m' (Second event) turns said are admitted words acts =
      second_declared m.second m'.second event acts.taken6 acts.inner6 are.second (second_in m event are.sound admitted words) acts.second

  step_declared : (n : ℕ) (m next : Networks) (line : List ℕ) (said : List FamilyLine) → AreDeclared m → Step n m line said next → AreDeclared next
  step_declared n m next line said are step = record {
    sound = step_sound n m next line said are.sound step;
    second = file_declared m next step.event step.turns said are (accepted_is_admitted n m.first.declared line step.event step.accepted) (accepted_is_said n m.first.declared line step.event step.accepted) step.acts;
  }

  run_declared : (n : ℕ) (m end : Networks) (lines : List (List ℕ)) (out : List FamilyLine) → AreDeclared m → Run n m lines out end → AreDeclared end
  run_declared n m end [] out are run = subst AreDeclared (sym run.1) are
  run_declared n m end (line ∷ lines) out are run = run_declared (n + 1) run.2 end lines run.1 (step_declared n m run.2 line run.0 are run.3) run.5

  -- ---- the theorem
  pub reflected_routes_are_marked : FirstStands → ReflectionIsMarked → ReflectedRoutesAreMarked
  reflected_routes_are_marked stand law lines out m run n line said next step idle v6 at is me j to speaker there up p sent has =
      let before = run_declared 1 first_networks m lines out (record { sound = first_sound stand; second = tt }) run in
      let after = step_declared n m next line said before step in
      let declared : IsDeclaration at.declared = of_network (λ v6 n. IsDeclaration n.declared) v6 next at (after.sound.declared, after.second) is in
      let best : AreBest (live_state at) (views_of at.exits) = of_network (λ v6 n. AreBest (live_state n) (views_of n.exits)) v6 next at (step.best idle) is in
      let rows = best me j to speaker there up in
      let here : tables.get (views_of at.exits j) p ≡ sent_rows at.declared.profile me to.words ((live_state at).outgoing j) (best_of (live_state at)) p = ap (λ (r : Rows Attrs). r p) rows in
      law (live_state at) j me to p sent declared speaker there (sym here ∙ has)
