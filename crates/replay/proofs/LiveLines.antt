-- What is live is what the lines' events make of nothing.
use Rattle.std.proofs.Common.{◌≡◌, ℕ, ◌+◌, true, false, List, [], ◌∷◌, Option, Some, None, ap, subst}
use Rattle.std.specs.Prelude.{option_map}
use Rattle.journal_text.specs.Lines.{Line}
use Rattle.event_text.specs.Event.{Event}
use Rattle.event_text.specs.declared.event.FileEvent.{FileEvent}
use Rattle.event_text.specs.declared.event.FileEvent.TheVariants.{First, Local6, Second}
use Rattle.event_text.specs.Declarations.{Declaration, no_declaration, with_profile}
use Rattle.event_text.specs.FileEvents.{with_ipv6}
use Rattle.journal_laws.specs.FamilyLines.{FamilyLine}
use Rattle.live_state.specs.Lives.{LiveState}
use Rattle.router_moments.specs.Lives.{live_state}
use Rattle.router_moments.specs.Moments.{Moment}
use Rattle.router_moments.proofs.FirstLives.{live_at_first}
use Rattle.router.specs.Ties.{in_second}
use Rattle.router.specs.Networks.{Networks, first_networks, second_moment}
use Rattle.router.specs.Told.{Lives, LivesAfter, SecondLiveAfter, first_lives, second_live, told, words6}
use Rattle.router.specs.Steps.{SecondActs, FileActs}
use Rattle.replay.specs.Output.{Run, LiveThrough, lives_of}

-- the second network
second_lives : (o o' : Option Moment) (event : Event) (turns : ℕ) (said : List Line) → SecondActs o event turns o' said → SecondLiveAfter (option_map live_state o) event (option_map live_state o')
second_lives None o' event turns said acts = ap (option_map live_state) acts.1
second_lives (Some m) None event turns said acts = absurd acts
second_lives (Some m) (Some m') event turns said acts = acts.live

-- as it begins
second_at_first : (d : Declaration) → live_state (second_moment d.profile) ≡ second_live d
second_at_first d = ap (λ (l : LiveState). record l { declared = with_profile (no_declaration true) (in_second (with_ipv6 d.profile)) }) (live_at_first true)

file_lives : (m m' : Networks) (event : FileEvent) (turns : ℕ) (said : List FamilyLine) → FileActs m event turns m' said → LivesAfter (lives_of m) event (lives_of m')
file_lives m m' (First event) turns said acts = (acts.first.live, second_lives m.second m'.second (told m.first.declared event) acts.taken6 acts.inner6 acts.second)
file_lives m m' (Local6 addr) turns said acts = (
  ap live_state acts.1.first,
  subst (λ (l : LiveState). SecondLiveAfter (Some l) (words6 addr m.first.declared.speaker) (option_map live_state m'.second)) (second_at_first m.first.declared)
      (second_lives (Some (second_moment m.first.declared.profile)) m'.second (words6 addr m.first.declared.speaker) 0 acts.1.inner6 acts.1.begins),
)
file_lives m m' (Second event) turns said acts = (acts.first.live, second_lives m.second m'.second event acts.taken6 acts.inner6 acts.second)

run_lives : (n : ℕ) (m : Networks) (lines : List (List ℕ)) (out : List FamilyLine) (end : Networks) → Run n m lines out end → LiveThrough n (lives_of m) lines (lives_of end)
run_lives n m [] out end run = ap lives_of run.1
run_lives n m (line ∷ lines) out end run = (run.3.event, lives_of run.2, run.3.accepted, file_lives m run.2 run.3.event run.3.turns run.0 run.3.acts, run_lives (n + 1) run.2 lines run.1 end run.5)

at_first : lives_of first_networks ≡ first_lives
at_first i = record { first = live_at_first false i; second = None }

pub lives_through : (lines : List (List ℕ)) (out : List FamilyLine) (end : Networks) → Run 1 first_networks lines out end → LiveThrough 1 first_lives lines (lives_of end)
lives_through lines out end run = subst (λ (live : Lives). LiveThrough 1 live lines (lives_of end)) at_first (run_lives 1 first_networks lines out end run)
