-- What a run writes.
use Rattle.std.specs.Prelude.{◌≡◌, ℕ, ◌+◌, ◌-◌, ◌⊎◌, Bool, true, false, List, [], ◌∷◌, ◌++◌, take, None, Some, option_map, Ok}
use Rattle.journal_text.specs.declared.line.Code.{Code}
use Rattle.journal_text.specs.declared.line.Line.TheVariants.{Refused}
use Rattle.journal_text.specs.Texts.{line_text}
use Rattle.journal_text.specs.Walk.{Leads, no_links}
use Rattle.event_text.specs.declared.event.FileEvent.{FileEvent}
use Rattle.event_text.specs.declared.event.FileEvent.TheVariants.{First}
use Rattle.event_text.specs.declared.event.Event.TheVariants.{Idle}
use Rattle.journal_laws.specs.FamilyLines.{FamilyLine, lines_in, family_entries, text_of}
use Rattle.router_moments.specs.Moments.{router_links}
use Rattle.router_moments.specs.Stands.{Stands}
use Rattle.router_moments.specs.Scratch.{IsExact, IsExactAtRest}
use Rattle.router.specs.Networks.{Networks, OfEach, KnowTheSame, first_networks}
use Rattle.router.specs.Told.{Lives, LivesAfter, first_lives, declared_behind}
use Rattle.router.specs.Steps.{FileActs}
use Rattle.exit_laws.specs.Views.{views_of}
use Rattle.router_moments.specs.Lives.{live_state}
use Rattle.replay.specs.Judging.{judge, verdict}
use Rattle.replay.specs.Heard.{AreHeard, AreSent, AreBest}
use Rattle.check_run.specs.Lines.{AreEnded, lines_of}

-- what is live in both networks
abbrev pub lives_of : Networks → Lives
lives_of m = record { first = live_state m.first; second = option_map live_state m.second }

-- Line n is accepted, and its event acts as it is defined to: this is said, and leads from one moment of both networks to the next.
pub record Step (n : ℕ) (m : Networks) (line : List ℕ) (said : List FamilyLine) (next : Networks) : Type 0 where
  pub event : FileEvent
  pub turns : ℕ
  pub accepted : judge n m.first.declared line ≡ Ok event
  pub acts : FileActs m event turns next said
  pub declared : next.first.declared ≡ declared_behind m.first.declared event
  pub same : KnowTheSame next
  -- at each prefix, each link of either network that no work holds up there has the row that the live state of that network alone asks
  -- for, and after an idle every link is what it asks for
  pub rest : OfEach (λ v6. IsExactAtRest) next
  pub idle : event ≡ First Idle → OfEach (λ v6. IsExact) next
  -- what each peer has heard of each family are the rows of that network's `adv.J.S`, and after an idle what its live state alone asks for
  pub sent : OfEach (λ v6 n. AreSent n (views_of n.exits)) next
  pub best : event ≡ First Idle → OfEach (λ v6 n. AreBest (live_state n) (views_of n.exits)) next

-- Lines from number n on are accepted and stepped, and this is said, from one moment to another.
abbrev pub Run : ℕ → Networks → List (List ℕ) → List FamilyLine → Networks → Type 0
Run n m [] out end = (out ≡ []) × (end ≡ m)
Run n m (line ∷ lines) out end = (said rest : List FamilyLine) × (next : Networks) × Step n m line said next × (out ≡ said ++ rest) × Run (n + 1) next lines rest end

-- The same, and their events took so many turns: `work` and `idle` take some, all others none.
abbrev pub RunIn : ℕ → Networks → List (List ℕ) → List FamilyLine → Networks → ℕ → Type 0
RunIn n m [] out end turns = (out ≡ []) × (end ≡ m) × (turns ≡ 0)
RunIn n m (line ∷ lines) out end turns =
    (said rest : List FamilyLine) × (next : Networks) × (more : ℕ) × (step : Step n m line said next) × (out ≡ said ++ rest) × (turns ≡ step.turns + more)
    × RunIn (n + 1) next lines rest end more

-- What the events of lines from number n on, each of which is accepted, make of what is live, one after the other. No work is named
-- here, and no moment: the lines alone say it.
abbrev pub LiveThrough : ℕ → Lives → List (List ℕ) → Lives → Type 0
LiveThrough n live [] end = end ≡ live
LiveThrough n live (line ∷ lines) end =
    (event : FileEvent) × (next : Lives) × (judge n live.first.declared line ≡ Ok event) × LivesAfter live event next × LiveThrough (n + 1) next lines end

-- The journal of each family among the lines leads from no link at all to the links of its network; before `local6` nothing is said of IPv6.
pub record JournalsLead (out : List FamilyLine) (m : Networks) : Type 0 where
  pub each : OfEach (λ v6 n. Leads no_links (family_entries v6 out) (router_links n)) m
  pub none : m.second ≡ None → lines_in true out ≡ []

-- what peers hear in the lines of each family leads to what each was sent of it
abbrev pub AllAreHeard : List FamilyLine → Networks → Type 0
AllAreHeard out m = OfEach (λ v6. AreHeard (lines_in v6 out)) m

abbrev pub AllAreSent : Networks → Type 0
AllAreSent m = OfEach (λ v6 n. AreSent n (views_of n.exits)) m

abbrev pub AllStand : Networks → Type 0
AllStand m = OfEach (λ v6. Stands) m

-- An allowed output for lines that are all accepted. The journal of each family obeys the rules, from no link at all to the links at
-- the end. What is live then in each network is what the events of the lines make of nothing, whatever work was done. What each peer hears
-- of each family, by the octets that it is sent, are at the end the rows of that network's `adv.J.S`. Where the output is quiet, the
-- journal's lines aren't printed.
pub record IsOutput (quiet : Bool) (lines : List (List ℕ)) (bytes : List ℕ) : Type 0 where
  pub out : List FamilyLine
  pub end : Networks
  pub run : Run 1 first_networks lines out end
  pub lawful : JournalsLead out end
  pub live : LiveThrough 1 first_lives lines (lives_of end)
  pub heard : AllAreHeard out end
  pub sent : AllAreSent end
  pub stands : AllStand end
  pub text : bytes ≡ text_of quiet out

-- An allowed output that leads to this moment, in so many turns.
pub record IsOutputTo (quiet : Bool) (lines : List (List ℕ)) (bytes : List ℕ) (m : Networks) (turns : ℕ) : Type 0 where
  pub output : IsOutput quiet lines bytes
  pub at : output.end ≡ m
  pub taken : RunIn 1 first_networks lines output.out output.end turns

-- The output for a text with a refused line: an allowed one for the lines before it, and then that it is refused.
pub record IsRefusedOutput (quiet : Bool) (text bytes : List ℕ) : Type 0 where
  pub number : ℕ
  pub code : Code
  pub refused : verdict text ≡ Some (number, code)
  pub earlier : List ℕ
  pub output : IsOutput quiet (take (number - 1) (lines_of text)) earlier
  pub written : bytes ≡ earlier ++ line_text false (Refused number code)

-- An allowed output for some first lines of the text, which are all accepted.
pub record IsOutputOfFront (quiet : Bool) (text bytes : List ℕ) : Type 0 where
  pub count : ℕ
  pub output : IsOutput quiet (take count (lines_of text)) bytes

-- A front of what may be written for the text.
pub record IsFrontOfOutput (quiet : Bool) (text bytes : List ℕ) : Type 0 where
  pub whole : List ℕ
  pub rest : List ℕ
  pub front : whole ≡ bytes ++ rest
  pub allowed : IsOutputOfFront quiet text whole ⊎ IsRefusedOutput quiet text whole

-- an allowed output of the lines that have ended in what was read
pub record IsOutputOfEnded (quiet : Bool) (read bytes : List ℕ) : Type 0 where
  pub lines : List (List ℕ)
  pub ended : AreEnded 16386 read lines
  pub output : IsOutput quiet lines bytes
