-- What an event of a file does to both networks, and the lines that it gives.
use Rattle.std.specs.Prelude.{◌≡◌, ℕ, ◌+◌, ◌<◌, ◌^◌, Bool, true, false, List, [], ◌∷◌, ◌++◌, Option, Some, None}
use Rattle.journal_text.specs.Lines.{Line}
use Rattle.journal_text.specs.declared.line.Line.TheVariants as lines
use Rattle.journal_text.specs.Journals.{Journaled}
use Rattle.journal_text.specs.Texts.{text_of as family_text}
use Rattle.event_text.specs.Event.{Event}
use Rattle.event_text.specs.declared.event.Event.TheVariants.{Nothing, Idle}
use Rattle.event_text.specs.declared.event.FileEvent.{FileEvent}
use Rattle.event_text.specs.declared.event.FileEvent.TheVariants.{First, Local6, Second}
use Rattle.event_text.specs.Declarations.{refusal}
use Rattle.event_text.specs.WellFormed.{IsWellFormed}
use Rattle.journal_laws.specs.FamilyLines.{FamilyLine, of_family, text_of}
use Rattle.router_moments.specs.Moments.{Moment, Cored, spoken}
use Rattle.router_moments.specs.Blocks.{Acts}
use Rattle.router.specs.Networks.{Networks, second_moment}
use Rattle.router.specs.Told.{told, words6}

-- ---- lines
-- the lines of an idle of one network, around what it did
abbrev pub idle_lines : ℕ → List Line → ℕ → List Line
idle_lines bound inner turns = lines.Bound bound ∷ (inner ++ lines.Idle turns ∷ [])

-- What they announce, did and count; there are none where the network isn't there.
abbrev pub CountsIdle : List Line → ℕ → List Line → ℕ → Type 0
CountsIdle [] bound inner turns = (bound ≡ 0) × (inner ≡ []) × (turns ≡ 0)
CountsIdle (line ∷ more) bound inner turns = line ∷ more ≡ idle_lines bound inner turns

-- An idle of both announces the sum of both bounds, then the first network does its work, then the second, and the sum of their turns ends it.
pub record JoinsIdles (said said6 : List Line) (all : List FamilyLine) : Type 0 where
  pub bound : ℕ
  pub bound6 : ℕ
  pub inner : List Line
  pub inner6 : List Line
  pub turns : ℕ
  pub turns6 : ℕ
  pub counts : CountsIdle said bound inner turns
  pub counts6 : CountsIdle said6 bound6 inner6 turns6
  pub lines : all ≡ of_family false (lines.Bound (bound + bound6) ∷ inner) ++ (of_family true inner6 ++ of_family false (lines.Idle (turns + turns6) ∷ []))
  pub fits : bound + bound6 < 2 ^ 128

-- the lines of the first network, then those of the second
abbrev pub OneBehindOther : List Line → List Line → List FamilyLine → Type 0
OneBehindOther said said6 all = all ≡ of_family false said ++ of_family true said6

-- an idle is joined by its sums, all else as it is
abbrev pub is_idle : Event → Bool
is_idle Idle = true
is_idle other = false

abbrev pub AreJoined : Bool → List Line → List Line → List FamilyLine → Type 0
AreJoined true said said6 all = JoinsIdles said said6 all
AreJoined false said said6 all = OneBehindOther said said6 all

-- ---- what an event does
-- in the second network, where it is there
abbrev pub SecondActs : Option Moment → Event → ℕ → Option Moment → List Line → Type 0
SecondActs None event turns m' said = (turns ≡ 0) × (m' ≡ None) × (said ≡ [])
SecondActs (Some m) event turns None said = ⊥
SecondActs (Some m) event turns (Some m') said = Acts m event turns m' said

-- in both: the one is told this event, and the other that one
pub record BothAct (m : Networks) (event event6 : Event) (turns : ℕ) (m' : Networks) (said : List FamilyLine) : Type 0 where
  pub inner : List Line
  pub inner6 : List Line
  pub taken : ℕ
  pub taken6 : ℕ
  pub first : Acts m.first event taken m'.first inner
  pub second : SecondActs m.second event6 taken6 m'.second inner6
  pub sum : turns ≡ taken + taken6
  pub joined : AreJoined (is_idle event) inner inner6 said

-- `local6`: the first network speaks IPv6 from now on, and the second begins with this speaker's words
pub record SecondBegins (m : Networks) (addr : ℕ) (m' : Networks) (said : List FamilyLine) : Type 0 where
  pub none : m.second ≡ None
  pub first : m'.first ≡ spoken m.first
  pub inner6 : List Line
  pub begins : SecondActs (Some (second_moment m.first.declared.profile)) (words6 addr m.first.declared.speaker) 0 m'.second inner6
  pub lines : said ≡ of_family true inner6

abbrev pub FileActs : Networks → FileEvent → ℕ → Networks → List FamilyLine → Type 0
FileActs m (First event) turns m' said = BothAct m event (told m.first.declared event) turns m' said
FileActs m (Local6 addr) turns m' said = (turns ≡ 0) × SecondBegins m addr m' said
FileActs m (Second event) turns m' said = BothAct m Nothing event turns m' said

-- these lines of both networks were given, in the text of the journal, and this is said of them
abbrev pub GivesBoth : (List FamilyLine → Type 0) → Journaled → Journaled → Type 0
GivesBoth P before now =
    (said : List FamilyLine) × (now ≡ record before { text = before.text ++ (before.pending ++ text_of before.quiet said); pending = [] }) × P said

-- these lines of the second network were given behind the text of the journal, and this is said of them
abbrev pub GivesSecond : (List Line → Type 0) → Journaled → Journaled → Type 0
GivesSecond P before now =
    (said : List Line) × (now ≡ record before { text = before.text ++ (before.pending ++ family_text true before.quiet said); pending = [] }) × P said

-- an event may stand behind what the core knows of what was declared
abbrev pub MayStep : Event → Cored → Type 0
MayStep event c = (refusal c.moment.declared event ≡ None) × IsWellFormed c.moment.declared.v6 c.moment.declared.profile event

abbrev pub IsFew : Cored → Type 0
IsFew c = c.events < 4294967295
