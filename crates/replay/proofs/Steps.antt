-- Lines that were stepped, and the text of a journal.
use Rattle.std.proofs.Common.{◌≡◌, ℕ, Bool, true, false, List, ◌∷◌, ◌++◌, [], Option, Some, None, Ok, refl, sym, ap, ◌∙◌, append_assoc}
use Rattle.std.specs.Prelude.{option_map}
use Rattle.std.proofs.lemmas.List.{append-nil}
use Rattle.journal_text.specs.declared.line.Code.{Code}
use Rattle.journal_text.specs.Lines.{Line}
use Rattle.journal_text.specs.declared.line.Line.TheVariants.{Refused}
use Rattle.journal_text.specs.Lines.{Value}
use Rattle.journal_text.specs.Journals.{Journaled, with_lines}
use Rattle.journal_text.specs.Texts as texts
use Rattle.journal_text.specs.Texts.{line_text}
use Rattle.journal_text.specs.Walk.{LeadsOn}
use Rattle.event_text.specs.declared.event.FileEvent.{FileEvent}
use Rattle.event_text.specs.declared.event.FileEvent.TheVariants.{First, Local6, Second}
use Rattle.event_text.specs.declared.event.Event.TheVariants.{Nothing}
use Rattle.journal_laws.specs.FamilyLines.{FamilyLine, text_of}
use Rattle.router_moments.specs.Moments.{Moment, Cored}
use Rattle.router_moments.specs.Stands.{Stands, CoreStands}
use Rattle.router_moments.specs.Lives.{live_state}
use Rattle.router_moments.specs.Scratch.{IsExactAtRest, IsExact}
use Rattle.live_state.specs.Laws.{DeclarationsFollow}
use Rattle.exit_laws.specs.Laws.{HearingJoins, HearingStays, HeardIsSent}
use Rattle.exit_laws.specs.Views.{views_of}
use Rattle.router.specs.Networks.{Networks, Routed, RouterStands, OfSecond, OfEach, IsTiedTo, IsSecondOf, KnowTheSame, moment_of, networks_of}
use Rattle.router.specs.Told.{declared_behind}
use Rattle.router.specs.Steps.{FileActs, GivesBoth}
use Rattle.replay.specs.Heard.{AreSent, AreBest}
use Rattle.replay.specs.Judging.{judge}
use Rattle.replay.specs.Output.{AllStand, AllAreSent}
use Rattle.replay.specs.Stream.{StepsLine, made}
use Rattle.replay.proofs.Acted.{NetworksMove, file_moves}
use Rattle.replay.proofs.HeardLemmas.{are_sent, are_best, networks_hear}
use Rattle.replay.proofs.Journals.{journals_lead}
use Rattle.replay.proofs.Lines.{accepted_is_admitted}
use Rattle.replay.proofs.SettledLinks.{IsIdled, all_idled}

-- ---- the text
-- a journal with more lines
pub made_more : (j : Journaled) (lines : List Line) → made (with_lines j lines) ≡ made j ++ texts.text_of j.v6 j.quiet lines
made_more j lines = sym (append_assoc j.text j.pending (texts.text_of j.v6 j.quiet lines))

-- that a line is refused is said in quiet, too
refused_text : (v6 quiet : Bool) (n : ℕ) (code : Code) → texts.text_of v6 quiet (Refused n code ∷ []) ≡ line_text v6 (Refused n code)
refused_text v6 true n code = append-nil _
refused_text v6 false n code = append-nil _

-- a line was refused, which either family's text says alike
same_text : (v6 : Bool) (n : ℕ) (code : Code) → line_text v6 (Refused n code) ≡ line_text false (Refused n code)
unfolding line_text
same_text v6 n code = refl

pub made_refused : (j : Journaled) (n : ℕ) (code : Code) → made (with_lines j (Refused n code ∷ [])) ≡ made j ++ line_text false (Refused n code)
made_refused j n code = made_more j (Refused n code ∷ []) ∙ ap (λ t. made j ++ t) (refused_text j.v6 j.quiet n code ∙ same_text j.v6 n code)

-- lines of both networks were given
made_both : (j : Journaled) (said : List FamilyLine) → made (record j { text = j.text ++ (j.pending ++ text_of j.quiet said); pending = [] }) ≡ made j ++ text_of j.quiet said
made_both j said = append-nil _ ∙ sym (append_assoc j.text j.pending (text_of j.quiet said))

-- ---- what stands between two calls
second_by : (P : Moment → Type 0) → ((c : Cored) → CoreStands c → P c.moment) → (first : Cored) (o : Option Cored) → IsSecondOf first o → OfSecond P (option_map moment_of o)
second_by P each first None is = tt
second_by P each first (Some c) is = each c is.stands

pub each_core : (P : Moment → Type 0) → ((c : Cored) → CoreStands c → P c.moment) → (r : Routed) → RouterStands r → OfEach (λ v6. P) (networks_of r)
each_core P each r stands = (each r.first stands.both.stands, second_by P each r.first r.second stands.both.behind)

all_stand : (r : Routed) → RouterStands r → AllStand (networks_of r)
all_stand r stands = each_core Stands (λ c is. is.stands) r stands

all_sent : HeardIsSent → (r : Routed) → RouterStands r → AllAreSent (networks_of r)
all_sent law r stands = each_core (λ m. AreSent m (views_of m.exits)) (λ c is. are_sent law c.moment is.stands is.exits) r stands

tied_by : (first : Cored) (o : Option Cored) → IsSecondOf first o → IsTiedTo first.moment (option_map moment_of o)
tied_by first None is = is
tied_by first (Some c) is = is.tied

know_the_same : (r : Routed) → RouterStands r → KnowTheSame (networks_of r)
know_the_same r stands = record { family = stands.both.family; tied = tied_by r.first r.second stands.both.behind }

-- ---- a line's event was stepped
-- what is declared then
pub declared_then : DeclarationsFollow → (m m' : Networks) (event : FileEvent) (turns : ℕ) (said : List FamilyLine) → FileActs m event turns m' said → m'.first.declared ≡ declared_behind m.first.declared event
declared_then follow m m' (First event) turns said acts = follow (live_state m.first) event (live_state m'.first) acts.first.live
declared_then follow m m' (Local6 addr) turns said acts = ap (λ (n : Moment). n.declared) acts.1.first
declared_then follow m m' (Second event) turns said acts = follow (live_state m.first) Nothing (live_state m'.first) acts.first.live

-- of each network by what is known of each
of_each : (P Q : Moment → Type 0) → ((m : Moment) → P m → Q m) → (m : Networks) → OfEach (λ v6. P) m → OfEach (λ v6. Q) m
of_each P Q so m each = (so m.first each.0, by m.second each.1)
  where
    by : (o : Option Moment) → OfSecond P o → OfSecond Q o
    by None holds = tt
    by (Some n) holds = so n holds

both_of : (P Q : Moment → Type 0) (m : Networks) → OfEach (λ v6. P) m → OfEach (λ v6. Q) m → OfEach (λ v6 n. P n × Q n) m
both_of P Q m f g = ((f.0, g.0), by m.second f.1 g.1)
  where
    by : (o : Option Moment) → OfSecond P o → OfSecond Q o → OfSecond (λ n. P n × Q n) o
    by None p q = tt
    by (Some n) p q = (p, q)

abbrev IsSent : Moment → Type 0
IsSent m = AreSent m (views_of m.exits)

all_best : (m : Networks) → AllAreSent m → OfEach (λ v6. IsIdled) m → OfEach (λ v6 n. AreBest (live_state n) (views_of n.exits)) m
all_best m sent idled = of_each (λ n. IsSent n × IsIdled n) (λ n. AreBest (live_state n) (views_of n.exits)) (λ n both. are_best n both.0 both.1.exact) m (both_of IsSent IsIdled m sent idled)

pub steps_line : (n : ℕ) (old new : Routed) (line : List ℕ) (event : FileEvent) (turns : ℕ) (before now : Journaled) → judge n old.first.moment.declared line ≡ Ok event → RouterStands old
    → GivesBoth (FileActs (networks_of old) event turns (networks_of new)) before now → RouterStands new → OfEach (λ v6. IsExactAtRest) (networks_of new) → DeclarationsFollow → LeadsOn Value
    → HearingJoins → HearingStays → HeardIsSent → StepsLine before.quiet n (networks_of old) line (made before) (made now) (networks_of new) turns
steps_line n old new line event turns before now accepted stood gives stands rest follow join joins stays law = record {
  said = gives.0;
  step = record {
    event = event;
    turns = turns;
    accepted = accepted;
    acts = gives.2;
    declared = declared_then follow (networks_of old) (networks_of new) event turns gives.0 gives.2;
    same = know_the_same new stands;
    rest = rest;
    idle = λ is. of_each IsIdled IsExact (λ m idled. idled.exact) (networks_of new) (all_idled (networks_of old) (networks_of new) event turns gives.0 gives.2 is);
    sent = all_sent law new stands;
    best = λ is. all_best (networks_of new) (all_sent law new stands) (all_idled (networks_of old) (networks_of new) event turns gives.0 gives.2 is);
  };
  took = refl;
  leads = λ earlier before. journals_lead join earlier gives.0 (networks_of old) (networks_of new) moves before;
  hears = λ earlier lead before. networks_hear joins stays (networks_of old) (networks_of new) earlier gives.0 moves lead before;
  stands = all_stand new stands;
  written = ap made gives.1 ∙ made_both before gives.0;
}
  where
    moves : NetworksMove (networks_of old) gives.0 (networks_of new)
    moves = file_moves (networks_of old) (networks_of new) event turns gives.0 (all_stand old stood) (accepted_is_admitted n old.first.moment.declared line event accepted) gives.2
