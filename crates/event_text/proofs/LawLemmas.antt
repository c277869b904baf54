-- Lines of IPv4 in files with words of IPv6.
use Rattle.std.proofs.Common.{◌≡◌, Bool, true, false, Option, Some, None, Result, Ok, Err, cond, refl, ap}
use Rattle.journal_text.specs.declared.line.Code.{Code}
use Rattle.journal_text.specs.declared.line.Code.TheVariants.{E1}
use Rattle.policy_rules.specs.Words.{words}
use Rattle.event_text.specs.Event.{Event}
use Rattle.event_text.specs.declared.event.FileEvent.{FileEvent}
use Rattle.event_text.specs.declared.event.FileEvent.TheVariants.{First}
use Rattle.event_text.specs.Words.{is_clean}
use Rattle.event_text.specs.Events.{event_of, in_grammar, read_event}
use Rattle.event_text.specs.FileEvents.{second_of, first_or, in_language, read_file, file_refusal}
use Rattle.event_text.specs.FileLaws.{Ipv4LinesStay, Ipv4LinesMayStay}

same_event : (a b : Event) → ◌≡◌ {A = Result Event Code} (Ok a) (Ok b) → a ≡ b
same_event a b e = cc

said_first : (clean : Bool) (o : Option Event) (otherwise : Option FileEvent) (event : Event) → cond clean (in_grammar o) (Err E1) ≡ Ok event → cond clean (in_language (first_or o otherwise)) (Err E1) ≡ Ok (First event)
said_first true (Some e) otherwise event is = ap (λ (x : Event). Ok (First x)) (same_event e event is)
said_first true None otherwise event is = absurd (cc)
said_first false o otherwise event is = absurd (cc)

pub ipv4_lines_stay : Ipv4LinesStay
unfolding read_event read_file
ipv4_lines_stay profile line event is = said_first (is_clean line) (event_of profile (words line)) (second_of profile (words line)) event is

pub ipv4_lines_may_stay : Ipv4LinesMayStay
unfolding file_refusal
ipv4_lines_may_stay d event = refl
