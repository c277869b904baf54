-- Laws of files with words of IPv6, for the crates above.
use Rattle.std.specs.Prelude.{◌≡◌, ℕ, List, Ok}
use Rattle.bgp_attr.specs.declared.speaker.Profile.{Profile}
use Rattle.event_text.specs.Event.{Event}
use Rattle.event_text.specs.declared.event.FileEvent.TheVariants.{First}
use Rattle.event_text.specs.Events.{read_event}
use Rattle.event_text.specs.Declarations.{Declaration, refusal}
use Rattle.event_text.specs.FileEvents.{read_file, file_refusal}

-- What a line says by IPv4's words alone, it says in a file.
abbrev pub Ipv4LinesStay : Type 0
Ipv4LinesStay = (profile : Profile) (line : List ℕ) (event : Event) → read_event profile line ≡ Ok event → read_file profile line ≡ Ok (First event)

-- It is refused where it was, by the same code.
abbrev pub Ipv4LinesMayStay : Type 0
Ipv4LinesMayStay = (d : Declaration) (event : Event) → file_refusal d (First event) ≡ refusal d event
