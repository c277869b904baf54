-- What turns and blocks do leaves no choice: given the moment before, what is said, how many turns are taken, and the moment after are one.
use Rattle.std.specs.Prelude.{◌≡◌, ℕ, true, List}
use Rattle.addr4.specs.Prefixes.{AddressPrefix}
use Rattle.link_change.specs.Rows.{Rows}
use Rattle.journal_text.specs.Lines.{Line}
use Rattle.journal_text.specs.declared.link.Task.{Task}
use Rattle.journal_text.specs.Lines.{Value}
use Rattle.event_text.specs.Event.{Event}
use Rattle.event_text.specs.WellFormed.{IsWellFormed}
use Rattle.router_moments.specs.declared.tasks.Phase.{Phase}
use Rattle.router_moments.specs.Moments.{Moment}
use Rattle.router_moments.specs.Stands.{Stands}
use Rattle.router_moments.specs.Turns.{IsTurn, Drains, RunsPhase, RunsAll, has_work}
use Rattle.router_moments.specs.Blocks.{IsBlock, AreRows}

-- A turn of a task is one,
abbrev pub TurnIsOne : Type 0
TurnIsOne = (task : Task) (m one other : Moment) (said more : List Line) → Stands m → IsTurn task m said one → IsTurn task m more other → (said ≡ more) × (one ≡ other)

-- and is taken only where the task has work.
abbrev pub TurnsHaveWork : Type 0
TurnsHaveWork = (task : Task) (m m' : Moment) (said : List Line) → IsTurn task m said m' → has_work task m ≡ true

-- So is a task that runs to its end, and how many turns that takes,
abbrev pub DrainIsOne : Type 0
DrainIsOne =
    (task : Task) (m one other : Moment) (said more : List Line) (turns count : ℕ) → Stands m → Drains task m said turns one → Drains task m more count other
    → (turns ≡ count) × (said ≡ more) × (one ≡ other)

-- a phase,
abbrev pub PhaseIsOne : Type 0
PhaseIsOne =
    (phase : Phase) (m one other : Moment) (said more : List Line) (turns count : ℕ) → Stands m → RunsPhase phase m said turns one → RunsPhase phase m more count other
    → (turns ≡ count) × (said ≡ more) × (one ≡ other)

-- and one phase after the other.
abbrev pub PhasesAreOne : Type 0
PhasesAreOne =
    (phases : List Phase) (m one other : Moment) (said more : List Line) (turns count : ℕ) → Stands m → RunsAll phases m said turns one → RunsAll phases m more count other
    → (turns ≡ count) × (said ≡ more) × (one ≡ other)

-- What an event does is one.
abbrev pub BlockIsOne : Type 0
BlockIsOne =
    (m one other : Moment) (event : Event) (said more : List Line) (turns count : ℕ) → Stands m → IsWellFormed m.declared.v6 m.declared.profile event
    → IsBlock m event said turns one → IsBlock m event more count other → (said ≡ more) × (turns ≡ count) × (one ≡ other)

-- The rows of a link, by prefix, are one list.
abbrev pub ListingIsOne : Type 0
ListingIsOne = (rows : Rows Value) (one other : List (AddressPrefix × Value)) → AreRows rows one → AreRows rows other → one ≡ other
