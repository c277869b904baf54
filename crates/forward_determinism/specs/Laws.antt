-- Laws that the steps of the RIB's exit, and what is written for tables, leave no choice.
use Rattle.std.specs.Prelude.{◌≡◌, true, List, map, Option, Some, IsSome}
use Rattle.std.specs.List.{Contains, AllByRecursion}
use Rattle.std.specs.List.Sorted.{IsStrictlySortedBy}
use Rattle.addr4.specs.Prefixes.{AddressPrefix, prefix_cmp}
use Rattle.bgp_attr.specs.Routes.{Route}
use Rattle.link_change.specs.Rows.{Rows}
use Rattle.link_change.specs.Changes.{IsSent}
use Rattle.link_change.specs.Changes.{Change}
use Rattle.rib_route.specs.Rows.{Interior}
use Rattle.rib_route.specs.Rows.{External}
use Rattle.rib_route.specs.Rows.{FibRow}
use Rattle.register_interest.specs.Interests.{Interest}
use Rattle.register_interest.specs.Registers.{Registry}
use Rattle.rib_split.specs.Splits.{Split}
use Rattle.rib_split.specs.Splitting.{Parted, Splits}
use Rattle.journal_text.specs.Lines.{Entry}
use Rattle.journal_text.specs.Lines.{Value}
use Rattle.rib_exit.specs.RibExits.{RibExit}
use Rattle.rib_exit.specs.Exits.{IsExit, StandsOver, has_ext_work}
use Rattle.rib_exit.specs.Passing.{Caused}
use Rattle.rib_exit.specs.Steps.{CausesOn, FallsOn, TakesExternal, TakesInterior, ReachesExit, TurnsExit}

-- ---- a change of the best routes
-- What goes on to the two links, from these rows of theirs to those, is one: also on which link it goes first.
abbrev pub SplitIsOne : Type 0
SplitIsOne = (old new : Parted) (p q : AddressPrefix) (one other : Split) → Splits old new p one → Splits old new q other → one ≡ other

-- So is what each part causes on `ext`.
abbrev pub CausesAreOne : Type 0
CausesAreOne =
    (p : AddressPrefix) (split : Split) (first second first' second' : Option (Change External)) (old new : Parted) → CausesOn p split first second old new
    → CausesOn p split first' second' old new → (first ≡ first') × (second ≡ second')

-- From these best routes to those: the parts, what each causes, and the exit after them.
abbrev pub FallIsOne : Type 0
FallIsOne =
    (p : AddressPrefix) (int : Rows Interior) (split split' : Split) (first second first' second' : Caused) (was : Registry Interior) (e f f' : RibExit) (entries entries' : List (Entry Value))
    (best now : Rows Route) → IsExit f → IsExit f' → FallsOn p int split first second was e f entries best now → FallsOn p int split' first' second' was e f' entries' best now
    → (split ≡ split') × (first ≡ first') × (second ≡ second') × (f ≡ f')

-- What comes of a change of the best routes is one, where it leads from those over which the exit stands: what comes on `fib`, the
-- register, the exit, and the lines.
abbrev pub ExternalIsOne : Type 0
ExternalIsOne =
    (change : Change Route) (int : Rows Interior) (sent sent' : Option (Change FibRow)) (was is is' : Registry Interior) (e f f' : RibExit) (entries entries' : List (Entry Value))
    (best now : Rows Route) (p : AddressPrefix) → StandsOver best e → IsSent best now p (Some change) → TakesExternal change int sent was is e f entries
    → TakesExternal change int sent' was is' e f' entries' → (sent ≡ sent') × (is ≡ is') × (f ≡ f') × (entries ≡ entries')

-- ---- a change of the interior routes
-- What comes of one on `fib` is one, where it leads from some rows to others, and so are the lines.
abbrev pub InteriorIsOne : Type 0
InteriorIsOne =
    (change : Change Interior) (sent sent' : Option (Change FibRow)) (e : RibExit) (entries entries' : List (Entry Value)) (int now : Rows Interior) (p : AddressPrefix)
    → IsSent int now p (Some change) → TakesInterior change sent e entries → TakesInterior change sent' e entries' → (sent ≡ sent') × (entries ≡ entries')

-- Where the register gave these interests up, the exit is one.
abbrev pub ReachedIsOne : Type 0
ReachedIsOne = (out : List Interest) (e f f' : RibExit) → ReachesExit out e f → ReachesExit out e f' → f ≡ f'

-- ---- a turn
-- What a turn makes is one: what comes on `fib`, the register, the exit, and the lines.
abbrev pub TurnIsOne : Type 0
TurnIsOne =
    (int : Rows Interior) (sent sent' : Option (Change FibRow)) (was is is' : Registry Interior) (e f f' : RibExit) (entries entries' : List (Entry Value))
    → TurnsExit int sent was is e f entries → TurnsExit int sent' was is' e f' entries' → (sent ≡ sent') × (is ≡ is') × (f ≡ f') × (entries ≡ entries')

-- One is taken only where the task has work.
abbrev pub TurnHasWork : Type 0
TurnHasWork =
    (int : Rows Interior) (sent : Option (Change FibRow)) (was is : Registry Interior) (e f : RibExit) (entries : List (Entry Value)) → TurnsExit int sent was is e f entries
    → has_ext_work e ≡ true

-- ---- the rows of a table
-- The rows of a link, each with its prefix, in order, are one list.
abbrev pub ListedIsOne : Type 0
ListedIsOne =
    (rows : Rows Value) (one other : List (AddressPrefix × Value)) → IsStrictlySortedBy prefix_cmp (map (λ r. r.0) one) → AllByRecursion (λ r. rows r.0 ≡ Some r.1) one
    → ((q : AddressPrefix) → IsSome (rows q) → Contains (map (λ r. r.0) one) q) → IsStrictlySortedBy prefix_cmp (map (λ r. r.0) other)
    → AllByRecursion (λ r. rows r.0 ≡ Some r.1) other → ((q : AddressPrefix) → IsSome (rows q) → Contains (map (λ r. r.0) other) q) → one ≡ other
