-- What the forwarding side has of the best routes behind a change of `int`, and what comes of that on `fib`.
use Rattle.std.specs.Prelude.{◌≡◌, ℕ, Option, Some, IsSome}
use Rattle.std.specs.FinMap as tables
use Rattle.link_change.specs.Rows.{Rows}
use Rattle.link_change.specs.Changes.{Change}
use Rattle.journal_text.specs.Journals.{Journaled, Adds}
use Rattle.rib_route.specs.Rows.{Interior}
use Rattle.rib_route.specs.Rows.{FibRow}
use Rattle.rib_exit.specs.Exits.{StandsOver}
use Rattle.rib_exit.specs.Steps.{TakesInterior}
use Rattle.router_moments.specs.Bests.{own_rows, best_at}
use Rattle.router_moments.specs.Moments.{Moment, read_rows_by}

-- The reader of the forwarding side is one of the queue's, and `ebgp` and `ibgp` are the parts of what it has of the best routes over
-- these rows of `int`.
pub record ReadOver (int : Rows Interior) (m : Moment) : Type 0 where
  pub reader : (r : ℕ) → m.reader ≡ Some r → IsSome (tables.get m.exits.queue r)
  pub external : StandsOver (read_rows_by m.exits.queue m.reader (best_at (own_rows m.declared.speaker m.redist int) m.chains m.hops)) m.rib

-- a change of `int` came out on `fib`
abbrev pub TakesInto : Change Interior → Moment → Journaled → Journaled → Type 0
TakesInto change m before now = (fib : Option (Change FibRow)) × Adds (TakesInterior change fib m.rib) before now
