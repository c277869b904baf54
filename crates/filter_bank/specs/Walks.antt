-- Turns of a filter's walk.
use Rattle.std.specs.Prelude.{List, Option}
use Rattle.bgp_attr.specs.Attributes.{Attrs}
use Rattle.bgp_attr.specs.Routes.{Route}
use Rattle.bgp_attr.specs.Speakers.{Speaker}
use Rattle.bgp_attr.specs.declared.speaker.Neighbour.{Neighbour}
use Rattle.link_change.specs.Rows.{Rows, Candidates}
use Rattle.link_change.specs.Changes.{Change}
use Rattle.link_change.specs.Turns.{Turn}
use Rattle.policy_rules.specs.Rules.{Rule}
use Rattle.pass_core.specs.Passed.{Passed}
use Rattle.pass_core.specs.Turns as turns
use Rattle.filter_bank.specs.Filtered.{filtered}

-- a turn of a walk that is on goes to the least candidate beyond its place, where the new rules hold from now on, or ends the walk
abbrev pub Walks : Speaker → Neighbour → Candidates → Rows Attrs → Passed (List Rule) → Passed (List Rule) → Option (Change Route) → Type 0
Walks me peer candidates upper old new sent = turns.Walks (filtered me peer) candidates upper old new sent

-- what a turn came to: where no walk is on, nothing
abbrev pub IsWalked : Speaker → Neighbour → Candidates → Rows Attrs → Passed (List Rule) → Passed (List Rule) → Turn Route → Type 0
IsWalked me peer candidates upper old new turn = turns.IsWalked (filtered me peer) candidates upper old new turn
