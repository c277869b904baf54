-- Which event four draws are.
use Rattle.std.specs.Prelude.{ℕ, zero, suc, ◌+◌, ◌/◌, ◌%◌, ◌==◌, nat_lt, if◌then◌else◌, List, [], ◌∷◌}
use Rattle.bgp_attr.specs.declared.attrs.Origin as origin
use Rattle.bgp_attr.specs.declared.attrs.Origin.TheVariants.{Igp, Egp, Incomplete}
use Rattle.event_gen.specs.Draws.{next_draws, behind_draws}
use Rattle.event_gen.specs.declared.draws.Draws.{Draws}
use Rattle.event_gen.specs.declared.drawn.Work.{Work}
use Rattle.event_gen.specs.declared.drawn.Work.TheVariants as works
use Rattle.event_gen.specs.declared.drawn.Drawn.{Drawn}
use Rattle.event_gen.specs.declared.drawn.Drawn.TheVariants as drawn

-- the kind of an event, 0 to 15
abbrev pub kind_of : Draws → ℕ
kind_of d = d.k % 16

-- the peer of an event, 1 to 4
abbrev pub peer_of : Draws → ℕ
peer_of d = 1 + d.a % 4

-- the second octet of its prefix 10.X.0.0/16
abbrev pub block_of : Draws → ℕ
block_of d = d.b % 256

-- ORIGIN by its code
abbrev pub origin_of : ℕ → origin.Origin
origin_of n = if n == 0 then Igp else if n == 1 then Egp else Incomplete

-- a host's route is added, or deleted
abbrev pub host_event : Draws → Drawn
host_event d = if d.c % 2 == 0 then drawn.AddHost (peer_of d) (1 + d.b % 8) else drawn.DeleteHost (peer_of d)

-- `rd.rib`, `out.K`, `nh.K` or `fin.K`
abbrev pub work_of : Draws → Work
work_of d =
    if d.c % 4 == 0 then works.ReadRib
    else if d.c % 4 == 1 then works.Out (peer_of d)
    else if d.c % 4 == 2 then works.NextHops (peer_of d)
    else works.Filter (peer_of d)

-- an event that is no message, by its kind
abbrev pub other_event : Draws → Drawn
other_event d =
    if kind_of d == 9 then drawn.Down (peer_of d)
    else if nat_lt (kind_of d) 12 then drawn.Up (peer_of d)
    else if kind_of d == 12 then drawn.Prefer (peer_of d) (100 + d.c % 2)
    else if kind_of d == 13 then host_event d
    else if kind_of d == 14 then drawn.Work (work_of d) (d.b % 8)
    else drawn.Idle

-- the event of four draws
unfoldable pub event_of : Draws → Drawn
event_of d =
    if nat_lt (kind_of d) 7 then drawn.Announce (peer_of d) (block_of d) (origin_of (d.c % 3)) (d.c / 3 % 4)
    else if nat_lt (kind_of d) 9 then drawn.Withdraw (peer_of d) (block_of d)
    else other_event d

-- so many events from a state on, four draws each
abbrev pub events_from : ℕ → ℕ → List Drawn
events_from zero x = []
events_from (suc n) x = event_of (next_draws x) ∷ events_from n (behind_draws x)
