-- What the event language reads of the lines.
use Rattle.std.specs.Prelude.{◌≡◌, ℕ, List, [], ◌∷◌, ◌++◌, map, false, None, Ok, codes}
use Rattle.rib_route.specs.declared.Proto.TheVariants.{Connected, Static}
use Rattle.journal_text.specs.declared.link.Task.{Task}
use Rattle.journal_text.specs.declared.link.Task.TheVariants.{Fin, Nh, ReadRib, Out}
use Rattle.policy_rules.specs.declared.rule.Condition.TheVariants.{Any}
use Rattle.policy_rules.specs.declared.rule.Action.TheVariants.{Pref}
use Rattle.policy_rules.specs.declared.rule.Verdict.TheVariants.{Accept}
use Rattle.event_text.specs.Event.{Event}
use Rattle.event_text.specs.declared.event.Event.TheVariants as events
use Rattle.event_text.specs.Events.{read_event}
use Rattle.event_text.specs.Declarations.{plain}
use Rattle.event_gen.specs.Events.{events_from}
use Rattle.event_gen.specs.Lines.{peer_addr, announce_octets, withdraw_octets, host, lines, peer_id}
use Rattle.event_gen.specs.declared.drawn.Work.{Work}
use Rattle.event_gen.specs.declared.drawn.Work.TheVariants as works
use Rattle.event_gen.specs.declared.drawn.Drawn.{Drawn}
use Rattle.event_gen.specs.declared.drawn.Drawn.TheVariants as drawn

-- the name of a task
abbrev pub task_meant : Work → Task
task_meant works.ReadRib = ReadRib
task_meant (works.Out k) = Out k
task_meant (works.NextHops k) = Nh k
task_meant (works.Filter k) = Fin k

-- the event that a drawn one is to the language
abbrev pub meant : Drawn → Event
meant (drawn.Announce k x origin med) = events.Bgp k (announce_octets k x origin med)
meant (drawn.Withdraw k x) = events.Bgp k (withdraw_octets x)
meant (drawn.Down k) = events.Down k
meant (drawn.Up k) = events.Up k
meant (drawn.Prefer k n) = events.FilterIn k (record { condition = Any; actions = Pref n ∷ []; verdict = Accept } ∷ [])
meant (drawn.AddHost k n) = events.RouteAdd (host k) (record { proto = Static; gateway = None; iface = codes "eth1"; metric = n })
meant (drawn.DeleteHost k) = events.RouteDel Static (host k)
meant (drawn.Work task n) = events.Work (task_meant task) n
meant drawn.Idle = events.Idle

-- a peer's declaration: its AS, and 192.0.2.K as its identifier and address; it is no client
abbrev pub declared : ℕ → ℕ → Event
declared k asn = events.Peer k (record { asn = asn; id = peer_id k; addr = peer_addr k }) false

-- the events of the opening
abbrev pub opening_events : List Event
opening_events =
    events.Local (record { asn = 65000; id = peer_id 254; addr = peer_addr 254 })
    ∷ declared 1 65001 ∷ declared 2 65002 ∷ declared 3 65000 ∷ declared 4 65001
    ∷ events.RouteAdd (record { address = peer_addr 0; length = 24 }) (record { proto = Connected; gateway = None; iface = codes "eth0"; metric = 1 })
    ∷ events.Up 1 ∷ events.Up 2 ∷ events.Up 3 ∷ events.Up 4 ∷ []

-- what the lines of a seed say
abbrev pub meanings : ℕ → ℕ → List Event
meanings seed n = opening_events ++ map meant (events_from n seed ++ drawn.Idle ∷ [])

-- each line is read as its event, in a file without the lines that hold for the whole file
abbrev pub AreReadAs : List (List ℕ) → List Event → Type 0
AreReadAs [] [] = Unit {0}
AreReadAs (line ∷ ls) (event ∷ es) = (read_event plain line ≡ Ok event) × AreReadAs ls es
AreReadAs ls es = ⊥

-- Each line of a seed is read as the event that it is, whatever was drawn.
abbrev pub LinesAreRead : Type 0
LinesAreRead = (seed n : ℕ) → AreReadAs (lines seed n) (meanings seed n)
