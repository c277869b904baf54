-- The lines of the opening are read as they are.
use Rattle.std.proofs.Common.{◌≡◌, ℕ, List, None, Ok, refl, codes}
use Rattle.addr4.specs.Texts.{number_below, id_of, prefix_of}
use Rattle.rib_route.specs.declared.Proto.TheVariants.{Connected}
use Rattle.journal_text.specs.Names.{proto_of}
use Rattle.policy_rules.specs.Words.{words}
use Rattle.event_text.specs.Event.{Event}
use Rattle.event_text.specs.declared.event.Event.TheVariants as events
use Rattle.event_text.specs.Words.{is_clean, from_one, speaker_by, speaker_of, client_of, way_out, interior_of}
use Rattle.event_text.specs.Events.{local_of, peer_of, one_number, route_add_of, route_of, interior_event, plain_event, named_event, event_of, read_event}
use Rattle.event_text.specs.Declarations.{plain}
use Rattle.event_gen.specs.Lines.{opening, peer_addr, peer_id}
use Rattle.event_gen.specs.Readings.{declared, opening_events, AreReadAs}

abbrev IsReadAs : List ℕ → Event → Type 0
IsReadAs line e = read_event plain line ≡ Ok e

local_read : IsReadAs (codes "local 65000 192.0.2.254 192.0.2.254") (events.Local (record { asn = 65000; id = peer_id 254; addr = peer_addr 254 }))
unfolding read_event is_clean words event_of named_event local_of speaker_of speaker_by number_below id_of
local_read = refl

peers_read :
    IsReadAs (codes "peer 1 65001 192.0.2.1 192.0.2.1") (declared 1 65001)
    × IsReadAs (codes "peer 2 65002 192.0.2.2 192.0.2.2") (declared 2 65002)
    × IsReadAs (codes "peer 3 65000 192.0.2.3 192.0.2.3") (declared 3 65000)
    × IsReadAs (codes "peer 4 65001 192.0.2.4 192.0.2.4") (declared 4 65001)
unfolding read_event is_clean words event_of named_event peer_of from_one speaker_by client_of number_below id_of
peers_read = (refl, refl, refl, refl)

route_read : IsReadAs (codes "route add connected 192.0.2.0/24 direct eth0 1") (events.RouteAdd (record { address = peer_addr 0; length = 24 }) (record { proto = Connected; gateway = None; iface = codes "eth0"; metric = 1 }))
unfolding read_event is_clean words event_of named_event plain_event interior_event route_of route_add_of proto_of prefix_of id_of number_below interior_of way_out
route_read = refl

ups_read : IsReadAs (codes "up 1") (events.Up 1) × IsReadAs (codes "up 2") (events.Up 2) × IsReadAs (codes "up 3") (events.Up 3) × IsReadAs (codes "up 4") (events.Up 4)
unfolding read_event is_clean words event_of named_event plain_event one_number from_one number_below
ups_read = (refl, refl, refl, refl)

pub opening_read : AreReadAs opening opening_events
unfolding opening
opening_read =
    let p = peers_read in
    let u = ups_read in
    (local_read, (p.0, (p.1, (p.2, (p.3, (route_read, (u.0, (u.1, (u.2, (u.3, tt))))))))))
