-- The form in which a route is sent to a peer (RFC 4271, sections 5.1 and 9.1.3; RFC 4456, section 8).
use Rattle.std.specs.Prelude.{◌+◌, nat_le, Bool, if◌then◌else◌, Option, Some, None}
use Rattle.addr4.specs.Prefixes.{AddressPrefix}
use Rattle.bgp_attr.specs.Attributes.{Attrs}
use Rattle.bgp_attr.specs.Routes.{Route}
use Rattle.bgp_attr.specs.declared.speaker.Profile.{Profile}
use Rattle.bgp_attr.specs.Speakers.{Speaker}
use Rattle.bgp_attr.specs.declared.speaker.Neighbour.{Neighbour}
use Rattle.bgp_attr.specs.Reflections.{Reflected, not_reflected, reflected_by}
use Rattle.bgp_attr.specs.Paths.{times_in_front}
use Rattle.bgp_wire.specs.Lengths.{announcement_length}

-- A route reflector that passes a route of an internal peer on inside the AS says who sent it, where no reflector did yet, and puts its own
-- cluster in front of the others.
abbrev pub reflected_from : Speaker → Option Neighbour → Reflected → Reflected
reflected_from me None r = not_reflected
reflected_from me (Some from) r = if from.internal then reflected_by from.id me.id r else not_reflected

-- What reflectors add, as an internal peer gets it: a speaker that is no reflector takes away what others added.
abbrev pub reflected_inside : Profile → Speaker → Route → Reflected
reflected_inside profile me row = if profile.reflect then reflected_from me row.from row.attrs.reflection else not_reflected

-- An external peer gets the local AS in front of the path, once and as often more as the rules said, the local address as the next
-- hop, no LOCAL_PREF (section 5.1.5), and nothing of reflectors. An internal one gets path and next hop as they are, and the degree of
-- preference as LOCAL_PREF. MULTI_EXIT_DISC is the one that counts here. All else is passed on.
abbrev pub sent_form : Profile → Speaker → Bool → Route → Attrs
sent_form profile me external row = record {
  origin = row.attrs.origin;
  path = if external then times_in_front (1 + row.prepend) me.asn row.attrs.path else row.attrs.path;
  next_hop = if external then me.addr else row.attrs.next_hop;
  med = row.med;
  local_pref = if external then None else Some row.pref;
  atomic = row.attrs.atomic;
  aggregator = row.attrs.aggregator;
  reflection = if external then not_reflected else reflected_inside profile me row;
  unrecognized = row.attrs.unrecognized;
}

-- What is sent at a prefix: nothing where the announcement would have more than the 4,096 octets of a message (section 4.1).
abbrev pub as_sent : Profile → Speaker → Bool → AddressPrefix → Route → Option Attrs
as_sent profile me external p row =
    if nat_le (announcement_length profile.second profile.as4 p (sent_form profile me external row)) 4096 then Some (sent_form profile me external row) else None

-- who sends to which kind of peer
pub record Exit : Type 0 where
  pub profile : Profile
  pub me : Speaker
  pub external : Bool
