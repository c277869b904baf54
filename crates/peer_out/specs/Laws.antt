-- Laws of what a peer is sent, for the crates above.
use Rattle.std.specs.Prelude.{◌≡◌, ℕ, List, [], Bool, false, Some, None}
use Rattle.std.specs.Option.{ForSome}
use Rattle.addr4.specs.Prefixes.{AddressPrefix}
use Rattle.bgp_attr.specs.Attributes.{Attrs}
use Rattle.bgp_attr.specs.declared.attrs.Origin.{Origin}
use Rattle.bgp_attr.specs.declared.speaker.Profile.{Profile}
use Rattle.bgp_attr.specs.Speakers.{IsProfileOf}
use Rattle.bgp_attr.specs.Reflections.{not_reflected}
use Rattle.bgp_wire.specs.declared.message.Update.{Update}
use Rattle.bgp_wire.specs.declared.message.Message.TheVariants as messages
use Rattle.bgp_wire.specs.Grammar.{Reads}
use Rattle.addr4.specs.Families.{IsPrefixOf}
use Rattle.bgp_wire.specs.Readable.{AreOctets, IsHost, said_of}
use Rattle.link_change.specs.Changes.{Change}
use Rattle.peer_out.specs.Changes.{saying, message_octets, IsReadAs, MayBeHeard, IsSentOf, HasNumbers, CanBeRead}

-- The octets of a change are the UPDATE that announces or withdraws its prefix and nothing else, for the peer that reads them.
abbrev pub PeerReadsChange : Type 0
PeerReadsChange =
    (v6 : Bool) (profile : Profile) (external : Bool) (change : Change Attrs) → IsProfileOf v6 profile → IsPrefixOf v6 change.prefix
    → ForSome change.after (CanBeRead profile external change.prefix) → IsReadAs profile external (message_octets profile change) (saying change.prefix change.after)

-- What is sent of a route whose attributes may be heard, the peer reads as it is, and in one message.
abbrev pub SentIsReadable : Type 0
SentIsReadable = (profile : Profile) (external : Bool) (p : AddressPrefix) (a : Attrs) → IsSentOf profile external p a → HasNumbers a → CanBeRead profile external p a

-- What a neighbour's octets hold may be heard.
abbrev pub ReadMayBeHeard : Type 0
ReadMayBeHeard =
    (profile : Profile) (external : Bool) (bytes : List ℕ) (u : Update) (a : Attrs) → AreOctets bytes → Reads profile external bytes (messages.Update u) → (said_of profile.second u).attrs ≡ Some a
    → MayBeHeard profile a

-- the attributes of a route of this speaker's own
abbrev pub bare_attrs : Origin → ℕ → Attrs
bare_attrs origin next_hop = record {
  origin = origin;
  path = [];
  next_hop = next_hop;
  med = None;
  local_pref = None;
  atomic = false;
  aggregator = None;
  reflection = not_reflected;
  unrecognized = [];
}

-- Those of a route of this speaker's own may be heard too.
abbrev pub BareMayBeHeard : Type 0
BareMayBeHeard = (profile : Profile) (origin : Origin) (next_hop : ℕ) → IsHost profile.second next_hop → MayBeHeard profile (bare_attrs origin next_hop)
