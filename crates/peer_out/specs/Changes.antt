-- The message that says a change of what a peer was sent.
use Rattle.std.specs.Prelude.{◌≡◌, ℕ, ◌<◌, ◌≤◌, ◌^◌, List, All, Bool, false, Option, Some, None}
use Rattle.std.specs.Option.{ForSome}
use Rattle.addr4.specs.Prefixes.{AddressPrefix}
use Rattle.bgp_attr.specs.Attributes.{Attrs}
use Rattle.bgp_attr.specs.Routes.{Route}
use Rattle.bgp_attr.specs.declared.speaker.Profile.{Profile}
use Rattle.bgp_attr.specs.Speakers.{Speaker}
use Rattle.bgp_wire.specs.Said.{Said}
use Rattle.bgp_wire.specs.declared.message.Message.{Message}
use Rattle.bgp_wire.specs.declared.message.Message.TheVariants as messages
use Rattle.bgp_wire.specs.Grammar.{Reads}
use Rattle.bgp_wire.specs.Lengths.{announcement_length}
use Rattle.bgp_wire.specs.Paths.{width_of}
use Rattle.bgp_wire.specs.Readable.{IsHost, IsReadable, said_in, withdrawing, announcing}
use Rattle.bgp_wire.specs.Spelling.{update_octets}
use Rattle.link_change.specs.Changes.{Change}
use Rattle.peer_out.specs.Forms.{as_sent}

-- one prefix is announced with what is sent from now on, or withdrawn
abbrev pub saying : AddressPrefix → Option Attrs → Said
saying p None = withdrawing p
saying p (Some a) = announcing p a

abbrev pub message_octets : Profile → Change Attrs → List ℕ
message_octets profile change = update_octets profile.second profile.as4 (saying change.prefix change.after)

-- the octets are the UPDATE that says this of the profile's family and nothing of the other, and no other message, for a peer that is
-- external or internal to who sends them
pub record IsReadAs (profile : Profile) (external : Bool) (octets : List ℕ) (s : Said) : Type 0 where
  pub reads : Reads profile external octets (messages.Update (said_in profile.second s))
  pub only : (m : Message) → Reads profile external octets m → m ≡ messages.Update (said_in profile.second s)

-- attributes that some neighbour's octets may hold, an external one's or an internal one's
abbrev pub MayBeHeard : Profile → Attrs → Type 0
MayBeHeard profile a = IsReadable profile.second profile false a

-- the local AS has its octets, and the local address is one of a host
pub record IsSender (profile : Profile) (me : Speaker) : Type 0 where
  pub asn : me.asn < 256 ^ width_of profile.as4
  pub addr : IsHost profile.second me.addr

-- the attributes are what is sent at the prefix of some route whose attributes may be heard
pub record IsSentOf (profile : Profile) (external : Bool) (p : AddressPrefix) (a : Attrs) : Type 0 where
  pub me : Speaker
  pub row : Route
  pub sender : IsSender profile me
  pub heard : MayBeHeard profile row.attrs
  pub sent : as_sent profile me external p row ≡ Some a

-- numbers of 32 bits
pub record HasNumbers (a : Attrs) : Type 0 where
  pub med : ForSome a.med (λ n. n < 2 ^ 32)
  pub local_pref : ForSome a.local_pref (λ n. n < 2 ^ 32)
  pub originator : ForSome a.reflection.originator (λ n. n < 2 ^ 32)
  pub clusters : All (λ n. n < 2 ^ 32) a.reflection.clusters

-- a peer reads the attributes as they are, and the announcement fits into a message
pub record CanBeRead (profile : Profile) (external : Bool) (p : AddressPrefix) (a : Attrs) : Type 0 where
  pub readable : IsReadable profile.second profile external a
  pub short : announcement_length profile.second profile.as4 p a ≤ 4096
