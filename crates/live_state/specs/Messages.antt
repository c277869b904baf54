-- What a peer says: the message that octets are, what an UPDATE does to its routes, and which messages end the session (RFC 4271,
-- sections 3.1, 4 and 6; and, where the profile says so, RFC 6793 and RFC 7606).
use Rattle.std.specs.Prelude.{ℕ, ◌==◌, ◌||◌, Bool, true, false, not, List, ◌++◌, map, filter, slice_index, Option, None, is_some}
use Rattle.addr4.specs.Prefixes.{AddressPrefix}
use Rattle.addr4.specs.Hosts.{is_host_prefix}
use Rattle.bgp_attr.specs.Attributes.{Attrs}
use Rattle.bgp_attr.specs.declared.speaker.Profile.{Profile}
use Rattle.bgp_wire.specs.declared.message.Update.{Update}
use Rattle.bgp_wire.specs.declared.message.Message.{Message}
use Rattle.bgp_wire.specs.declared.message.Message.TheVariants as messages
use Rattle.bgp_wire.specs.Updates.{fault}
use Rattle.bgp_wire.specs.Grammar.{without, Answers}
use Rattle.bgp_wire.specs.Said.{Said}
use Rattle.bgp_wire.specs.Readable.{said_of}
use Rattle.event_text.specs.declared.declared.DeclaredPeer.{DeclaredPeer}

-- what octets from a peer say, read by the profile: the message that they are, or the NOTIFICATION that answers their first fault
-- (sections 4 and 6)
abbrev pub Says : Profile → DeclaredPeer → List ℕ → Message → Type 0
Says profile p octets message = Answers profile (not p.words.internal) octets message

-- ---- what an UPDATE does
-- an announced prefix with its attributes
abbrev pub announced_with : Option Attrs → AddressPrefix → AddressPrefix × Option Attrs
announced_with attrs p = (p, attrs)

abbrev pub withdrawn_from : AddressPrefix → AddressPrefix × Option Attrs
withdrawn_from p = (p, None)

-- What is said of the prefixes of a family does, one after the other (section 3.1; RFC 4760, section 4): first those go that are withdrawn
-- and not announced, then those of hosts (none covered by 224.0.0.0/3, or by ff00::/8) are announced.
abbrev pub changes_in : Bool → Said → List (AddressPrefix × Option Attrs)
changes_in v6 s = map withdrawn_from (without s.announced s.withdrawn) ++ map (announced_with s.attrs) (filter (is_host_prefix v6) s.announced)

-- what an UPDATE does to the routes of the family that the profile is of
abbrev pub changes_of : Profile → Update → List (AddressPrefix × Option Attrs)
changes_of profile u = changes_in profile.second (said_of profile.second u)

-- ---- the end of a session
-- whether a message ends the session
abbrev pub is_ending : Message → Bool
is_ending messages.Notification = true
is_ending (messages.Notify n) = true
is_ending other = false

-- whether octets of a peer, external or internal, end the session: they have a fault, or their type is that of a NOTIFICATION
abbrev pub ends_session : Profile → Bool → List ℕ → Bool
ends_session profile external octets = is_some (fault profile external octets) || slice_index octets 18 == 3
