-- What holds of each event that was read.
use Rattle.std.specs.Prelude.{◌≡◌, ℕ, ◌^◌, ◌<◌, Bool, false, List, length, Option, Some, None, true}
use Rattle.std.specs.List.{All}
use Rattle.addr4.specs.Families.{IsAddress, IsIpv4Prefix, IsPrefixOf}
use Rattle.addr4.specs.Prefixes.{AddressPrefix}
use Rattle.bgp_attr.specs.Speakers.{IsSpeaker, MayBeClient}
use Rattle.bgp_attr.specs.declared.speaker.Profile.{Profile}
use Rattle.rib_route.specs.Ifaces.{is_iface_name}
use Rattle.rib_route.specs.Rows.{Interior}
use Rattle.journal_text.specs.Names.{IsNamed}
use Rattle.journal_text.specs.declared.link.Task.{Task}
use Rattle.journal_text.specs.declared.link.Task.TheVariants.{Del, Fin, Nh, Out, Rdel, Ref}
use Rattle.policy_rules.specs.Ranges.{AreRules}
use Rattle.event_text.specs.Event.{Event, Question}
use Rattle.event_text.specs.declared.event.Event.TheVariants as events
use Rattle.event_text.specs.declared.event.Question.TheVariants.{Cover, Settled, Ask, Show}

-- a number from 1 of 32 bits
pub record IsNumber (n : ℕ) : Type 0 where
  pub least : 0 < n
  pub fits : n < 2 ^ 32

-- at least one octet
pub record IsMessage (octets : List ℕ) : Type 0 where
  pub some : 0 < length octets
  pub bytes : All (λ b. b < 256) octets

-- a prefix of IPv4
abbrev pub IsPrefix : AddressPrefix → Type 0
IsPrefix = IsIpv4Prefix

-- a gateway of the family, if there is one
abbrev pub IsGateway : Bool → Option ℕ → Type 0
IsGateway v6 None = Unit {0}
IsGateway v6 (Some addr) = IsAddress v6 addr

-- a gateway and a metric of 32 bits, and the name of an interface
pub record IsInterior (v6 : Bool) (row : Interior) : Type 0 where
  pub gateway : IsGateway v6 row.gateway
  pub name : is_iface_name row.iface ≡ true
  pub metric : row.metric < 2 ^ 32

abbrev pub IsTask : Task → Type 0
IsTask (Del k s) = IsNumber k × IsNumber s
IsTask (Fin k) = IsNumber k
IsTask (Nh k) = IsNumber k
IsTask (Out k) = IsNumber k
IsTask (Ref k) = IsNumber k
IsTask (Rdel proto n) = IsNumber n
IsTask other = Unit {0}

abbrev pub IsQuestion : Bool → Question → Type 0
IsQuestion v6 (Cover addr) = IsAddress v6 addr
IsQuestion v6 (Settled n) = IsPrefixOf v6 n
IsQuestion v6 (Ask link n) = IsNamed link × IsPrefixOf v6 n
IsQuestion v6 (Show link) = IsNamed link

-- its numbers, words, octets, prefix, link and task are what the grammar says, behind the lines that hold for the whole file; its addresses
-- are those of the network's family, and a peer's is IPv4's
abbrev pub IsWellFormed : Bool → Profile → Event → Type 0
IsWellFormed v6 p (events.Local words) = IsSpeaker v6 p.as4 words
IsWellFormed v6 p (events.Peer k words client) = IsNumber k × IsSpeaker false p.as4 words × MayBeClient p client
IsWellFormed v6 p (events.Up k) = IsNumber k
IsWellFormed v6 p (events.Down k) = IsNumber k
IsWellFormed v6 p (events.Bgp k octets) = IsNumber k × IsMessage octets
IsWellFormed v6 p (events.FilterIn k rules) = IsNumber k × AreRules v6 p.as4 rules
IsWellFormed v6 p (events.FilterOut k rules) = IsNumber k × AreRules v6 p.as4 rules
IsWellFormed v6 p (events.RouteAdd n row) = IsPrefixOf v6 n × IsInterior v6 row
IsWellFormed v6 p (events.RouteDel proto n) = IsPrefixOf v6 n
IsWellFormed v6 p (events.Work task n) = IsTask task × (n < 2 ^ 32)
IsWellFormed v6 p (events.Query question) = IsQuestion v6 question
IsWellFormed v6 p other = Unit {0}
