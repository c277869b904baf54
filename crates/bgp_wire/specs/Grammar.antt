-- What messages are, by cases on their octets (RFC 4271, section 4; RFC 2918, section 3).
use Rattle.std.specs.Prelude.{◌≡◌, ◌⊎◌, ℕ, if◌then◌else◌, ◌+◌, ◌*◌, ◌≤◌, ◌==◌, ◌&&◌, ◌||◌, List, [], ◌∷◌, ◌++◌, length, replicate, filter, Option, Some, None, Result, Ok, Err, Bool, true, false, not}
use Rattle.std.specs.List.{list_any}
use Rattle.addr4.specs.Prefixes.{AddressPrefix, same_prefix}
use Rattle.bgp_attr.specs.Attributes.{Attrs}
use Rattle.bgp_attr.specs.declared.speaker.Profile.{Profile}
use Rattle.bgp_wire.specs.declared.notice.Notice.{Notice}
use Rattle.bgp_wire.specs.declared.notice.Refusal.{Refusal}
use Rattle.bgp_wire.specs.declared.message.Update.{Update}
use Rattle.bgp_wire.specs.declared.message.RouteRefresh.{RouteRefresh}
use Rattle.bgp_wire.specs.declared.message.Message.{Message}
use Rattle.bgp_wire.specs.declared.message.Message.TheVariants as messages
use Rattle.bgp_wire.specs.declared.attributes.Verdict.{Verdict}
use Rattle.bgp_wire.specs.Faults.{Fails}
use Rattle.bgp_wire.specs.Prefixes.{ArePrefixes}
use Rattle.bgp_wire.specs.Said.{Said}
use Rattle.bgp_wire.specs.Multiprotocol.{IsReach, IsUnreach, announced_by, hop_by, withdrawn_by}
use Rattle.bgp_wire.specs.Attributes.{Attribute, AreAttributes, kept_by}
use Rattle.bgp_wire.specs.Routes.{hop_of, multiprotocol_of, Says, AreAttrs}
use Rattle.bgp_wire.specs.Updates.{Reading, Content, update, keepalive, notification, opening, refresh, lacks, fault}

-- a marker of ones, the length of the whole, a type, and a body
pub record IsFrame (bytes : List ℕ) (kind : ℕ) (body : List ℕ) : Type 0 where
  pub high : ℕ
  pub low : ℕ
  pub parts : bytes ≡ replicate 16 255 ++ high ∷ low ∷ kind ∷ body
  pub size : high * 256 + low ≡ length bytes
  pub top : length bytes ≤ 4096

-- the fields of an UPDATE and what they hold
pub record IsReading (p : Profile) (external : Bool) (bytes : List ℕ) (r : Reading) : Type 0 where
  pub withdrawn : List ℕ
  pub attributes : List ℕ
  pub announced : List ℕ
  pub first_high : ℕ
  pub first_low : ℕ
  pub second_high : ℕ
  pub second_low : ℕ
  pub frame : IsFrame bytes 2 (first_high ∷ first_low ∷ (withdrawn ++ (second_high ∷ second_low ∷ (attributes ++ announced))))
  pub withdrawn_size : first_high * 256 + first_low ≡ length withdrawn
  pub attributes_size : second_high * 256 + second_low ≡ length attributes
  pub withdraws : ArePrefixes false withdrawn r.withdrawn
  pub announces : ArePrefixes false announced r.announced
  pub reaches : Says IsReach (multiprotocol_of p 14 r.kept) r.reach
  pub unreaches : Says IsUnreach (multiprotocol_of p 15 r.kept) r.unreach
  pub steps : List (Attribute × Verdict)
  pub runs : Bool
  pub lacking : Bool
  pub are : AreAttributes p external [] attributes steps runs
  pub kept : r.kept ≡ (kept_by steps runs).0
  pub complete : lacks p r.announced (announced_by r.reach) r.kept ≡ Ok lacking
  pub withdraw : r.withdraw ≡ ((kept_by steps runs).1 || lacking)

-- the four octets of a ROUTE-REFRESH: the address family, a reserved octet, which may be any, and the subsequent address family
-- (RFC 2918, section 3)
pub record IsRefresh (bytes : List ℕ) (r : RouteRefresh) : Type 0 where
  pub high : ℕ
  pub low : ℕ
  pub reserved : ℕ
  pub frame : IsFrame bytes 5 (high ∷ low ∷ reserved ∷ r.safi ∷ [])
  pub afi : high * 256 + low ≡ r.afi

-- whether it asks for the routes of a family that is spoken here, unicast ones; one that asks for others is ignored (RFC 2918, section 4)
abbrev pub is_served : Bool → RouteRefresh → Bool
is_served v6 r = r.afi == (if v6 then 2 else 1) && r.safi == 1

-- what the octets hold, by cases on the whole
abbrev pub Holds : Profile → Bool → List ℕ → Content → Type 0
Holds p external bytes (update r) = IsReading p external bytes r
Holds p external bytes keepalive = IsFrame bytes 4 []
Holds p external bytes notification = (body : List ℕ) × IsFrame bytes 3 body × (2 ≤ length body)
Holds p external bytes opening = (body : List ℕ) × IsFrame bytes 1 body × (10 ≤ length body)
Holds p external bytes (refresh r) = IsRefresh bytes r

-- the prefixes that aren't among the others
abbrev pub without : List AddressPrefix → List AddressPrefix → List AddressPrefix
without others ps = filter (λ p. not (list_any (λ other. same_prefix other p) others)) ps

-- attributes are there exactly where a prefix is announced
abbrev pub AreAttrsFor : Profile → Bool → List Attribute → Option ℕ → List AddressPrefix → Option Attrs → Type 0
AreAttrsFor p external kept hop [] attrs = attrs ≡ None
AreAttrsFor p external kept hop (n ∷ ns) None = ⊥
AreAttrsFor p external kept hop (n ∷ ns) (Some attrs) = AreAttrs p external kept hop attrs

-- What an UPDATE says of one family, whose prefixes it withdraws and announces. One that is a withdraw announces nothing, and all its
-- prefixes are withdrawn (RFC 7606, section 2)
pub record IsWithdraw (ws ns : List AddressPrefix) (s : Said) : Type 0 where
  pub withdrawn : s.withdrawn ≡ without ns ws ++ ns
  pub announced : s.announced ≡ []
  pub attrs : s.attrs ≡ None

pub record IsPlain (p : Profile) (external : Bool) (kept : List Attribute) (hop : Option ℕ) (ws ns : List AddressPrefix) (s : Said) : Type 0 where
  pub withdrawn : s.withdrawn ≡ ws
  pub announced : s.announced ≡ ns
  pub attrs : AreAttrsFor p external kept hop ns s.attrs

abbrev pub IsSaidBy : Profile → Bool → List Attribute → Bool → Option ℕ → List AddressPrefix → List AddressPrefix → Said → Type 0
IsSaidBy p external kept true hop withdrawn announced s = IsWithdraw withdrawn announced s
IsSaidBy p external kept false hop withdrawn announced s = IsPlain p external kept hop withdrawn announced s

-- an UPDATE by what it holds: of both families, with one set of attributes but for the next hop
pub record IsUpdateBy (p : Profile) (external : Bool) (r : Reading) (withdraw : Bool) (u : Update) : Type 0 where
  pub first : IsSaidBy p external r.kept withdraw (hop_of r.kept) r.withdrawn r.announced u.first
  pub second : IsSaidBy p external r.kept withdraw (hop_by r.reach) (withdrawn_by r.unreach) (announced_by r.reach) u.second

-- an UPDATE was read, or its first fault
abbrev pub GivesUpdate : Profile → Bool → Result Update Refusal → Result Reading Notice → Type 0
GivesUpdate p external (Ok u) read = (r : Reading) × (read ≡ Ok r) × IsUpdateBy p external r r.withdraw u
GivesUpdate p external (Err e) read = Fails e read

-- the message by what the octets hold
abbrev pub IsMessageBy : Profile → Bool → Content → Message → Type 0
IsMessageBy p external (update r) (messages.Update u) = IsUpdateBy p external r r.withdraw u
IsMessageBy p external keepalive messages.Keepalive = Unit {0}
IsMessageBy p external notification messages.Notification = Unit {0}
IsMessageBy p external opening messages.Skip = Unit {0}
IsMessageBy p external (refresh r) (messages.Refresh asked) = asked ≡ r
IsMessageBy p external content message = ⊥

-- a message was read, or its first fault
abbrev pub GivesMessage : Profile → Bool → Result Message Refusal → Result Content Notice → Type 0
GivesMessage p external (Ok m) read = (content : Content) × (read ≡ Ok content) × IsMessageBy p external content m
GivesMessage p external (Err e) read = Fails e read

-- the message that octets are. A fault is none
abbrev pub Reads : Profile → Bool → List ℕ → Message → Type 0
Reads p external bytes (messages.Update u) = (r : Reading) × IsReading p external bytes r × IsUpdateBy p external r r.withdraw u
Reads p external bytes messages.Keepalive = Holds p external bytes keepalive
Reads p external bytes messages.Notification = Holds p external bytes notification
Reads p external bytes messages.Skip = Holds p external bytes opening
Reads p external bytes (messages.Refresh r) = IsRefresh bytes r
Reads p external bytes (messages.Notify n) = ⊥

-- what is answered to octets: the message that they are, or their first fault
abbrev pub Answers : Profile → Bool → List ℕ → Message → Type 0
Answers p external bytes (messages.Notify n) = fault p external bytes ≡ Some n
Answers p external bytes message = Reads p external bytes message

-- one message and no fault, or a fault and no message
abbrev pub OneAnswer : Profile → Bool → List ℕ → Type 0
OneAnswer p external bytes =
    ((fault p external bytes ≡ None) × ((m : Message) × Reads p external bytes m × ((other : Message) → Reads p external bytes other → m ≡ other)))
    ⊎ ((n : Notice) × (fault p external bytes ≡ Some n) × ((m : Message) → Reads p external bytes m → ⊥))

-- whoever sent them, and whatever the profile
abbrev pub EachHasOne : Type 0
EachHasOne = (p : Profile) (external : Bool) (bytes : List ℕ) → OneAnswer p external bytes
