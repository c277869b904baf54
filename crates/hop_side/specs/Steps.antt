-- What each call makes of the resolvers, and what it keeps.
use Rattle.std.specs.Prelude.{◌≡◌, ℕ, ◌+◌, ◌≤◌, ◌==◌, false, is_some, List, [], ◌∷◌, Option, Some, None}
use Rattle.addr4.specs.Prefixes.{AddressPrefix}
use Rattle.bgp_attr.specs.Routes.{Route}
use Rattle.link_change.specs.Rows.{Rows, Candidates}
use Rattle.link_change.specs.Changes.{IsSent}
use Rattle.link_change.specs.Changes.{Change}
use Rattle.link_change.specs.Turns.{Turn}
use Rattle.link_change.specs.declared.turn.Turn.TheVariants.{Nothing, Quiet, Sent}
use Rattle.rib_route.specs.Rows.{Interior}
use Rattle.register_interest.specs.Interests.{Interest}
use Rattle.register_interest.specs.Interests.{without}
use Rattle.register_interest.specs.Registers.{Registry, KeepsAnswers, AllStand as MatchesStand}
use Rattle.pass_core.specs.Left.{CountsBeyond}
use Rattle.nexthop_resolver.specs.declared.rows.Metric.{Metric}
use Rattle.nexthop_resolver.specs.Kept.{route_hop, metric_of, with_metric}
use Rattle.nexthop_resolver.specs.Resolving.{Resolving}
use Rattle.nexthop_resolver.specs.Registered.{interest_of, KeepsOthers, told_of}
use Rattle.nexthop_resolver.specs.Takes.{Keeps, TakesIn}
use Rattle.nexthop_resolver.specs.Reached.{IsReached, IsReachedBy}
pub use Rattle.nexthop_resolver.specs.Reached.{reached_hop}
use Rattle.nexthop_resolver.specs.Turns.{Turned}
use Rattle.journal_text.specs.declared.link.Link.TheVariants.{Res}
use Rattle.journal_text.specs.Lines.{Entry}
use Rattle.journal_text.specs.declared.entry.Entry.TheVariants.{Begin}
use Rattle.journal_text.specs.Lines.{Value}
use Rattle.journal_text.specs.Walk.{Links, Leads}
use Rattle.journal_text.specs.Journals.{Journaled, Adds}
use Rattle.journal_text.specs.Values.{route_value, sent_entries}
use Rattle.hop_side.specs.Resolvers.{Resolvers, resolver_at, put_resolver, PeerRows, res_at, hop_links, beside, IsHops, AllAgree, AllCounted, has_hop_work, known_in, Beyonds, left_in}

-- ---- what a step leads to
-- Whatever other links there are, the entries lead by the rules of the journal from the old links `res.K` to the new ones.
abbrev pub LeadsRes : Links Value → List (Entry Value) → Links Value → Type 0
LeadsRes old entries new = (others : Links Value) → Leads (beside others old) entries (beside others new)

-- a change, or none, comes on the link of peer k at a prefix; the rows of every other peer's link stay
pub record ComesOn (k : ℕ) (p : AddressPrefix) (sent : Option (Change Route)) (old new : PeerRows) : Type 0 where
  pub here : IsSent (old k) (new k) p sent
  pub others : (j : ℕ) → (j == k) ≡ false → new j ≡ old j

-- From these rows of all `filt.K` to those: a change, or none, came on `res.K` of peer k, the entries lead on, and the next hops are counted.
pub record GoesOn (k : ℕ) (p : AddressPrefix) (sent : Option (Change Route)) (a a' : Resolvers) (entries : List (Entry Value)) (uppers now : PeerRows) : Type 0 where
  pub comes : ComesOn k p sent (res_at a uppers) (res_at a' now)
  pub leads : LeadsRes (hop_links a uppers) entries (hop_links a' now)
  pub counted : AllCounted now a'

-- the entry of what a resolver sends
abbrev pub res_entries : ℕ → Option (Change Route) → List (Entry Value)
res_entries k = sent_entries route_value (Res k)

-- what is written where `res.K` begins
abbrev pub begin_entries : ℕ → List (Entry Value)
begin_entries k = Begin (Res k) ∷ []

-- the client of this number has no interest
abbrev pub HasNoInterest : ℕ → Registry Interior → Type 0
HasNoInterest k r = (s : AddressPrefix) → interest_of k r s ≡ false

-- the same peers have resolvers
abbrev pub HaveSamePeers : Resolvers → Resolvers → Type 0
HaveSamePeers a a' = (j : ℕ) → is_some (resolver_at j a') ≡ is_some (resolver_at j a)

-- ---- what a change on `filt.K` makes
-- The resolver of peer k takes the change in, and this is what goes on below; every other resolver stays.
pub record TakesHop (k : ℕ) (change : Change Route) (sent : Option (Change Route)) (was : Registry Interior) (a a' : Resolvers) (entries : List (Entry Value)) : Type 0 where
  pub resolver : Resolving Metric
  pub at : resolver_at k a ≡ Some resolver
  pub taken : Resolving Metric
  pub takes : TakesIn route_hop with_metric resolver taken change sent
  pub keeps : Keeps (told_of metric_of was) resolver taken
  pub lines : entries ≡ res_entries k sent
  pub after : a' ≡ put_resolver k taken a

-- what the side and the register keep, where the client that asks is peer k
pub record KeepsAgreed (k : ℕ) (was is : Registry Interior) (a a' : Resolvers) : Type 0 where
  pub sound : IsHops a'
  pub agree : AllAgree a' is
  pub others : KeepsOthers k was is
  pub peers : HaveSamePeers a a'
  pub stands : MatchesStand is

-- And so it goes on for any rows of all `filt.K` which the change leads on, where their next hops were counted.
pub record TakesBelow (k : ℕ) (change : Change Route) (sent : Option (Change Route)) (was is : Registry Interior) (a a' : Resolvers) (entries : List (Entry Value)) : Type 0 where
  pub takes : TakesHop k change sent was a a' entries
  pub agreed : KeepsAgreed k was is a a'
  pub goes : (uppers now : PeerRows) (p : AddressPrefix) → AllCounted uppers a → ComesOn k p (Some change) uppers now → GoesOn k p sent a a' entries uppers now

-- ---- what a turn makes
-- The resolver of peer k takes a turn over these rows of `filt.K`; every other resolver stays.
pub record TurnsHop (k : ℕ) (candidates : Candidates) (upper : Rows Route) (sent : Option (Change Route)) (was is : Registry Interior) (a a' : Resolvers) (entries : List (Entry Value)) : Type 0 where
  pub resolver : Resolving Metric
  pub at : resolver_at k a ≡ Some resolver
  pub taken : Resolving Metric
  pub turned : Turned route_hop with_metric candidates upper metric_of was is resolver taken sent
  pub lines : entries ≡ res_entries k sent
  pub after : a' ≡ put_resolver k taken a

-- And so it goes on beside any rows of every other `filt.K`. Fewer turns are left, and as many next hops are known.
pub record TurnsBelow (k : ℕ) (candidates : Candidates) (upper : Rows Route) (sent : Option (Change Route)) (was is : Registry Interior) (a a' : Resolvers) (entries : List (Entry Value)) : Type 0 where
  pub turn : TurnsHop k candidates upper sent was is a a' entries
  pub agreed : KeepsAgreed k was is a a'
  pub goes : (uppers : PeerRows) → uppers k ≡ upper → AllCounted uppers a → (p : AddressPrefix) × GoesOn k p sent a a' entries uppers uppers
  pub fewer : (beyonds : Beyonds) → CountsBeyond candidates (beyonds k) → left_in beyonds a' + 1 ≤ left_in beyonds a
  pub known : known_in a' ≡ known_in a

-- what a turn came to
abbrev pub ComesBelow : ℕ → Candidates → Rows Route → Registry Interior → Registry Interior → Resolvers → Resolvers → Journaled → Journaled → Turn Route → Type 0
ComesBelow k candidates upper was is a a' before now Nothing = (has_hop_work a k ≡ false) × (a' ≡ a) × (is ≡ was) × (now ≡ before)
ComesBelow k candidates upper was is a a' before now Quiet = Adds (TurnsBelow k candidates upper None was is a a') before now
ComesBelow k candidates upper was is a a' before now (Sent change) = Adds (TurnsBelow k candidates upper (Some change) was is a a') before now

-- ---- what interests make that the register gave up
-- of a peer's two resolvers, if it has them
abbrev pub AtPeer : (Resolving Metric → Resolving Metric → Type 0) → Option (Resolving Metric) → Option (Resolving Metric) → Type 0
AtPeer Is None None = Unit {0}
AtPeer Is (Some old) (Some new) = Is old new
AtPeer Is old new = ⊥

-- the answers that came with these interests are stale, and all else is as it was
abbrev pub ReachedAt : List Interest → ℕ → Option (Resolving Metric) → Option (Resolving Metric) → Type 0
ReachedAt out k old new = AtPeer (IsReached out k) old new

abbrev pub AllReached : List Interest → Resolvers → Resolvers → Type 0
AllReached out a a' = (k : ℕ) → ReachedAt out k (resolver_at k a) (resolver_at k a')

-- so it is with one interest
abbrev pub ReachesOne : Interest → Resolvers → Resolvers → Type 0
ReachesOne i a a' = (k : ℕ) → AtPeer (IsReachedBy i k) (resolver_at k a) (resolver_at k a')

-- nothing changes below, whatever stands above, and as many next hops are known
pub record StaysBelow (a a' : Resolvers) : Type 0 where
  pub rows : (uppers : PeerRows) → res_at a' uppers ≡ res_at a uppers
  pub links : (uppers : PeerRows) → hop_links a' uppers ≡ hop_links a uppers
  pub counted : (uppers : PeerRows) → AllCounted uppers a → AllCounted uppers a'
  pub known : known_in a' ≡ known_in a
  pub peers : HaveSamePeers a a'

-- Where the register gave these up with a change of the interior routes, and the resolvers agreed with it before, they do again.
pub record ReachesBelow (out : List Interest) (a a' : Resolvers) : Type 0 where
  pub reaches : AllReached out a a'
  pub sound : IsHops a'
  pub stays : StaysBelow a a'
  pub agree : (was is : Registry Interior) → AllAgree a was → is.interests ≡ without was.interests out → KeepsAnswers was is → AllAgree a' is
