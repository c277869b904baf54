-- What contracts see of the side of next hops: the resolver of each peer, by the peer's number. The rows of the links `filt.K` above them
-- are told over any rows, by the peer's number.
use Rattle.std.specs.Prelude.{◌≡◌, ℕ, ◌+◌, ◌*◌, Bool, true, false, cond, Option, Some, None}
use Rattle.std.specs.List.{sum_by}
use Rattle.std.specs.Ordering.{nat_cmp}
use Rattle.std.specs.FinMap as tables
use Rattle.std.specs.FinMap.{FinMap}
use Rattle.addr4.specs.Prefixes.{AddressPrefix}
use Rattle.bgp_attr.specs.Routes.{Route}
use Rattle.link_change.specs.Rows.{Rows, no_rows}
use Rattle.rib_route.specs.Rows.{Interior}
use Rattle.register_interest.specs.Registers.{Registry}
use Rattle.nexthop_known.specs.Counts.{AreCounted}
use Rattle.nexthop_resolver.specs.declared.rows.Metric.{Metric}
use Rattle.nexthop_resolver.specs.Kept.{route_hop, metric_of, with_metric}
pub use Rattle.nexthop_resolver.specs.Kept.{same_metric}
use Rattle.nexthop_resolver.specs.Resolving.{Resolving, AreNamed, named_by, res_rows}
use Rattle.nexthop_resolver.specs.Registered.{Agrees}
use Rattle.nexthop_resolver.specs.Left.{is_busy, hop_lags, turns_left}
use Rattle.journal_text.specs.declared.link.Link.{Link}
use Rattle.journal_text.specs.declared.link.Link.TheVariants.{Res}
use Rattle.journal_text.specs.Lines.{Value}
use Rattle.journal_text.specs.Walk.{Links}
use Rattle.journal_text.specs.Values.{route_rows}

abbrev pub Resolvers : Type 0
Resolvers = FinMap nat_cmp (Resolving Metric)

-- the resolver of a peer
abbrev pub resolver_at : ℕ → Resolvers → Option (Resolving Metric)
resolver_at k a = tables.get a k

-- with this resolver for a peer
abbrev pub put_resolver : ℕ → Resolving Metric → Resolvers → Resolvers
put_resolver k s a = tables.insert a k s

-- ---- rows and links
-- the rows of the link of each peer, by the peer's number
abbrev pub PeerRows : Type 0
PeerRows = ℕ → Rows Route

-- each route with the metric of the interior route to its next hop, by the answer that holds at its prefix
abbrev pub metric_rows : Resolving Metric → Rows Route → Rows Route
metric_rows s upper = res_rows route_hop with_metric s upper

abbrev pub rows_by : Option (Resolving Metric) → Rows Route → Rows Route
rows_by None upper = no_rows
rows_by (Some s) upper = metric_rows s upper

-- the rows of `res.K`
abbrev pub res_at : Resolvers → PeerRows → PeerRows
res_at a uppers k = rows_by (resolver_at k a) (uppers k)

abbrev pub link_by : Option (Resolving Metric) → Rows Route → Option (Rows Value)
link_by None upper = None
link_by (Some s) upper = Some (route_rows (metric_rows s upper))

-- the live links: `res.K` of each peer
abbrev pub hop_links : Resolvers → PeerRows → Links Value
hop_links a uppers (Res k) = link_by (resolver_at k a) (uppers k)
hop_links a uppers other = None

-- whether the link is a `res.K`
abbrev pub is_res : Link → Bool
is_res (Res k) = true
is_res other = false

-- these links `res.K` beside the links of the other parts of the router
abbrev pub beside : Links Value → Links Value → Links Value
beside others links link = cond (is_res link) (links link) (others link)

-- ---- what holds between two calls
-- A resolver stands under the peer's number, as which the register knows it. Known are exactly the next hops that have a number of rows.
pub record IsHop (k : ℕ) (s : Resolving Metric) : Type 0 where
  pub client : s.client ≡ k
  pub named : AreNamed s.counts s.known

abbrev pub IsHops : Resolvers → Type 0
IsHops a = (k : ℕ) (s : Resolving Metric) → resolver_at k a ≡ Some s → IsHop k s

-- each resolver agrees with the register: its next hops that aren't stale have the present answers and their interests, and no interest
-- of its client is without such a next hop
abbrev pub AllAgree : Resolvers → Registry Interior → Type 0
AllAgree a r = (k : ℕ) (s : Resolving Metric) → resolver_at k a ≡ Some s → Agrees metric_of s.client s.known r

-- the next hops that the rows of each `filt.K` name are counted
abbrev pub AllCounted : PeerRows → Resolvers → Type 0
AllCounted uppers a = (k : ℕ) (s : Resolving Metric) → resolver_at k a ≡ Some s → AreCounted (named_by route_hop (uppers k)) s.counts

-- ---- tasks
-- whether one has work, if there is one
abbrev pub busy_by : Option (Resolving Metric) → Bool
busy_by None = false
busy_by (Some s) = is_busy same_metric s

abbrev pub lags_by : Option (Resolving Metric) → AddressPrefix → Option ℕ → Bool
lags_by None q hop = false
lags_by (Some s) q hop = hop_lags same_metric s q hop

-- whether it holds up a prefix, where the row of `filt.K` there names this next hop, if it does
abbrev pub hop_holds_up : Resolvers → ℕ → AddressPrefix → Option ℕ → Bool
hop_holds_up a k = lags_by (resolver_at k a)

-- whether the task of a peer's next hops has work
abbrev pub has_hop_work : Resolvers → ℕ → Bool
has_hop_work a k = busy_by (resolver_at k a)

-- ---- counts
abbrev pub known_of : Resolving Metric → ℕ
known_of s = tables.len s.known

-- how many next hops all resolvers know, each its own
abbrev pub known_in : Resolvers → ℕ
known_in a = sum_by known_of (tables.values a)

-- how many candidates lie beyond a place of each `filt.K`, by the peer's number
abbrev pub Beyonds : Type 0
Beyonds = ℕ → Option AddressPrefix → ℕ

abbrev pub left_of : Beyonds → Resolving Metric → ℕ
left_of beyonds s = turns_left same_metric (beyonds s.client) s

-- how many turns the tasks of all next hops take
abbrev pub left_in : Beyonds → Resolvers → ℕ
left_in beyonds a = sum_by (left_of beyonds) (tables.values a)

abbrev pub walks_of : Beyonds → Resolving Metric → ℕ
walks_of beyonds s = 2 * (beyonds s.client None + 1)

-- how many turns two whole walks of each take
abbrev pub walks_in : Beyonds → Resolvers → ℕ
walks_in beyonds a = sum_by (walks_of beyonds) (tables.values a)
