-- Laws of the side of next hops, for the crates above.
use Rattle.std.specs.Prelude.{◌≡◌, ◌↔◌, ℕ, ◌+◌, ◌≤◌, true, false, List, length, Option, Some, None, IsSome, option_map}
use Rattle.std.specs.List.{Contains}
use Rattle.std.specs.FinMap as tables
use Rattle.addr4.specs.Prefixes.{AddressPrefix}
use Rattle.rib_route.specs.Rows.{Interior}
use Rattle.register_interest.specs.Registers.{Registry}
use Rattle.nexthop_resolver.specs.declared.rows.Metric.{Metric}
use Rattle.nexthop_resolver.specs.Kept.{route_hop, metric_of, with_metric}
use Rattle.nexthop_resolver.specs.Resolving.{Resolving, goes_on}
use Rattle.nexthop_resolver.specs.Registered.{answer_of, KeepsOthers}
use Rattle.journal_text.specs.declared.link.Link.{Link}
use Rattle.journal_text.specs.declared.link.Link.TheVariants.{Res}
use Rattle.journal_text.specs.Lines.{Entry}
use Rattle.journal_text.specs.Lines.{Value}
use Rattle.journal_text.specs.Walk.{Links, Leads}
use Rattle.hop_side.specs.Resolvers.{Resolvers, resolver_at, PeerRows, metric_rows, hop_links, is_res, IsHops, AllAgree, AllCounted, has_hop_work, hop_holds_up, known_of, known_in, Beyonds, left_in, walks_in}
use Rattle.hop_side.specs.Steps.{LeadsRes}

-- ---- at first
-- Without a peer no link is live, and all that is claimed holds.
pub record StandsAtFirst (a : Resolvers) : Type 0 where
  pub links : (uppers : PeerRows) (link : Link) → hop_links a uppers link ≡ None
  pub sound : IsHops a
  pub agree : (r : Registry Interior) → AllAgree a r
  pub counted : (uppers : PeerRows) → AllCounted uppers a
  pub known : known_in a ≡ 0
  pub left : (beyonds : Beyonds) → left_in beyonds a ≡ 0

-- ---- links
-- Links that have these among them, and the same elsewhere: what leads the links `res.K` on leads them on, in whatever region they are.
abbrev pub LeadsAnywhere : Type 0
LeadsAnywhere =
    (old new : Links Value) (entries : List (Entry Value)) (before after : Links Value) → LeadsRes old entries new
    → ((k : ℕ) → before (Res k) ≡ old (Res k)) → ((k : ℕ) → after (Res k) ≡ new (Res k)) → ((link : Link) → is_res link ≡ false → after link ≡ before link)
    → Leads before entries after

-- ---- the register
-- What a client that is no peer does, leaves the agreement of all.
abbrev pub StrangersAgree : Type 0
StrangersAgree =
    (a : Resolvers) (client : ℕ) (was is : Registry Interior) → IsHops a → resolver_at client a ≡ None → KeepsOthers client was is → AllAgree a was → AllAgree a is

-- ---- where no task holds up a prefix
-- There the row of `res.K` is the one that the register's answer makes of the row of `filt.K`.
abbrev pub ExactUnlessHeldUp : Type 0
ExactUnlessHeldUp =
    (a : Resolvers) (uppers : PeerRows) (r : Registry Interior) (k : ℕ) (s : Resolving Metric) (p : AddressPrefix) → IsHops a → AllAgree a r → AllCounted uppers a
    → resolver_at k a ≡ Some s → hop_holds_up a k p (option_map route_hop (uppers k p)) ≡ false
    → metric_rows s (uppers k) p ≡ goes_on route_hop with_metric (λ (h : ℕ). Some (answer_of metric_of r h)) (uppers k p)

-- A task without work holds up none,
abbrev pub NoneHeldUpWithoutWork : Type 0
NoneHeldUpWithoutWork = (a : Resolvers) (k : ℕ) (p : AddressPrefix) (hop : Option ℕ) → has_hop_work a k ≡ false → hop_holds_up a k p hop ≡ false

-- and one with work is a peer's.
abbrev pub WorkIsListed : Type 0
WorkIsListed = (a : Resolvers) (k : ℕ) → has_hop_work a k ≡ true → Contains (tables.keys a) k

-- ---- how many turns are left
-- None exactly where no task has work,
abbrev pub NoneLeftWithoutWork : Type 0
NoneLeftWithoutWork = (a : Resolvers) (beyonds : Beyonds) → ((k : ℕ) → has_hop_work a k ≡ false) ↔ (left_in beyonds a ≡ 0)

-- and, whatever became stale, at most one for each known next hop and those of two whole walks for each peer.
abbrev pub TurnsAreBounded : Type 0
TurnsAreBounded =
    (a : Resolvers) (beyonds : Beyonds) → ((k : ℕ) (place : Option AddressPrefix) → beyonds k place ≤ beyonds k None) → left_in beyonds a ≤ known_in a + walks_in beyonds a

-- Where no more candidates lie beyond any place than before, no more are left.
abbrev pub LeftFollows : Type 0
LeftFollows =
    (a : Resolvers) (before now : Beyonds) → ((k : ℕ) (place : Option AddressPrefix) → now k place ≤ before k place) → left_in now a ≤ left_in before a

-- ---- how many next hops are known
-- No more than the rows that name them: than the prefixes of a list that has the prefix of each row of `filt.K`.
abbrev pub KnownAreFew : Type 0
KnownAreFew =
    (a : Resolvers) (uppers : PeerRows) (k : ℕ) (s : Resolving Metric) (prefixes : List AddressPrefix) → IsHops a → AllCounted uppers a → resolver_at k a ≡ Some s
    → ((q : AddressPrefix) → IsSome (uppers k q) → Contains prefixes q) → known_of s ≤ length prefixes
