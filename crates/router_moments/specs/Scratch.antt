-- Which rows of a moment are what the live state alone asks for (`from_scratch` of `live_state`): all, where no task has work, and at any
-- moment, at each prefix, those of each link that no work holds up there.
use Rattle.std.specs.Prelude.{◌≡◌, ℕ, Bool, true, false, if◌then◌else◌, Option, option_map, IfNone, IfSome}
use Rattle.addr4.specs.Prefixes.{AddressPrefix}
use Rattle.link_change.specs.Rows.{Rows}
use Rattle.rib_route.specs.declared.Proto.TheVariants.{Connected, Static, Ospf, Rip}
use Rattle.journal_text.specs.declared.link.Link.{Link}
use Rattle.journal_text.specs.declared.link.Link.TheVariants.{In, Peer, Filt, Res, Org, Lost, Low, Dyn, Int, Red, Best, ReadRib, Ebgp, Ibgp, Ext, Fib, Read, Outf, Adv}
use Rattle.journal_text.specs.declared.link.Task.{Task}
use Rattle.journal_text.specs.declared.link.Task.TheVariants.{Del, Fin, Nh, ReadRib as Reading, Out, Rdel, Red as Own, Ext as External}
use Rattle.live_state.specs.Decided.{from_scratch}
use Rattle.router_moments.specs.Moments.{Moment, router_links}
use Rattle.router_moments.specs.Lives.{live_state}
use Rattle.router_moments.specs.Turns.{has_work}
use Rattle.router_moments.specs.Holding.{holds_up_at, first_held}

-- ---- exact rows
-- a link has exactly the rows that are decided from scratch, or isn't live where none are
abbrev pub IsExactAt : Moment → Link → Type 0
IsExactAt m link = router_links m link ≡ from_scratch (live_state m) link

-- every link is
abbrev pub IsExact : Moment → Type 0
IsExact m = (link : Link) → IsExactAt m link

-- the row of a link at a prefix, if the link is live
abbrev pub row_in : {V : Type 0} → Option (Rows V) → AddressPrefix → Option (Option V)
row_in rows p = option_map (λ r. r p) rows

-- at a prefix a link has exactly the row that is decided from scratch, or isn't live where none is
abbrev pub IsExactIn : Moment → Link → AddressPrefix → Type 0
IsExactIn m link p = row_in (router_links m link) p ≡ row_in (from_scratch (live_state m) link) p

-- ---- which links the work of a task holds up
-- The turns of a task change the rows of this link, whatever the links above it do: the deletes of a lost session those of its peer's
-- routes, those of a lost protocol those of the protocol's, walks and next hops those of the link below their stage, and who reads `best`
-- what it has read. The link into a deletion stage stands as long as that stage has deletes.
abbrev pub WorksOn : Task → Link → Type 0
WorksOn (Del j s) (In k) = j ≡ k
WorksOn (Del j s) (Peer k t) = (j ≡ k) × (s ≡ t)
WorksOn (Fin j) (Filt k) = j ≡ k
WorksOn (Nh j) (Res k) = j ≡ k
WorksOn (Rdel a n) (Org b) = a ≡ b
WorksOn (Rdel a n) (Lost b k) = (a ≡ b) × (n ≡ k)
WorksOn Own Red = Unit {0}
WorksOn Reading ReadRib = Unit {0}
WorksOn (Out j) (Read k t) = j ≡ k
WorksOn External Fib = Unit {0}
WorksOn task other = ⊥

-- The rows of a link are made of those of this one, among others (NSDI 2005, section 5): a line a stage.
abbrev pub Feeds : Link → Link → Type 0
Feeds (In j) (Filt k) = j ≡ k
Feeds (Filt j) (Res k) = j ≡ k
Feeds Int (Res k) = Unit {0}
Feeds (Org Connected) Low = Unit {0}
Feeds (Org Static) Low = Unit {0}
Feeds (Org Ospf) Dyn = Unit {0}
Feeds (Org Rip) Dyn = Unit {0}
Feeds Low Int = Unit {0}
Feeds Dyn Int = Unit {0}
Feeds Int Red = Unit {0}
Feeds Red Best = Unit {0}
Feeds (Res k) Best = Unit {0}
Feeds Best ReadRib = Unit {0}
Feeds ReadRib Ebgp = Unit {0}
Feeds ReadRib Ibgp = Unit {0}
Feeds Ebgp Ext = Unit {0}
Feeds Ibgp Ext = Unit {0}
Feeds Ext Fib = Unit {0}
Feeds Int Fib = Unit {0}
Feeds Best (Read k t) = Unit {0}
Feeds (Read j s) (Outf k t) = (j ≡ k) × (s ≡ t)
Feeds (Outf j s) (Adv k t) = (j ≡ k) × (s ≡ t)
Feeds upper other = ⊥

-- A task holds a link up, of whose rows its work may keep some from what the live state asks for (NSDI 2005, sections 5.1.1 and 5.1.2):
-- one that it works on, and each link that is made of one that it holds up.
pub data HoldsUp (task : Task) : Link → Type 0 where
  directly : (link : Link) → WorksOn task link → HoldsUp task link
  through : (upper link : Link) → Feeds upper link → HoldsUp task upper → HoldsUp task link

-- ---- rows that no work holds up
-- a link into a deletion stage, which ends with the stage
abbrev pub is_spliced : Link → Bool
is_spliced (Peer k s) = true
is_spliced (Lost proto n) = true
is_spliced other = false

-- whether a task keeps a link, which it holds up, from its rows at a prefix: one into a deletion stage is kept by all work of the stage
abbrev pub keeps_up : Link → Task → Moment → AddressPrefix → Bool
keeps_up link task m p = if is_spliced link then has_work task m else holds_up_at task m p

-- no work holds the link up at the prefix
abbrev pub IsAtRestIn : Moment → Link → AddressPrefix → Type 0
IsAtRestIn m link p = (task : Task) → HoldsUp task link → keeps_up link task m p ≡ false

-- at each prefix each link that no work holds up there has the row that the live state alone asks for
abbrev pub IsExactAtRest : Moment → Type 0
IsExactAtRest m = (link : Link) (p : AddressPrefix) → IsAtRestIn m link p → IsExactIn m link p

-- ---- settled prefixes
-- the rows at a prefix of the best routes, of the forwarding table, and of what each peer was sent are those from scratch
pub record IsSettledAt (m : Moment) (p : AddressPrefix) : Type 0 where
  pub best : IsExactIn m Best p
  pub fib : IsExactIn m Fib p
  pub sent : (j s : ℕ) → IsExactIn m (Adv j s) p

-- What the answer tells, whether a prefix is settled: the first task that holds it up, which has work; where there is none, no task at all
-- holds it up, and its rows are those from scratch.
pub record Tells (m : Moment) (p : AddressPrefix) (answer : Option Task) : Type 0 where
  pub first : answer ≡ first_held m p
  pub works : IfSome answer (λ task. has_work task m ≡ true)
  pub none : IfNone answer ((task : Task) → holds_up_at task m p ≡ false)
  pub settled : IfNone answer (IsSettledAt m p)
