-- What contracts see of the RIB's exit: the rows of `ebgp` and `ibgp`, of which none is kept, and what is known of the next hops
-- that rows of `ext` name. What stands on `int`, with which `ext` comes together in `fib`, is told over any rows.
use Rattle.std.specs.Prelude.{◌≡◌, ℕ, ◌+◌, Bool, true, false, cond, Option, Some, None, option_map}
use Rattle.std.specs.FinMap as map
use Rattle.addr4.specs.Prefixes.{AddressPrefix}
use Rattle.bgp_attr.specs.Routes.{Route}
use Rattle.link_change.specs.Rows.{Rows, Candidates, with_rows, together}
use Rattle.rib_route.specs.Rows.{Interior}
use Rattle.rib_route.specs.Rows.{External}
use Rattle.rib_route.specs.Rows.{FibRow}
use Rattle.register_interest.specs.Registers.{Registry}
use Rattle.nexthop_known.specs.Hops.{stale_count}
use Rattle.nexthop_known.specs.Counts.{AreCounted}
use Rattle.nexthop_resolver.specs.Ways.{Way}
use Rattle.nexthop_resolver.specs.Kept.{external_hop, way_of, same_way}
use Rattle.nexthop_resolver.specs.Resolving.{Resolving, AreNamed, nothing_known, named_by}
use Rattle.nexthop_resolver.specs.Registered.{Agrees}
use Rattle.nexthop_resolver.specs.Left.{is_busy, hop_lags, turns_left}
use Rattle.rib_split.specs.declared.split.BgpLink.{BgpLink}
use Rattle.rib_split.specs.declared.split.BgpLink.TheVariants as sides
use Rattle.rib_split.specs.Splitting.{Parted, split_rows}
use Rattle.rib_split.specs.Tables.{kept_rows}
use Rattle.rib_split.specs.Laws.{merged_links}
use Rattle.ext_int.specs.Fibs.{fib_table}
use Rattle.journal_text.specs.declared.link.Link.{Link}
use Rattle.journal_text.specs.declared.link.Link.TheVariants.{Ebgp, Ibgp, Ext, Fib}
use Rattle.journal_text.specs.Lines.{Value}
use Rattle.journal_text.specs.Walk.{Links}
use Rattle.journal_text.specs.Values.{external_value, valued, fib_rows}
use Rattle.rib_exit.specs.RibExits.{RibExit}

-- no row on any link, and no next hop is known
abbrev pub nothing_yet : RibExit
nothing_yet = record { splitter = record { ebgp = map.empty; ibgp = map.empty }; forwarding = nothing_known 0 }

-- ---- rows
-- those of `ext`: at each prefix the row of least distance of `ebgp` and `ibgp`
abbrev pub ext_rows : RibExit → Rows External
ext_rows e = merged_links (kept_rows e.splitter)

-- where walks over `ext` go: to the rows of both links above it
abbrev pub ext_candidates : RibExit → Candidates
ext_candidates e = together (with_rows (kept_rows e.splitter sides.Ebgp)) (with_rows (kept_rows e.splitter sides.Ibgp))

-- those of `fib`, over these rows of `int`
abbrev pub fib_over : RibExit → Rows Interior → Rows FibRow
fib_over e int = fib_table e.forwarding int (ext_rows e)

-- ---- links
abbrev pub external_rows : Rows External → Rows Value
external_rows = valued external_value

-- the link of the journal
abbrev pub journal_link : BgpLink → Link
journal_link sides.Ebgp = Ebgp
journal_link sides.Ibgp = Ibgp

-- the four links, by the rows of the first two, what is known of next hops, and the rows of `int`
abbrev pub links_of : Parted → Resolving Way → Rows Interior → Links Value
links_of rows hops int Ebgp = Some (external_rows (rows sides.Ebgp))
links_of rows hops int Ibgp = Some (external_rows (rows sides.Ibgp))
links_of rows hops int Ext = Some (external_rows (merged_links rows))
links_of rows hops int Fib = Some (fib_rows (fib_table hops int (merged_links rows)))
links_of rows hops int other = None

abbrev pub exit_links : RibExit → Rows Interior → Links Value
exit_links e int = links_of (kept_rows e.splitter) e.forwarding int

-- where walks and lists of a link's rows go, where these are the candidates of `int`
abbrev pub exit_candidates : RibExit → Candidates → Link → Candidates
exit_candidates e int Ebgp = with_rows (kept_rows e.splitter sides.Ebgp)
exit_candidates e int Ibgp = with_rows (kept_rows e.splitter sides.Ibgp)
exit_candidates e int Ext = ext_candidates e
exit_candidates e int Fib = together int (ext_candidates e)
exit_candidates e int other = λ q. false

-- whether the link is one of the four
abbrev pub is_exit_link : Link → Bool
is_exit_link Ebgp = true
is_exit_link Ibgp = true
is_exit_link Ext = true
is_exit_link Fib = true
is_exit_link other = false

-- these four links beside those of the other parts of the router
abbrev pub beside : Links Value → Links Value → Links Value
beside others links link = cond (is_exit_link link) (links link) (others link)

-- ---- what holds between two calls
-- The register knows the exit as client 0, which no peer is. Known are exactly the next hops that have a number of rows.
pub record IsExit (e : RibExit) : Type 0 where
  pub client : e.forwarding.client ≡ 0
  pub named : AreNamed e.forwarding.counts e.forwarding.known

-- the next hops that aren't stale have the register's present answers and their interests, and no interest of the exit is
-- without such a next hop
abbrev pub AgreesWith : RibExit → Registry Interior → Type 0
AgreesWith e r = Agrees way_of e.forwarding.client e.forwarding.known r

-- What ties the exit to the best routes that its reader has: `ebgp` has those from external peers and `ibgp` those from
-- internal ones, and the next hops that the rows of `ext` name are counted.
pub record StandsOver (best : Rows Route) (e : RibExit) : Type 0 where
  pub links : kept_rows e.splitter ≡ split_rows best
  pub counted : AreCounted (named_by external_hop (ext_rows e)) e.forwarding.counts

-- ---- the task
-- whether the task has work: a walk is on, a next hop is stale, or a fresh answer isn't in force
abbrev pub has_ext_work : RibExit → Bool
has_ext_work e = is_busy same_way e.forwarding

-- whether it holds up a prefix: the next hop of the row of `ext` there is stale, or its fresh answer isn't in force there
abbrev pub ext_lags : RibExit → AddressPrefix → Bool
ext_lags e q = hop_lags same_way e.forwarding q (option_map external_hop (ext_rows e q))

-- ---- counts
-- how many next hops are known, and how many of them are stale
abbrev pub known_in : RibExit → ℕ
known_in e = map.len e.forwarding.known

abbrev pub stale_in : RibExit → ℕ
stale_in e = stale_count e.forwarding.known

-- how many rows stand on `ebgp` and `ibgp`
abbrev pub rows_in : RibExit → ℕ
rows_in e = map.len e.splitter.ebgp + map.len e.splitter.ibgp

-- how many turns the task takes, where these numbers count the candidates of `ext` beyond each place
abbrev pub left_in : (Option AddressPrefix → ℕ) → RibExit → ℕ
left_in beyond e = turns_left same_way beyond e.forwarding
