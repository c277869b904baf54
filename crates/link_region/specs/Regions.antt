-- The links by their regions: each region has a part of the router that gives its links.
use Rattle.std.specs.Prelude.{◌≡◌, ℕ, ◌==◌, cond, List}
use Rattle.journal_text.specs.declared.link.Link.{Link}
use Rattle.journal_text.specs.declared.link.Link.TheVariants.{In, Peer, Filt, Res, Org, Lost, Low, Dyn, Int, Red, Best, ReadRib, Ebgp, Ibgp, Ext, Fib, Read, Outf, Adv}
use Rattle.journal_text.specs.Lines.{Value}
use Rattle.journal_text.specs.Lines.{Entry}
use Rattle.journal_text.specs.Walk.{Links, Leads}
use Rattle.link_region.specs.declared.regions.Region.{Region}
use Rattle.link_region.specs.declared.regions.Region.TheVariants.{Inward, Resolved, Decided, InteriorRoutes, Redistributed, External, Forward, Outward}

-- ---- the table: a line for each link that may be live

abbrev pub region_of : Link → Region
region_of (In k) = Inward
region_of (Peer k s) = Inward
region_of (Filt k) = Inward
region_of (Res k) = Resolved
region_of (Org proto) = InteriorRoutes
region_of (Lost proto n) = InteriorRoutes
region_of Low = InteriorRoutes
region_of Dyn = InteriorRoutes
region_of Int = InteriorRoutes
region_of Red = Redistributed
region_of Best = Decided
region_of ReadRib = External
region_of Ebgp = Forward
region_of Ibgp = Forward
region_of Ext = Forward
region_of Fib = Forward
region_of (Read j s) = Outward
region_of (Outf j s) = Outward
region_of (Adv j s) = Outward

abbrev pub region_number : Region → ℕ
region_number Inward = 0
region_number Resolved = 1
region_number Decided = 2
region_number InteriorRoutes = 3
region_number Redistributed = 4
region_number External = 5
region_number Forward = 6
region_number Outward = 7

-- ---- the same for any table

-- what each region's part says of links
abbrev pub Sides : Type 0
Sides = Region → Links Value

-- each link by the part of its region
abbrev pub joined : Sides → Links Value
joined sides link = sides (region_of link) link

-- another part in one region
abbrev pub with_side : Sides → Region → Links Value → Sides
with_side sides r links s = cond (region_number s == region_number r) links (sides s)

-- Whatever the other regions have, the entries lead from the region's old links to its new ones.
abbrev pub LeadsIn : Region → Links Value → List (Entry Value) → Links Value → Type 0
LeadsIn r old entries new = (sides : Sides) → sides r ≡ old → Leads (joined sides) entries (joined (with_side sides r new))
