-- The tables of the splitter: what contracts see of the rows of its links. No row is kept of them.
use Rattle.std.specs.Prelude.{◌≡◌, Some}
use Rattle.std.specs.FinMap as map
use Rattle.std.specs.FinMap.{FinMap}
use Rattle.addr4.specs.Prefixes.{AddressPrefix, prefix_cmp}
use Rattle.bgp_attr.specs.Routes.{Route}
use Rattle.rib_route.specs.Rows.{External}
use Rattle.link_change.specs.Rows.{Rows}
use Rattle.link_change.specs.Changes.{IsSent}
use Rattle.link_change.specs.Changes.{Change}
use Rattle.rib_split.specs.Kept.{kept_after}
use Rattle.rib_split.specs.declared.split.BgpLink.{BgpLink}
use Rattle.rib_split.specs.declared.split.BgpLink.TheVariants.{Ebgp, Ibgp}
use Rattle.rib_split.specs.Splits.{Split}
use Rattle.rib_split.specs.declared.split.Split.TheVariants.{Neither, One, Moved}
use Rattle.rib_split.specs.declared.splitter.Splitter.{Splitter}
use Rattle.rib_split.specs.Splitting.{Parted, split_rows, other, Splits}

abbrev pub table_of : Splitter → BgpLink → FinMap prefix_cmp External
table_of s Ebgp = s.ebgp
table_of s Ibgp = s.ibgp

-- the rows of each link
abbrev pub kept_rows : Splitter → Parted
kept_rows s link = map.get (table_of s link)

-- with the row after a change of a link
abbrev pub kept_on : Splitter → BgpLink → Change External → Splitter
kept_on s Ebgp change = record s { ebgp = kept_after s.ebgp change.prefix change.after }
kept_on s Ibgp change = record s { ibgp = kept_after s.ibgp change.prefix change.after }

-- with the rows after all that goes on
abbrev pub kept_all : Splitter → Split → Splitter
kept_all s Neither = s
kept_all s (One link change) = kept_on s link change
kept_all s (Moved link add delete) = kept_on (kept_on s link add) (other link) delete

-- where the change that comes in leads from the best routes to new ones, and the tables have the rows of the links, what goes on
-- leads from these rows to the new ones, in its order, and the tables have the new ones
abbrev pub SplitsOn : Splitter → Splitter → Change Route → Split → Type 0
SplitsOn old new change split =
    (upper now : Rows Route) (p : AddressPrefix) → IsSent upper now p (Some change) → kept_rows old ≡ split_rows upper
    → Splits (split_rows upper) (split_rows now) p split × (kept_rows new ≡ split_rows now)
