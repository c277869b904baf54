-- Laws of the splitter, for the crates above.
use Rattle.std.specs.Prelude.{◌≡◌, ◌⊎◌}
use Rattle.std.specs.FinMap as map
use Rattle.addr4.specs.Prefixes.{AddressPrefix}
use Rattle.bgp_attr.specs.Routes.{Route}
use Rattle.rib_route.specs.Rows.{External}
use Rattle.rib_route.specs.Distances.{distance, external_proto}
use Rattle.link_change.specs.Rows.{Rows, no_rows}
use Rattle.link_change.specs.Changes.{Change}
use Rattle.rib_merge.specs.Merging.{merged}
use Rattle.rib_split.specs.declared.split.BgpLink.{BgpLink}
use Rattle.rib_split.specs.declared.split.BgpLink.TheVariants.{Ebgp, Ibgp}
use Rattle.rib_split.specs.Splitting.{Parted, split_rows, first_on, Moves}
use Rattle.rib_split.specs.Tables.{kept_rows}

-- The tables begin as the rows of no routes.
abbrev pub TablesBeginEmpty : Type 0
TablesBeginEmpty = kept_rows (record { ebgp = map.empty; ibgp = map.empty }) ≡ split_rows no_rows

-- the rows of the two links, merged by distance
abbrev pub merged_links : Parted → Rows External
merged_links rows = merged (λ r. distance (external_proto r)) (rows Ebgp) (rows Ibgp)

-- Where a route moves from one link to the other, one of the two changes leaves the merged rows as they are.
abbrev pub MovedChangesOnce : Type 0
MovedChangesOnce =
    (upper now : Rows Route) (link : BgpLink) (p : AddressPrefix) (add delete : Change External) → Moves link (split_rows upper) (split_rows now) p add delete
    → (merged_links (first_on link (split_rows upper) (split_rows now)) ≡ merged_links (split_rows upper))
    ⊎ (merged_links (split_rows now) ≡ merged_links (first_on link (split_rows upper) (split_rows now)))
