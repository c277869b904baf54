-- The tables of the splitter.
use Rattle.std.proofs.Common.{◌≡◌, Option, Some, None, sym, ap, ◌∙◌}
use Rattle.std.specs.FinMap as map
use Rattle.std.specs.FinMap.{FinMap}
use Rattle.addr4.specs.Prefixes.{AddressPrefix, prefix_cmp}
use Rattle.bgp_attr.specs.Routes.{Route}
use Rattle.rib_route.specs.Rows.{External}
use Rattle.link_change.specs.Rows.{Rows, with_row}
use Rattle.link_change.specs.Changes.{Change}
use Rattle.link_change.proofs.RowLemmas.{same_function, rows_inserted, rows_removed, empty_rows}
use Rattle.rib_split.specs.Kept.{kept_after}
use Rattle.rib_split.specs.declared.split.BgpLink.{BgpLink}
use Rattle.rib_split.specs.declared.split.BgpLink.TheVariants.{Ebgp, Ibgp}
use Rattle.rib_split.specs.Splits.{Split}
use Rattle.rib_split.specs.declared.split.Split.TheVariants.{Neither, One, Moved}
use Rattle.rib_split.specs.declared.splitter.Splitter.{Splitter}
use Rattle.rib_split.specs.Splitting.{external_row, Parted, split_rows, other, first_on, IsSentOn, Splits, IsSplitOf}
use Rattle.rib_split.specs.Tables.{kept_rows, kept_on, kept_all, SplitsOn}
use Rattle.rib_split.specs.Laws.{TablesBeginEmpty}
use Rattle.rib_split.proofs.SplitLemmas.{splits_on}

rows_kept : (m : FinMap prefix_cmp External) (p : AddressPrefix) (after : Option External) → map.get (kept_after m p after) ≡ with_row (map.get m) p after
rows_kept m p None = rows_removed m p
rows_kept m p (Some row) = rows_inserted m p row

-- a table after the change of its link
kept_there : (m : FinMap prefix_cmp External) (old new : Rows External) (change : Change External) → map.get m ≡ old
    → new ≡ with_row old change.prefix change.after → map.get (kept_after m change.prefix change.after) ≡ new
kept_there m old new change has is =
    rows_kept m change.prefix change.after ∙ ap (λ (rows : Rows External). with_row rows change.prefix change.after) has ∙ sym is

keeps_on : (s : Splitter) (link : BgpLink) (old new : Parted) (p : AddressPrefix) (change : Change External) → kept_rows s ≡ old → IsSentOn link old new p change
    → kept_rows (kept_on s link change) ≡ new
keeps_on s Ebgp old new p change has is = same_function _ _ each
  where
    each : (l : BgpLink) → kept_rows (record s { ebgp = kept_after s.ebgp change.prefix change.after }) l ≡ new l
    each Ebgp = kept_there s.ebgp (old Ebgp) (new Ebgp) change (ap (λ (r : Parted). r Ebgp) has) is.0.2
    each Ibgp = ap (λ (r : Parted). r Ibgp) has ∙ sym is.1
keeps_on s Ibgp old new p change has is = same_function _ _ each
  where
    each : (l : BgpLink) → kept_rows (record s { ibgp = kept_after s.ibgp change.prefix change.after }) l ≡ new l
    each Ebgp = ap (λ (r : Parted). r Ebgp) has ∙ sym is.1
    each Ibgp = kept_there s.ibgp (old Ibgp) (new Ibgp) change (ap (λ (r : Parted). r Ibgp) has) is.0.2

keeps_all : (s : Splitter) (old new : Parted) (p : AddressPrefix) (split : Split) → kept_rows s ≡ old → Splits old new p split → kept_rows (kept_all s split) ≡ new
keeps_all s old new p Neither has is = has ∙ sym is
keeps_all s old new p (One link change) has is = keeps_on s link old new p change has is
keeps_all s old new p (Moved link add delete) has is =
    let half = keeps_on s link old (first_on link old new) p add has is.first in
    keeps_on (kept_on s link add) (other link) (first_on link old new) new p delete half is.second

pub takes_in : (old new : Splitter) (change : Change Route) (split : Split) → IsSplitOf change.prefix (external_row change.before) (external_row change.after) split
    → new ≡ kept_all old split → SplitsOn old new change split
takes_in old new change split is new_is upper now p sent has =
    let leads = splits_on change upper now p sent split is in
    (leads, ap kept_rows new_is ∙ keeps_all old (split_rows upper) (split_rows now) p split has leads)

pub tables_begin_empty : TablesBeginEmpty
tables_begin_empty = same_function _ _ each
  where
    each : (l : BgpLink) → kept_rows (record { ebgp = map.empty; ibgp = map.empty }) l ≡ split_rows (λ q. None) l
    each Ebgp = empty_rows
    each Ibgp = empty_rows
