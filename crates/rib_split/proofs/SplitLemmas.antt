-- What a change of the best routes comes to on the two links.
use Rattle.std.proofs.Common.{◌≡◌, Option, Some, None, refl, ap}
use Rattle.addr4.specs.Prefixes.{AddressPrefix}
use Rattle.bgp_attr.specs.Routes.{Route}
use Rattle.rib_route.specs.Rows.{External}
use Rattle.link_change.specs.Rows.{Rows}
use Rattle.link_change.specs.Changes.{IsSent}
use Rattle.link_change.specs.Changes.{Change}
use Rattle.link_change.proofs.RowLemmas.{same_function}
use Rattle.link_change.proofs.ChangeLemmas.{computes_on}
use Rattle.rib_split.specs.declared.split.BgpLink.{BgpLink}
use Rattle.rib_split.specs.declared.split.BgpLink.TheVariants.{Ebgp, Ibgp}
use Rattle.rib_split.specs.Splits.{Split}
use Rattle.rib_split.specs.declared.split.Split.TheVariants.{Neither, One, Moved}
use Rattle.rib_split.specs.Splitting.{external_row, other, on_link, Parted, split_rows, Moves, Splits, IsChangeOn, IsSplitOf}

moves_by : (link : BgpLink) (old new : Parted) (p : AddressPrefix) (add delete : Change External) → add.before ≡ None → delete.after ≡ None
    → IsSent (old link) (new link) p (Some add) → IsSent (old (other link)) (new (other link)) p (Some delete) → Moves link old new p add delete
moves_by Ebgp old new p add delete a d here there = record { adds = a; deletes = d; first = (here, refl); second = (there, refl) }
moves_by Ibgp old new p add delete a d here there = record { adds = a; deletes = d; first = (here, refl); second = (there, refl) }

module _ (change : Change Route) (upper now : Rows Route) (p : AddressPrefix) (sent : IsSent upper now p (Some change)) where
  -- each link has its change
  on_each : (link : BgpLink) (below : Option (Change External)) → IsChangeOn link change.prefix (external_row change.before) (external_row change.after) below
      → IsSent (split_rows upper link) (split_rows now link) p below
  on_each link below is =
      let made : AddressPrefix → Option Route → Option External = λ q row. on_link link (external_row row) in
      computes_on made change (on_link link (external_row change.before)) (on_link link (external_row change.after)) below refl refl is upper now p sent

  pub splits_on : (split : Split) → IsSplitOf change.prefix (external_row change.before) (external_row change.after) split
      → Splits (split_rows upper) (split_rows now) p split
  splits_on Neither is = same_function _ _ (λ link. on_each link None (ap (on_link link) is))
  splits_on (One link below) is = (on_each link (Some below) is.0, on_each (other link) None is.1)
  splits_on (Moved link add delete) is =
      moves_by link _ _ p add delete is.2 is.3 (on_each link (Some add) is.0) (on_each (other link) (Some delete) is.1)
