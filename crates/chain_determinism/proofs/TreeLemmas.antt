-- What changes of interior routes send down the tree leaves no choice.
use Rattle.std.proofs.Common.{◌≡◌, List, Option}
use Rattle.addr4.specs.Prefixes.{AddressPrefix}
use Rattle.rib_route.specs.Rows.{Interior}
use Rattle.link_change.specs.Changes.{IsSent}
use Rattle.link_change.specs.Changes.{Change}
use Rattle.journal_text.specs.Walk.{no_links}
use Rattle.journal_text.specs.declared.link.Link.{Link}
use Rattle.journal_text.specs.Lines.{Entry}
use Rattle.journal_text.specs.Lines.{Value}
use Rattle.rib_tree.specs.Trees.{Treed, int_rows, beside_tree}
use Rattle.rib_tree.specs.Falls.{FallsTree, way_of_route, way_of_sweep}
use Rattle.stage_determinism.proofs.OneLemmas.{sent_is_one}
use Rattle.chain_determinism.specs.Fronts.{AreDifferent}
use Rattle.chain_determinism.specs.Laws.{RouteFallIsOne, LossFallIsOne}
use Rattle.chain_determinism.proofs.FrontLemmas.{fall_is_one}
use Rattle.chain_determinism.proofs.WayLemmas.{routes_pass_once, losses_pass_once}

-- a fall from a tree to another one, where the way passes no link twice
tree_fall : (old new : Treed) (p : AddressPrefix) (way : List Link) (sent other_sent : Option (Change Interior)) (entries other_entries : List (Entry Value)) → AreDifferent way
    → FallsTree old new p way sent entries → IsSent (int_rows old) (int_rows new) p sent → FallsTree old new p way other_sent other_entries → IsSent (int_rows old) (int_rows new) p other_sent
    → (sent ≡ other_sent) × (entries ≡ other_entries)
tree_fall old new p way sent other_sent entries other_entries different first rows second also = (
  sent_is_one (int_rows old) (int_rows new) p p sent other_sent rows also,
  fall_is_one p way (beside_tree no_links old) (beside_tree no_links new) sent other_sent entries other_entries different first.down second.down (first.leads no_links) (second.leads no_links),
)

-- from the live routes of a protocol,
pub route_fall_is_one : RouteFallIsOne
route_fall_is_one proto p old new sent other_sent entries other_entries tree first rows second also =
    tree_fall old new p (way_of_route proto old) sent other_sent entries other_entries (routes_pass_once proto old tree) first rows second also

-- and from the stage of a loss
pub loss_fall_is_one : LossFallIsOne
loss_fall_is_one proto n p old new sent other_sent entries other_entries tree first rows second also =
    tree_fall old new p (way_of_sweep proto n old) sent other_sent entries other_entries (losses_pass_once proto n old tree) first rows second also
