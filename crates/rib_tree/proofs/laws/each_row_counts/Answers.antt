use Rattle.rib_tree.proofs.LawLemmas.{none_counts}
use Rattle.rib_tree.proofs.laws.each_row_counts.Goals as goal

pub returns : goal.returns
returns c = none_counts c.the_lesser_distance_stands.ensures.one c.the_lesser_distance_stands.ensures.least c.the_lesser_distance_stands.ensures.there
