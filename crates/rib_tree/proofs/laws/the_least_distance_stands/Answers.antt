use Rattle.rib_tree.proofs.LawLemmas.{the_least_stands}
use Rattle.rib_tree.proofs.laws.the_least_distance_stands.Goals as goal

pub returns : goal.returns
returns c = the_least_stands c.the_lesser_distance_stands.ensures.one c.the_lesser_distance_stands.ensures.least c.the_lesser_distance_stands.ensures.there c.rows_are_own.ensures
