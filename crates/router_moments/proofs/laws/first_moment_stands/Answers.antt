use Rattle.router_moments.proofs.CoreLemmas.{first_moment_stands}
use Rattle.router_moments.proofs.laws.first_moment_stands.Goals as goal

pub returns : goal.returns
returns c v6 = first_moment_stands v6 c.a_new_tree_stands.ensures
