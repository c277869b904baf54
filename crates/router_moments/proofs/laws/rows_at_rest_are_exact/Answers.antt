use Rattle.router_moments.proofs.ScratchLemmas.{at_rest_is_exact}
use Rattle.router_moments.proofs.laws.rows_at_rest_are_exact.Goals as goal

pub returns : goal.returns
returns c = at_rest_is_exact c.losses_hold_up.ensures.exact c.exact_unless_held_up.ensures.exact c.exact_unless_held_up-2.ensures.exact c.exact_unless_held_up-3.ensures.exact
