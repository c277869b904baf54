use Rattle.router_moments.proofs.SettledLemmas.{first_held_tells}
use Rattle.router_moments.proofs.laws.the_first_task_tells.Goals as goal

pub returns : goal.returns
returns c =
    first_held_tells c.rows_at_rest_are_exact.ensures c.only_work_holds_up.ensures c.losses_hold_up.ensures.listed c.tasks_hold_up.ensures.lost c.tasks_hold_up.ensures.walks c.exact_unless_held_up.ensures.listed c.exact_unless_held_up-2.ensures.listed
