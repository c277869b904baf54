use Rattle.router_moments.proofs.SettledLemmas.{only_work}
use Rattle.router_moments.proofs.laws.only_work_holds_up.Goals as goal

pub returns : goal.returns
returns c = only_work c.losses_hold_up.ensures.idle c.tasks_hold_up.ensures.idle c.exact_unless_held_up.ensures.idle c.exact_unless_held_up-2.ensures.idle c.exact_unless_held_up-3.ensures.idle
