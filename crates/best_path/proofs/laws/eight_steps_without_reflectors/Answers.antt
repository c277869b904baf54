use Rattle.best_path.proofs.EightLemmas.{eight_leave_the_same, eight_pick_the_same}
use Rattle.best_path.proofs.laws.eight_steps_without_reflectors.Goals as goal

pub returns : goal.returns
returns c = record { left = eight_leave_the_same; best = eight_pick_the_same }
