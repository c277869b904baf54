use Rattle.std.specs.Option.{option_copied}
use Rattle.best_path.specs.Leaders.{is_left}
use Rattle.best_path.proofs.NearestLemmas.{NearestFront}
use Rattle.best_path.proofs.decide.first_left.Given as goal

abbrev pub invariant-loop-i : goal.invariant-loop-i
invariant-loop-i l = NearestFront (is_left l.candidates l.lead) l.candidates l.i l.place (option_copied l.best)
