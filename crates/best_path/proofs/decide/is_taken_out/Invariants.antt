use Rattle.best_path.proofs.NearestLemmas.{NoneTakesOut}
use Rattle.best_path.proofs.decide.is_taken_out.Given as goal

abbrev pub invariant-loop-i : goal.invariant-loop-i
invariant-loop-i l = NoneTakesOut l.candidates l.i l.lead l.other
