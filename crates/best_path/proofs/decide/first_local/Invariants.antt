use Rattle.std.proofs.Common.{◌≡◌, take, map, List, []}
use Rattle.bgp_attr.specs.Routes.{Route}
use Rattle.best_path.specs.Keys.{candidate_of}
use Rattle.best_path.specs.Places.{those_local}
use Rattle.best_path.proofs.decide.first_local.Given as goal

abbrev pub invariant-loop-i : goal.invariant-loop-i
invariant-loop-i l = (routes : List Route) → map candidate_of routes ≡ l.candidates → those_local (take l.i routes) ≡ []
