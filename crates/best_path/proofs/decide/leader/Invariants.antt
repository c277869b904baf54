use Rattle.std.proofs.Common.{◌≡◌, take, map, List, []}
use Rattle.bgp_attr.specs.Routes.{Route}
use Rattle.best_path.specs.Keys.{candidate_of}
use Rattle.best_path.specs.Places.{those_local}
use Rattle.best_path.proofs.NearestLemmas.{LeadsFront}
use Rattle.best_path.proofs.decide.leader.Given as goal

abbrev pub invariant-loop-i : goal.invariant-loop-i
invariant-loop-i l = record {
  lead : LeadsFront l.candidates l.i l.lead;
  local : (routes : List Route) → map candidate_of routes ≡ l.candidates → those_local (take l.i routes) ≡ [];
}
