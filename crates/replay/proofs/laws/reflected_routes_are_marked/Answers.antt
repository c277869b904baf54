use Rattle.replay.proofs.ReflectionLemmas as reflection
use Rattle.replay.proofs.laws.reflected_routes_are_marked.Goals as goal

pub returns : goal.returns
returns c = reflection.reflected_routes_are_marked c.declarations_follow.ensures c.first_moment_stands.ensures c.routes_are_reflected.ensures
