use Rattle.forward_determinism.proofs.TurnLemmas as turns
use Rattle.forward_determinism.proofs.a_turn_makes_one.Goals as goal

pub returns-clause-turn : goal.returns-clause-turn
returns-clause-turn c = turns.turn_is_one c.what_a_resolver_makes_is_one.ensures.turned c.what_a_client_asks_is_one.ensures

pub returns-clause-work : goal.returns-clause-work
returns-clause-work c = turns.turn_has_work c.what_a_resolver_makes_is_one.ensures.work
