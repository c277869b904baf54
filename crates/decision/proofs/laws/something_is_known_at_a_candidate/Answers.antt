use Rattle.decision.proofs.CountLemmas.{something_is_known}
use Rattle.decision.proofs.laws.something_is_known_at_a_candidate.Goals as goal

pub returns : goal.returns
returns c = something_is_known
