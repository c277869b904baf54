use Rattle.decision.proofs.CountLemmas.{no_candidate_where_none_is_counted}
use Rattle.decision.proofs.laws.no_candidate_where_none_is_counted.Goals as goal

pub returns : goal.returns
returns c = no_candidate_where_none_is_counted
