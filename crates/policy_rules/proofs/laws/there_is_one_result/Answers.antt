use Rattle.policy_rules.proofs.OneResult.{one_result}
use Rattle.policy_rules.proofs.laws.there_is_one_result.Goals as goal

pub returns : goal.returns
returns c = one_result
