use Rattle.policy_rules.proofs.VerdictLemmas.{answer_is_judged}
use Rattle.policy_rules.proofs.laws.the_answer_is_judged.Goals as goal

pub returns : goal.returns
returns c = answer_is_judged
