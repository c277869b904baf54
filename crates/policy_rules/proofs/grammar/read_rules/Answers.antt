use Rattle.policy_rules.specs.Words.{words}
use Rattle.policy_rules.proofs.RangeLemmas.{read_ok}
use Rattle.policy_rules.proofs.grammar.read_rules.Goals as goal

pub returns-clause-ranges : goal.returns-clause-ranges
returns-clause-ranges g c =
    read_ok g.F.Family.V6 c.args.profile.as4 (words c.args.text.now) (words c.loop-word.rest.now) c.loop-word.rules.items c.from_vec.result
    c.loop-word.invariant c.in_default.ensures c.from_vec.ensures
