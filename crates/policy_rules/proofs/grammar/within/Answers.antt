use Rattle.std.proofs.Common.{sym}
use Rattle.policy_rules.specs.Words.{words}
use Rattle.policy_rules.proofs.GrammarLemmas.{five_words}
use Rattle.policy_rules.proofs.grammar.within.Goals as goal

pub returns-clause-value : goal.returns-clause-value
returns-clause-value g c =
    five_words g.F.Family.V6 c.args.profile.as4 c.args.prefix.now c.in_ok-ge.ge.now c.in_ok-least.least.now c.in_ok-le.le.now
    c.in_ok-most.most.now c.in_ok-condition.condition (words c.args.rest.now) (words c.in_ok-ge.rest.now)
    (words c.in_ok-least.rest.now) (words c.in_ok-le.rest.now) (words c.in_ok-most.rest.now) c.in_ok-ge.ensures
    c.in_ok-least.ensures c.in_ok-le.ensures c.in_ok-most.ensures (sym c.in_ok-condition.ensures)
