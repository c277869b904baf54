use Rattle.std.proofs.Common.{suc, drop, Some, None, subst}
use Rattle.policy_rules.specs.Judged.{Outcome}
use Rattle.policy_rules.proofs.PassLemmas.{one_more_at, accepts, rejects, decided, passed_by_all}
use Rattle.policy_rules.proofs.KeptLemmas.{judged_keeps}
use Rattle.policy_rules.proofs.VerdictLemmas.{judged_so}
use Rattle.policy_rules.proofs.judging.judge.Goals as goal

pub returns-in-Accept-clause-judged : goal.returns-in-Accept-clause-judged
returns-in-Accept-clause-judged g c =
    let items = c.as_slice-rule-items.result.now in
    decided c.args.prefix items c.args.rules.now c.loop-rule.rule-index c.rule-item.result c.args.route c.loop-rule.route
    (Some c.outcome.new.route) c.as_slice-rule-items.ensures c.loop-rule-test.true c.rule-item.is c.loop-rule.invariant
    (accepts c.args.prefix c.rule-item.result (drop (suc c.loop-rule.rule-index) items) c.loop-rule.route c.outcome.new.route
    (subst (λ v. Outcome v c.rule-item.result c.args.prefix c.loop-rule.route c.outcome.new.route) c.in-Accept.is c.outcome.ensures))

pub returns-in-Reject-clause-judged : goal.returns-in-Reject-clause-judged
returns-in-Reject-clause-judged g c =
    let items = c.as_slice-rule-items.result.now in
    decided c.args.prefix items c.args.rules.now c.loop-rule.rule-index c.rule-item.result c.args.route c.loop-rule.route
    None c.as_slice-rule-items.ensures c.loop-rule-test.true c.rule-item.is c.loop-rule.invariant
    (rejects c.args.prefix c.rule-item.result (drop (suc c.loop-rule.rule-index) items) c.loop-rule.route c.outcome.new.route
    (subst (λ v. Outcome v c.rule-item.result c.args.prefix c.loop-rule.route c.outcome.new.route) c.in-Reject.is c.outcome.ensures))

pub loop-rule-preserved : goal.loop-rule-preserved
loop-rule-preserved g c =
    one_more_at c.args.prefix c.as_slice-rule-items.result.now c.loop-rule.rule-index c.rule-item.result c.args.route
    c.loop-rule.route c.outcome.new.route c.loop-rule-test.true c.rule-item.is c.loop-rule.invariant
    (subst (λ v. Outcome v c.rule-item.result c.args.prefix c.loop-rule.route c.outcome.new.route) c.in-Next.is c.outcome.ensures)

pub returns-clause-judged : goal.returns-clause-judged
returns-clause-judged g c =
    passed_by_all c.args.prefix c.as_slice-rule-items.result.now c.args.rules.now c.loop-rule.rule-index c.args.route
    c.loop-rule.route c.as_slice-rule-items.ensures c.loop-rule-test.false c.loop-rule.invariant

pub returns-in-Accept-clause-kept : goal.returns-in-Accept-clause-kept
returns-in-Accept-clause-kept g c =
    judged_keeps c.args.prefix c.args.rules.now c.args.route (Some c.outcome.new.route) (returns-in-Accept-clause-judged g c)

pub returns-clause-kept : goal.returns-clause-kept
returns-clause-kept g c =
    judged_keeps c.args.prefix c.args.rules.now c.args.route (Some c.loop-rule.route) (returns-clause-judged g c)

pub returns-in-Accept-clause-value : goal.returns-in-Accept-clause-value
returns-in-Accept-clause-value g c =
    judged_so c.args.rules.now c.args.prefix c.args.route (Some c.outcome.new.route) (returns-in-Accept-clause-judged g c)

pub returns-in-Reject-clause-value : goal.returns-in-Reject-clause-value
returns-in-Reject-clause-value g c =
    judged_so c.args.rules.now c.args.prefix c.args.route None (returns-in-Reject-clause-judged g c)

pub returns-clause-value : goal.returns-clause-value
returns-clause-value g c =
    judged_so c.args.rules.now c.args.prefix c.args.route (Some c.loop-rule.route) (returns-clause-judged g c)
