use Rattle.std.proofs.Common.{◌∙◌, true, false}
use Rattle.policy_rules.specs.declared.rule.Verdict.TheVariants.{Accept, Reject, Next}
use Rattle.policy_rules.proofs.AcceptLemmas.{passes, decides, answer, at_end}
use Rattle.policy_rules.proofs.judging.accepts.Goals as goal
use Rattle.policy_rules.proofs.judging.accepts.Goals.{then-holds+in-Next, else-holds}

pub loop-rule-preserved : goal.loop-rule-preserved
loop-rule-preserved g c =
    let items = c.as_slice-rule-items.result.now in
    c.loop-rule.invariant ∙ elim c.if-holds.branch [
      | then-holds+in-Next w ↦ decides c.args.prefix c.args.attrs.now items c.loop-rule.rule-index c.rule-item.result c.loop-rule-test.true c.rule-item.is c.holds.result Next w.if-holds.true c.holds.ensures w.in-Next.is
      | else-holds w ↦ passes c.args.prefix c.args.attrs.now items c.loop-rule.rule-index c.rule-item.result c.loop-rule-test.true c.rule-item.is c.holds.result w.if-holds.false c.holds.ensures
    ]

pub returns-in-Accept : goal.returns-in-Accept
returns-in-Accept g c r is =
    let items = c.as_slice-rule-items.result.now in
    answer c.args.prefix c.args.attrs.now c.args.rules.now items c.loop-rule.rule-index true r c.as_slice-rule-items.ensures c.loop-rule.invariant
    (decides c.args.prefix c.args.attrs.now items c.loop-rule.rule-index c.rule-item.result c.loop-rule-test.true c.rule-item.is c.holds.result Accept c.if-holds.true c.holds.ensures c.in-Accept.is) is

pub returns-in-Reject : goal.returns-in-Reject
returns-in-Reject g c r is =
    let items = c.as_slice-rule-items.result.now in
    answer c.args.prefix c.args.attrs.now c.args.rules.now items c.loop-rule.rule-index false r c.as_slice-rule-items.ensures c.loop-rule.invariant
    (decides c.args.prefix c.args.attrs.now items c.loop-rule.rule-index c.rule-item.result c.loop-rule-test.true c.rule-item.is c.holds.result Reject c.if-holds.true c.holds.ensures c.in-Reject.is) is

pub returns : goal.returns
returns g c r is =
    let items = c.as_slice-rule-items.result.now in
    answer c.args.prefix c.args.attrs.now c.args.rules.now items c.loop-rule.rule-index true r c.as_slice-rule-items.ensures c.loop-rule.invariant
    (at_end c.args.prefix c.args.attrs.now items c.loop-rule.rule-index c.loop-rule-test.false) is
