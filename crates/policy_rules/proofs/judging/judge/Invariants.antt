use Rattle.std.proofs.Common.{take}
use Rattle.policy_rules.specs.Judged.{AllPassOn}
use Rattle.policy_rules.proofs.judging.judge.Given as goal

abbrev pub invariant-loop-rule : goal.invariant-loop-rule
invariant-loop-rule g l = AllPassOn l.prefix (take l.rule-index l.rule-items) l.fn.route l.route
