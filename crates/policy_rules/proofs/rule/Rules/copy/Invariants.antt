use Rattle.std.proofs.Common.{◌≡◌, take}
use Rattle.policy_rules.proofs.rule.Rules.copy.Given as goal

abbrev pub invariant-loop-rule : goal.invariant-loop-rule
invariant-loop-rule g l = l.items.items ≡ take l.rule-index l.self
