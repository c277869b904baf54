use Rattle.std.proofs.Common.{◌≡◌, take}
use Rattle.policy_rules.proofs.rule.Actions.copy.Given as goal

abbrev pub invariant-loop-action : goal.invariant-loop-action
invariant-loop-action l = l.items.items ≡ take l.action-index l.self
