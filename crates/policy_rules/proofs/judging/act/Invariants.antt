use Rattle.std.proofs.Common.{◌≡◌, take}
use Rattle.policy_rules.specs.Judged.{acted}
use Rattle.policy_rules.proofs.judging.act.Given as goal

abbrev pub invariant-loop-action : goal.invariant-loop-action
invariant-loop-action g l = l.route ≡ acted (take l.action-index l.actions) l.fn.route
