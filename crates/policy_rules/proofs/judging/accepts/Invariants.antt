use Rattle.std.proofs.Common.{◌≡◌, drop}
use Rattle.policy_rules.proofs.AcceptLemmas.{accepted_by}
use Rattle.policy_rules.proofs.judging.accepts.Given as goal

abbrev pub invariant-loop-rule : goal.invariant-loop-rule
invariant-loop-rule g l = accepted_by l.rule-items l.prefix l.attrs ≡ accepted_by (drop l.rule-index l.rule-items) l.prefix l.attrs
