use Rattle.std.proofs.Common.{◌≡◌, ◌≤◌, [], length}
use Rattle.policy_rules.specs.Words.{words}
use Rattle.policy_rules.specs.Grammar.{behind}
use Rattle.policy_rules.proofs.grammar.rule_behind.Given as goal

abbrev pub invariant-loop-word : goal.invariant-loop-word
invariant-loop-word g l = record {
  same : behind g.F.Family.V6 l.fn.profile.as4 l.condition [] (words l.fn.text) ≡ behind g.F.Family.V6 l.fn.profile.as4 l.condition l.actions.items (words l.rest);
  shorter : length (words l.rest) ≤ length (words l.fn.text);
}

abbrev pub decreases-loop-word : goal.decreases-loop-word
decreases-loop-word g l = length (words l.rest)
