use Rattle.std.proofs.Common.{◌≡◌, length}
use Rattle.policy_rules.specs.Words.{words}
use Rattle.policy_rules.specs.Grammar.{rules_of, all_in_front}
use Rattle.policy_rules.proofs.grammar.read_rules.Given as goal

abbrev pub invariant-loop-word : goal.invariant-loop-word
invariant-loop-word g l = rules_of g.F.Family.V6 l.profile.as4 (words l.fn.text) ≡ all_in_front l.rules.items (rules_of g.F.Family.V6 l.profile.as4 (words l.rest))

abbrev pub decreases-loop-word : goal.decreases-loop-word
decreases-loop-word g l = length (words l.rest)
