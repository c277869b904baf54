use Rattle.std.proofs.Common.{IfSome, false, subst, sym, ◌∙◌}
use Rattle.policy_rules.specs.Words.{words}
use Rattle.event_text.specs.WellFormed.{IsWellFormed}
use Rattle.event_text.proofs.WellFormedLemmas.{event_ok}
use Rattle.event_text.proofs.grammar.parse.Goals as goal

pub returns-in-Some-clause-words : goal.returns-in-Some-clause-words
returns-in-Some-clause-words c = subst (λ o. IfSome o (IsWellFormed false c.args.profile)) (sym c.in_ok-event.ensures ∙ c.in-Some.is) (event_ok c.args.profile (words c.args.line.now))
