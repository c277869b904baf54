use Rattle.std.proofs.Common.{IfSome, false, subst, sym, ◌∙◌}
use Rattle.policy_rules.specs.Words.{words}
use Rattle.event_text.specs.WellFormed.{IsWellFormed}
use Rattle.event_text.specs.FileEvents.{IsWellSaid}
use Rattle.event_text.proofs.WellFormedLemmas.{event_ok}
use Rattle.event_text.proofs.FileLemmas.{second_ok}
use Rattle.event_text.proofs.file.parse_file.Goals as goal

pub returns-in-Some-clause-words : goal.returns-in-Some-clause-words
returns-in-Some-clause-words c = subst (λ o. IfSome o (IsWellFormed false c.args.profile)) (sym c.in_ok-event.ensures ∙ c.in-Some.is) (event_ok c.args.profile (words c.args.line.now))

pub returns-in-Some-2-clause-words : goal.returns-in-Some-2-clause-words
returns-in-Some-2-clause-words c = subst (λ o. IfSome o (IsWellSaid c.args.profile)) (sym c.in_ok-event-2.ensures ∙ c.in-Some-2.is) (second_ok c.args.profile (words c.args.line.now))
