use Rattle.std.proofs.Common.{ℕ, sym, ap, subst, ◌∙◌}
use Rattle.router.specs.Networks.{networks_of}
use Rattle.replay.specs.Stream.{StepsLine, made}
use Rattle.replay.proofs.Steps.{steps_line, made_refused}
use Rattle.replay.proofs.stepping.step_line.Goals as goal

pub returns-in_ok-turns-in-Ok-clause-accepted : goal.returns-in_ok-turns-in-Ok-clause-accepted
returns-in_ok-turns-in-Ok-clause-accepted c = λ taken is.
    subst (λ (t : ℕ). StepsLine c.args.journal.now.quiet c.args.number (networks_of c.args.router.now) c.args.line.now (made c.args.journal.now) (made c.step.new.journals) (networks_of c.step.new.self) t) (cc)
    (steps_line c.args.number c.args.router.now c.step.new.self c.args.line.now c.in-Ok.event c.in_ok-turns-in-Ok.turns c.args.journal.now c.step.new.journals (sym c.in_ok-event.ensures.judged ∙ c.in-Ok.is)
    c.requires.stands c.in_ok-turns-in-Ok.ensures.acts c.in_ok-turns-in-Ok.ensures.stands c.in_ok-turns-in-Ok.ensures.exact c.declarations_follow.ensures c.journals_join.ensures
    c.what_is_heard.ensures.joins c.what_is_heard.ensures.stays c.steps_are_heard.ensures.sent)

pub returns-in_ok-push_line-in-Err-clause-refused : goal.returns-in_ok-push_line-in-Err-clause-refused
returns-in_ok-push_line-in-Err-clause-refused c = λ none. record {
  code = c.in-Err.code;
  refused = sym c.in_ok-event.ensures.judged ∙ c.in-Err.is;
  written = ap made c.in_ok-push_line-in-Err.ensures ∙ made_refused c.args.journal.now c.args.number c.in-Err.code;
}
