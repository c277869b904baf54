use Rattle.std.proofs.Common.{◌+◌, ◌∷◌, ◌++◌, List, ℕ, [], subst, subst₂, sym, ap, ◌∙◌}
use Rattle.std.specs.Str.Lines.{strip_carriage_return}
use Rattle.router.specs.Networks.{networks_of}
use Rattle.replay.specs.Stream.{HasStepped, StepsLine, RefusesLine, made}
use Rattle.replay.proofs.Pieces.{stepped_line, refused_line}
use Rattle.replay.proofs.stream.Stream.take_end.Goals as goal

pub returns-in_default-clause-goes_on : goal.returns-in_default-clause-goes_on
returns-in_default-clause-goes_on c = λ read taken was. refused_line c.args.journal.now.quiet read taken _ _ _ _ _ _ was
    (subst (λ (p : List ℕ). RefusesLine c.args.self.now.number (networks_of c.args.self.now.router) p (made c.args.journal.now) (made c.step_line.new.journal)) (c.without_return-line.ensures ∙ ap strip_carriage_return c.as_slice.ensures.value) (c.in_ok-turns.ensures.refused c.in_default.is))

pub returns-clause-goes_on : goal.returns-clause-goes_on
returns-clause-goes_on c = λ read taken was.
    let quiet = c.args.journal.now.quiet in
    subst₂ (λ (t : ℕ) (p : List ℕ). HasStepped quiet (read ++ 10 ∷ []) (c.args.self.now.number + 1) (networks_of c.step_line.new.router) t p (taken ++ made c.step_line.new.journal)) (sym c.in_ok-self.ensures) (sym c.clear.ensures.items)
    (stepped_line quiet read taken _ _ _ _ _ _ _ _ was
    (subst (λ (p : List ℕ). StepsLine quiet c.args.self.now.number (networks_of c.args.self.now.router) p (made c.args.journal.now) (made c.step_line.new.journal) (networks_of c.step_line.new.router) c.in-Some.turns) (c.without_return-line.ensures ∙ ap strip_carriage_return c.as_slice.ensures.value) (c.in_ok-turns.ensures.accepted c.in-Some.turns c.in-Some.is)))
