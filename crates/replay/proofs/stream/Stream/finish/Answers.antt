use Rattle.std.proofs.Common.{◌≡◌, ◌++◌, ◌<◌, List, ℕ, arith, subst, sym, length}
use Rattle.std.proofs.lemmas.Bool.Decides.{nat_tests}
use Rattle.check_run.specs.Lines.{lines_of}
use Rattle.router.specs.Networks.{networks_of}
use Rattle.replay.specs.Output.{IsOutputTo}
use Rattle.replay.specs.Stream.{StepsLine, RefusesLine, made}
use Rattle.replay.proofs.Pieces.{ends_clean, ends_line, ends_refused}
use Rattle.replay.proofs.stream.Stream.finish.Goals as goal

pub returns-then-is_empty-clause-accepted : goal.returns-then-is_empty-clause-accepted
returns-then-is_empty-clause-accepted c = λ yes read taken was.
    let none : length c.args.self.now.pending.items ≡ 0 = grind (arith, nat_tests) in
    ends_clean c.args.journal.now.quiet read _ _ _ _ _ none was

pub returns-clause-accepted : goal.returns-clause-accepted
returns-clause-accepted c = λ yes read taken was.
    let some : 0 < length c.args.self.now.pending.items = grind (arith, nat_tests) in
    let quiet = c.args.journal.now.quiet in
    subst (λ (t : ℕ). IsOutputTo quiet (lines_of read) (taken ++ made c.step_line.new.journal) (networks_of c.step_line.new.router) t) (sym c.in_ok-self.ensures)
    (ends_line quiet read taken _ _ _ _ _ _ _ _ some was
    (subst (λ (p : List ℕ). StepsLine quiet c.args.self.now.number (networks_of c.args.self.now.router) p (made c.args.journal.now) (made c.step_line.new.journal) (networks_of c.step_line.new.router) c.in-Some.turns) c.as_slice-line.ensures.value (c.in_ok-turns.ensures.accepted c.in-Some.turns c.in-Some.is)))

pub returns-in_default-clause-refused : goal.returns-in_default-clause-refused
returns-in_default-clause-refused c = λ refused read taken was.
    let some : 0 < length c.args.self.now.pending.items = grind (arith, nat_tests) in
    ends_refused c.args.journal.now.quiet read taken _ _ _ _ _ _ some was
    (subst (λ (p : List ℕ). RefusesLine c.args.self.now.number (networks_of c.args.self.now.router) p (made c.args.journal.now) (made c.step_line.new.journal)) c.as_slice-line.ensures.value (c.in_ok-turns.ensures.refused c.in_default.is))
