use Rattle.std.proofs.Common.{◌≡◌, ◌<◌, length, arith, subst, sym, List, ℕ}
use Rattle.std.proofs.lemmas.Bool.Decides.{nat_tests}
use Rattle.check_run.specs.Stages.{stage}
use Rattle.check_run.proofs.Walks.{TakesLine, finished, finished_line}
use Rattle.check_run.proofs.checking.Checking.finish.Goals as goal

pub returns-then-is_empty : goal.returns-then-is_empty
returns-then-is_empty c = λ read was.
    let none : length c.args.self.now.pending.items ≡ 0 = grind (arith, nat_tests) in
    finished read (stage c.args.self.now) none was

pub returns : goal.returns
returns c = λ read was.
    let some : 0 < length c.args.self.now.pending.items = grind (arith, nat_tests) in
    finished_line c.in_ok-checked.checked read (stage c.args.self.now) c.check.new.self some
    (subst (λ (line : List ℕ). TakesLine c.args.self.now.walk line c.check.new.self) c.as_slice.ensures.value c.in_ok-checked.ensures.after)
    (sym c.in_ok-checked.ensures.state) was
