use Rattle.std.proofs.Common.{◌≡◌, ◌+◌, ◌∙◌, ap, sym, subst, arith, inl, List, ℕ}
use Rattle.std.specs.Str.Lines.{strip_carriage_return}
use Rattle.check_run.specs.Stages.{stage}
use Rattle.check_run.proofs.Walks.{TakesLine, ends, line_counts}
use Rattle.check_run.proofs.checking.Checking.end.Goals as goal

pub returns-clause-goes_on : goal.returns-clause-goes_on
returns-clause-goes_on c =
    let line = c.without_return.ensures ∙ ap strip_carriage_return (c.as_slice.ensures.value ∙ c.in_ok-extend_from_slice.ensures.items) in
    ends c.in_ok-checked.checked (stage c.args.self.now) _ c.args.part.now c.requires.part
    (subst (λ (l : List ℕ). TakesLine c.args.self.now.walk l c.check.new.self) line c.in_ok-checked.ensures.after)
    (sym c.in_ok-checked.ensures.state) c.clear.ensures.items

pub returns-clause-nearer : goal.returns-clause-nearer
returns-clause-nearer c = λ lawful.
    let more : c.check.new.self.number ≡ c.args.self.now.walk.number + 1 = line_counts (stage c.args.self.now) (stage (record { walk = c.check.new.self; pending = c.clear.new.self })) _ c.in_ok-checked.ensures.after (sym c.in_ok-checked.ensures.state ∙ lawful) c.requires.ready in
    inl (omega (arith, more))
