use Rattle.std.proofs.Common.{◌<◌, ◌++◌, ◌∙◌, ap, sym, subst, length, arith, inr, refl, length-append, List, ℕ}
use Rattle.check_run.specs.Stages.{stage}
use Rattle.check_run.proofs.Walks.{TakesLine, begins_short, begins_long, long_is_not_lawful}
use Rattle.check_run.proofs.checking.Checking.begin.Goals as goal

pub returns-then-len-gt-LONGEST_PART-clause-goes_on : goal.returns-then-len-gt-LONGEST_PART-clause-goes_on
returns-then-len-gt-LONGEST_PART-clause-goes_on c =
    let items = c.in_ok-extend_from_slice.ensures.items in
    let long : 65537 < length (c.args.self.now.pending.items ++ c.args.part.now) = omega (arith, c.len.ensures, ap length items) in
    begins_long c.in_ok-checked.checked (stage c.args.self.now) _ c.args.part.now c.requires.part long
    (subst (λ (line : List ℕ). TakesLine c.args.self.now.walk line c.check.new.self) (c.as_slice.ensures.value ∙ items) c.in_ok-checked.ensures.after)
    (sym c.in_ok-checked.ensures.state)

pub returns-then-len-gt-LONGEST_PART-clause-nearer : goal.returns-then-len-gt-LONGEST_PART-clause-nearer
returns-then-len-gt-LONGEST_PART-clause-nearer c =
    let items = c.in_ok-extend_from_slice.ensures.items in
    let long : 65537 < length (c.args.self.now.pending.items ++ c.args.part.now) = omega (arith, c.len.ensures, ap length items) in
    λ lawful. absurd (long_is_not_lawful c.in_ok-checked.checked (stage c.args.self.now) (stage (record { walk = c.check.new.self; pending = c.extend_from_slice.new.self })) c.args.part.now long
    (subst (λ (line : List ℕ). TakesLine c.args.self.now.walk line c.check.new.self) (c.as_slice.ensures.value ∙ items) c.in_ok-checked.ensures.after)
    (sym c.in_ok-checked.ensures.state) c.requires.ready lawful)

pub returns-clause-goes_on : goal.returns-clause-goes_on
returns-clause-goes_on c =
    begins_short (stage c.args.self.now) _ c.args.part.now c.requires.part refl c.in_ok-extend_from_slice.ensures.items (omega (arith, c.len.ensures))

pub returns-clause-nearer : goal.returns-clause-nearer
returns-clause-nearer c = λ lawful. inr (refl, ap length c.in_ok-extend_from_slice.ensures.items ∙ length-append c.args.self.now.pending.items c.args.part.now)
