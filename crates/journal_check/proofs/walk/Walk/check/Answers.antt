use Rattle.std.proofs.Common.{sym, ap, subst, ◌∙◌, ◌++◌, ◌∷◌, []}
use Rattle.journal_check.specs.Walked.{Walked, IsAfter}
use Rattle.journal_check.proofs.JudgeLemmas.{after_step, after_decided}
use Rattle.journal_check.proofs.walk.Walk.check.Goals as goal
use Rattle.journal_check.proofs.walk.Walk.check.Goals.{in-Lawful+in_ok-step-in-Lawful, in-Broken, in-NotAJournal}

pub returns-clause-after : goal.returns-clause-after
returns-clause-after c lines is =
    let old = c.args.self.now in
    let line = c.args.line.now in
    let P : Walked → Type 0 = λ w. IsAfter (lines ++ line ∷ []) w in
    let state = ap (λ (w : Walked). w.state) c.self.view_is in
    elim c.match-self.branch [
      | in-Lawful+in_ok-step-in-Lawful w ↦ subst P (sym w.self-is) (after_step lines line old w.step.new.self (sym state ∙ w.in-Lawful.is) w.in_ok-step-in-Lawful.ensures is)
      | in-Broken w ↦ subst P (sym w.self-is) (after_decided lines line old (λ e. let clash = sym w.in-Broken.is ∙ (state ∙ e) in cc) is)
      | in-NotAJournal w ↦ subst P (sym w.self-is) (after_decided lines line old (λ e. let clash = sym w.in-NotAJournal.is ∙ (state ∙ e) in cc) is)
    ]
