use Rattle.std.proofs.Common.{sym, ◌∙◌, arith, subst}
use Rattle.std.specs.Option.{option_copied}
use Rattle.best_path.specs.Leaders.{is_left}
use Rattle.best_path.proofs.NearestLemmas.{NearestFront, nearest_taken, nearest_stays, none_left, nearest_is_first}
use Rattle.best_path.proofs.decide.first_left.Goals as goal
use Rattle.best_path.proofs.decide.first_left.Goals.{then-takes_over, else-takes_over}

pub loop-i-preserved : goal.loop-i-preserved
loop-i-preserved c =
    elim c.if-takes_over.branch [
      | then-takes_over w ↦
          rw (w.best-is, w.place-is)
          (nearest_taken (is_left c.args.candidates.now c.args.lead.now) c.args.candidates.now c.loop-i.i c.index-candidates-i.result
          c.loop-i-test.true c.index-candidates-i.is c.loop-i.place (option_copied c.loop-i.best) c.loop-i.invariant
          (sym c.takes_over.ensures ∙ w.if-takes_over.true))
      | else-takes_over w ↦
          rw (w.best-is, w.place-is)
          (nearest_stays (is_left c.args.candidates.now c.args.lead.now) c.args.candidates.now c.loop-i.i c.index-candidates-i.result
          c.loop-i-test.true c.index-candidates-i.is c.loop-i.place (option_copied c.loop-i.best) c.loop-i.invariant
          (sym c.takes_over.ensures ∙ w.if-takes_over.false))
    ]

pub returns-in-None : goal.returns-in-None
returns-in-None c = λ routes is.
    none_left routes c.args.candidates.now is c.args.lead.now c.requires c.loop-i.i (omega arith)
    (subst (λ o. NearestFront (is_left c.args.candidates.now c.args.lead.now) c.args.candidates.now c.loop-i.i c.loop-i.place (option_copied o))
    c.in-None.is c.loop-i.invariant)

pub returns-in-Some : goal.returns-in-Some
returns-in-Some c = λ routes is.
    nearest_is_first routes c.args.candidates.now is c.args.lead.now c.requires c.loop-i.i c.loop-i.place c.in-Some.field-0.now (omega arith)
    (subst (λ o. NearestFront (is_left c.args.candidates.now c.args.lead.now) c.args.candidates.now c.loop-i.i c.loop-i.place (option_copied o))
    c.in-Some.is c.loop-i.invariant)
