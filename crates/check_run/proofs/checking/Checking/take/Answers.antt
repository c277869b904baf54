use Rattle.std.proofs.Common.{◌∷◌, ◌++◌, ◌∙◌, [], option_map, ap, sym, append_assoc}
use Rattle.check_run.specs.Lines.{after_part}
use Rattle.check_run.specs.Stages.{stage}
use Rattle.check_run.proofs.GoingOn.{taken_line, taken_decided, taken_last, nearer_last, still_ready}
use Rattle.check_run.proofs.checking.Checking.take.Goals as goal

pub begin-requires-clause-ready : goal.begin-requires-clause-ready
begin-requires-clause-ready c = still_ready _ _ _ _ c.requires c.loop-next.invariant

pub end-requires-clause-ready : goal.end-requires-clause-ready
end-requires-clause-ready c = still_ready _ _ _ _ c.requires c.loop-next.invariant

pub returns-in_default-clause-goes_on : goal.returns-in_default-clause-goes_on
returns-in_default-clause-goes_on c =
    let e = c.first_line.ensures.whole ∙ ap (λ o. c.first_line.result.0.now ++ after_part (option_map (λ r. r.now) o)) c.in_default.is in
    taken_last c.in_ok-checked.checked _ _ _ _ _ _ e c.loop-next.invariant c.in_ok-checked.ensures.goes_on

pub returns-in_default-clause-nearer : goal.returns-in_default-clause-nearer
returns-in_default-clause-nearer c = λ lawful.
    let e = c.first_line.ensures.whole ∙ ap (λ o. c.first_line.result.0.now ++ after_part (option_map (λ r. r.now) o)) c.in_default.is in
    nearer_last (stage c.args.self.now) (stage c.loop-next.self) (stage c.begin.new.self) _ _ _ e c.loop-next.invariant (c.in_ok-checked.ensures.nearer lawful)

pub loop-next-preserved : goal.loop-next-preserved
loop-next-preserved c =
    let e = c.first_line.ensures.whole ∙ (ap (λ o. c.first_line.result.0.now ++ after_part (option_map (λ r. r.now) o)) c.in-Some.is ∙ sym (append_assoc c.first_line.result.0.now (10 ∷ []) c.in-Some.next.now)) in
    taken_line c.in_ok-ended.ended _ _ _ _ _ _ _ c.in-Lawful.is e c.loop-next.invariant c.in_ok-ended.ensures.goes_on c.in_ok-ended.ensures.nearer

pub returns-in_default-ended-clause-goes_on : goal.returns-in_default-ended-clause-goes_on
returns-in_default-ended-clause-goes_on c =
    let e = c.first_line.ensures.whole ∙ (ap (λ o. c.first_line.result.0.now ++ after_part (option_map (λ r. r.now) o)) c.in-Some.is ∙ sym (append_assoc c.first_line.result.0.now (10 ∷ []) c.in-Some.next.now)) in
    taken_decided c.in_ok-ended.ended _ _ _ _ _ _ _ c.in_default-ended.not-Lawful e c.loop-next.invariant c.in_ok-ended.ensures.goes_on

pub returns-in_default-ended-clause-nearer : goal.returns-in_default-ended-clause-nearer
returns-in_default-ended-clause-nearer c = λ lawful. absurd (c.in_default-ended.not-Lawful lawful)
