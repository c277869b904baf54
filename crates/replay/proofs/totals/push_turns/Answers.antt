use Rattle.std.proofs.Common.{◌++◌, drop, codes, ap, ◌∙◌}
use Rattle.std.proofs.lemmas.Result.{on_ok_weaker}
use Rattle.replay.proofs.TotalLemmas.{behind_work}
use Rattle.replay.proofs.totals.push_turns.Goals as goal

pub returns : goal.returns
returns c =
    on_ok_weaker c.push_renamed-pushed.result (λ pushed. pushed ∙ ap (λ t. c.args.out.now.items ++ t) (ap (λ x. codes "total turns" ++ drop 4 x) (c.as_slice.ensures.value ∙ c.in_ok-line.ensures) ∙ behind_work c.args.turns)) c.push_renamed-pushed.ensures
