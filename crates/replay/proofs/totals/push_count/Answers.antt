use Rattle.std.proofs.Common.{◌++◌, drop, codes, ap, ◌∙◌}
use Rattle.std.proofs.lemmas.Result.{on_ok_weaker}
use Rattle.replay.proofs.TotalLemmas.{behind_rows}
use Rattle.replay.proofs.totals.push_count.Goals as goal

pub returns : goal.returns
returns c =
    on_ok_weaker c.push_renamed-pushed.result (λ pushed. pushed ∙ ap (λ t. c.args.out.now.items ++ t) (ap (λ x. codes "total" ++ drop 4 x) (c.as_slice.ensures.value ∙ c.in_ok-line.ensures) ∙ behind_rows c.args.link c.args.rows)) c.push_renamed-pushed.ensures
