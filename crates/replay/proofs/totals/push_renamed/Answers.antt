use Rattle.std.proofs.Common.{◌++◌, drop, ap, ◌∙◌, append_assoc}
use Rattle.replay.proofs.TotalLemmas.{slice_rest}
use Rattle.replay.proofs.totals.push_renamed.Goals as goal

pub returns : goal.returns
returns c =
    c.in_ok-extend_from_slice-2.ensures.items
    ∙ (ap (λ t. c.extend_from_slice.new.self.items ++ t) (slice_rest 4 c.args.line.now)
    ∙ (ap (λ t. t ++ drop 4 c.args.line.now) c.in_ok-extend_from_slice.ensures.items
    ∙ append_assoc c.args.out.now.items c.args.word.now (drop 4 c.args.line.now)))
