use Rattle.loss_chain.proofs.WorkLemmas.{not_empty}
use Rattle.loss_chain.proofs.splice.sweep.Goals as goal

pub unreachable-requires : goal.unreachable-requires
unreachable-requires g c = not_empty c.args.deletion.now c.requires c.in_default.ensures.none
