use Rattle.std.proofs.Common.{sym, ap, subst}
use Rattle.exit_side.specs.Tasks.{first_of}
use Rattle.exit_side.proofs.TaskLemmas.{AllLive, all_live}
use Rattle.exit_side.proofs.tasks.first_of.Goals as goal

pub loop-number-init : goal.loop-number-init
loop-number-init g c =
    let gives = c.into_iter-number-iterator.ensures.into_iter_gives in
    record {
      first = ap (first_of c.args.queue.now) gives.0;
      live = subst (AllLive c.args.queue.now) (sym gives.0) (all_live c.args.queue.now c.args.chains.now gives.5 c.requires.live);
    }
