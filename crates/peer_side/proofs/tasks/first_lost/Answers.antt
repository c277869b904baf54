use Rattle.std.proofs.Common.{sym, ap, subst}
use Rattle.std.specs.Map.{values_of}
use Rattle.peer_side.specs.Peers.{first_lost}
use Rattle.peer_side.proofs.HeldLemmas.{AllFew, all_few}
use Rattle.peer_side.proofs.tasks.first_lost.Goals as goal

pub loop-chain-init : goal.loop-chain-init
loop-chain-init g c =
    let gives = c.into_iter-chain-iterator.ensures.into_iter_gives in
    record {
      first = ap (λ es. first_lost c.args.p (values_of es)) gives.0;
      few = subst AllFew (sym gives.0) (all_few c.args.chains.now gives.5 c.requires.few);
    }
