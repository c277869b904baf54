use Rattle.std.proofs.Common.{arith}
use Rattle.std.proofs.lemmas.List.Edits.{map_over_more}
use Rattle.event_text.specs.Declarations.{ended_at}
use Rattle.event_text.proofs.declared.end_at.Goals as goal

pub loop-peer-preserved : goal.loop-peer-preserved
loop-peer-preserved c =
    let m = map_over_more (ended_at c.args.number) c.args.peers.now c.loop-peer.peers c.loop-peer.peer-index c.peer-item.result (omega arith) c.loop-peer.invariant c.peer-item.is in
    cc
