use Rattle.peer_out.specs.Changes.{IsSender, MayBeHeard}
use Rattle.bench_rows.proofs.exits.announcing.announce_all.Given as goal

abbrev pub invariant-loop-index : goal.invariant-loop-index
invariant-loop-index l = record { sender : IsSender l.exit.profile l.exit.me; heard : MayBeHeard l.exit.profile l.row.attrs }
