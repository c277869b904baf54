use Rattle.std.proofs.Common.{◌≡◌, length}
use Rattle.replay.specs.Stream.{HasTaken, IsReady, made}
use Rattle.replay.specs.Streams.{state}
use Rattle.replay.proofs.stream.Stream.take_piece.Given as goal

abbrev pub invariant-loop-next : goal.invariant-loop-next
invariant-loop-next l = record {
  taken : HasTaken l.fn.journal.quiet (state l.fn.self) l.piece l.rest (made l.fn.journal) (made l.journal) (state l.self);
  ready : IsReady l.self.number l.self.router;
  quiet : l.journal.quiet ≡ l.fn.journal.quiet;
}

abbrev pub decreases-loop-next : goal.decreases-loop-next
decreases-loop-next l = length l.rest
