use Rattle.std.proofs.Common.{◌≤◌, List, ℕ}
use Rattle.std.specs.Io.KnownBytes.{prepend_known}
use Rattle.mrt_reader.specs.Records.{AreBytes}
use Rattle.mrt_reader.proofs.TakenLemmas.{IsTaking}
use Rattle.mrt_reader.proofs.unread.Unread.skip.Given as goal

abbrev pub invariant-skipping : goal.invariant-skipping
invariant-skipping g l = record {
  octets : List ℕ;
  bytes : AreBytes octets;
  taking : IsTaking (prepend_known l.fn.self (g.S.Source.left l.fn.source)) (prepend_known l.self (g.S.Source.left l.source)) l.count l.missing octets;
  later : g.S.Source.faults l.fn.source ≤ g.S.Source.faults l.source;
}

abbrev pub decreases-skipping : goal.decreases-skipping
decreases-skipping g l = l.missing
