use Rattle.std.proofs.Common.{◌≡◌, ◌++◌, map, take, drop}
use Rattle.event_text.specs.Declarations.{begun_at}
use Rattle.event_text.proofs.declared.begin_at.Given as goal

abbrev pub invariant-loop-peer : goal.invariant-loop-peer
invariant-loop-peer l = l.peers ≡ map (begun_at l.number) (take l.peer-index l.initial.peers) ++ drop l.peer-index l.initial.peers
