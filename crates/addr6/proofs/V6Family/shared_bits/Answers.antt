use Rattle.std.proofs.Common.{arith}
use Rattle.addr4.proofs.SharedLemmas.{shared}
use Rattle.addr6.proofs.V6Family.shared_bits.Goals as goal

pub returns-clause-shared : goal.returns-clause-shared
returns-clause-shared c = shared 128 c.args.self.0 c.args.other.0 (omega arith) (omega arith) c.requires

pub returns-clause-short : goal.returns-clause-short
returns-clause-short c = let s = shared 128 c.args.self.0 c.args.other.0 (omega arith) (omega arith) c.requires in omega (arith, s.below)
