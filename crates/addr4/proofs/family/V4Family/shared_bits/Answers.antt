use Rattle.std.proofs.Common.{arith}
use Rattle.addr4.proofs.SharedLemmas.{shared}
use Rattle.addr4.proofs.FrontLemmas.{front_shared, front_differ}
use Rattle.addr4.proofs.family.V4Family.shared_bits.Goals as goal

pub returns-clause-shared : goal.returns-clause-shared
returns-clause-shared c = front_shared _ _ _ (shared 32 c.args.self.0 c.args.other.0 (omega arith) (omega arith) (front_differ _ _ c.requires))

pub returns-clause-short : goal.returns-clause-short
returns-clause-short c = let s = shared 32 c.args.self.0 c.args.other.0 (omega arith) (omega arith) (front_differ _ _ c.requires) in omega (arith, s.below)
