use Rattle.addr4.proofs.FrontLemmas.{front_zeros}
use Rattle.addr4.proofs.family.V4Family.known.Goals as goal

pub returns-clause-rest : goal.returns-clause-rest
returns-clause-rest c = front_zeros c.args.self.0
