use Rattle.router_network.proofs.KnownRows.{over_none, over_some}
use Rattle.router_network.proofs.network.Network.follow.Goals as goal

pub returns-in-None-clause-informed : goal.returns-in-None-clause-informed
returns-in-None-clause-informed g c = over_none c.args.sent c.args.contests.now c.args.self.now c.in-None.is c.requires.informed

pub pass_on-requires-clause-informed : goal.pass_on-requires-clause-informed
pass_on-requires-clause-informed g c = over_some c.args.sent c.in-Some.change c.args.contests.now c.args.self.now c.in-Some.is c.requires.informed
