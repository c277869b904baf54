use Rattle.router_moments.proofs.BestLemmas.{decides_none}
use Rattle.router_network.proofs.KnownRows.{none_known}
use Rattle.router_network.proofs.network.Network.decide.Goals as goal

pub returns-in-None-clause-decides : goal.returns-in-None-clause-decides
returns-in-None-clause-decides g c = decides_none c.args.number c.args.sent c.args.self.now c.args.journal.now c.in-None.is

pub returns-in-None-clause-known : goal.returns-in-None-clause-known
returns-in-None-clause-known g c = none_known c.args.number c.args.sent c.args.contests.now c.args.self.now c.in-None.is c.requires.known
