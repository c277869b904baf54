use Rattle.router_moments.proofs.ExitTurns.{reader_is, reads_is, reads_nothing}
use Rattle.router_network.proofs.network.Network.reads.Goals as goal

pub waiting-requires : goal.waiting-requires
waiting-requires g c = reader_is c.args.self.now _ c.self.view_is c.requires c.in-Some.reader c.in-Some.is

pub returns-in-Some : goal.returns-in-Some
returns-in-Some g c = reads_is c.args.self.now _ c.in-Some.reader c.waiting.result c.self.view_is c.requires c.in-Some.is c.waiting.ensures

pub returns-in-None : goal.returns-in-None
returns-in-None g c = reads_nothing c.args.self.now _ c.self.view_is c.in-None.is
