use Rattle.router_network.specs.contracts.network.Network.{the_view}
use Rattle.router_moments.proofs.RefreshTurns.{exits_are_chains, refresh_took, refresh_rests}
use Rattle.router_network.proofs.network.Network.turn_refresh.Goals as goal

pub resend-requires : goal.resend-requires
resend-requires g c = record { chains = exits_are_chains c.args.self.now _ c.self.view_is c.requires }

pub returns-then-not-again : goal.returns-then-not-again
returns-then-not-again g c = refresh_rests c.args.self.now (the_view g.row.F g.F.Family g.F.Clone c.self.inside) c.args.number c.resend.new.self c.args.journal.now c.resend.new.journal c.in_ok-again.again c.if-not-again.true c.self.view_is c.in_ok-again.ensures

pub returns : goal.returns
returns g c = refresh_took c.args.self.now (the_view g.row.F g.F.Family g.F.Clone c.self.inside) c.args.number c.resend.new.self c.args.journal.now c.resend.new.journal c.flush.new.self c.in_ok-again.again c.if-not-again.false c.self.view_is c.in_ok-again.ensures c.in_ok-flush.ensures.ok
