use Rattle.router_moments.proofs.Common.{RouteAdd, speaker_since}
use Rattle.router_network.proofs.RouteSteps.{route_added}
use Rattle.router_network.proofs.network.Network.route_add.Goals as goal

pub route-requires-clause-since : goal.route-requires-clause-since
route-requires-clause-since g c = speaker_since c.args.self.now.declared (RouteAdd c.args.p c.args.row) (λ e. cc) c.requires.admitted

pub returns-clause-steps : goal.returns-clause-steps
returns-clause-steps g c = route_added c.args.p c.args.row c.args.self.now c.route.new.self c.args.journal.now c.route.new.journal c.flush.new.self c.requires.stands (speaker_since c.args.self.now.declared (RouteAdd c.args.p c.args.row) (λ e. cc) c.requires.admitted) c.in_ok-route.ensures.sets c.in_ok-flush.ensures.ok
