use Rattle.router_moments.proofs.Common.{sym, ◌∙◌, ap, ◌≡◌, true, false, RouteDel, speaker_since, branch_of, Moment}
use Rattle.std.proofs.Common.{is_some}
use Rattle.std.specs.FinMap as tables
use Rattle.router_network.proofs.RouteSteps.{route_dropped, nothing_dropped}
use Rattle.router_network.proofs.network.Network.route_del.Goals as goal

pub returns-then-not-has-clause-steps : goal.returns-then-not-has-clause-steps
returns-then-not-has-clause-steps g c =
    let is : c.has.result ≡ is_some (tables.get (branch_of c.args.proto c.args.self.now.tree).tables.live c.args.p) =
    c.has.ensures ∙ ap (λ (m : Moment). is_some (tables.get (branch_of c.args.proto m.tree).tables.live c.args.p)) c.self.view_is in
    let none : c.has.result ≡ false = cc in
    nothing_dropped c.ignored.result c.args.proto c.args.p c.args.self.now c.args.journal.now c.ignored.new.journal c.requires.stands (sym is ∙ none) c.ignored.ensures

pub route-requires-clause-since : goal.route-requires-clause-since
route-requires-clause-since g c = speaker_since c.args.self.now.declared (RouteDel c.args.proto c.args.p) (λ e. cc) c.requires.admitted

pub returns-clause-steps : goal.returns-clause-steps
returns-clause-steps g c =
    let is : c.has.result ≡ is_some (tables.get (branch_of c.args.proto c.args.self.now.tree).tables.live c.args.p) =
    c.has.ensures ∙ ap (λ (m : Moment). is_some (tables.get (branch_of c.args.proto m.tree).tables.live c.args.p)) c.self.view_is in
    let some : c.has.result ≡ true = cc in
    route_dropped c.args.proto c.args.p c.args.self.now c.route.new.self c.args.journal.now c.route.new.journal c.flush.new.self c.requires.stands (speaker_since c.args.self.now.declared (RouteDel c.args.proto c.args.p) (λ e. cc) c.requires.admitted) (sym is ∙ some) c.in_ok-route.ensures.sets c.in_ok-flush.ensures.ok
