use Rattle.std.proofs.Common.{◌≡◌, true, false, Some, subst}
use Rattle.std.specs.Option.{option_map}
use Rattle.addr4.specs.Places.{key_of}
use Rattle.nexthop_resolver.specs.Resolving.{Resolving}
use Rattle.nexthop_resolver.specs.Left.{hop_lags}
use Rattle.nexthop_resolver.proofs.WorkLemmas.{stale_lags, passed_lags, differing_lags}
use Rattle.nexthop_resolver.proofs.resolver.Resolver.hop_lags.Goals as goal

pub returns-then-is_stale : goal.returns-then-is_stale
returns-then-is_stale g c alike tells =
    let s : Resolving g.row.A.Denot = record { client = c.self.inside.client; counts = c.self.inside.tallies; known = c.self.inside.known; walk = option_map key_of c.self.inside.walk } in
    subst (λ (x : Resolving g.row.A.Denot). true ≡ hop_lags alike x c.args.prefix (Some c.args.hop)) c.self.view_is
    (stale_lags alike s c.args.prefix c.args.hop c.is_stale.result c.is_stale.ensures c.if-is_stale.true)

pub returns-then-not-is_in_force : goal.returns-then-not-is_in_force
returns-then-not-is_in_force g c alike tells =
    let s : Resolving g.row.A.Denot = record { client = c.self.inside.client; counts = c.self.inside.tallies; known = c.self.inside.known; walk = option_map key_of c.self.inside.walk } in
    subst (λ (x : Resolving g.row.A.Denot). false ≡ hop_lags alike x c.args.prefix (Some c.args.hop)) c.self.view_is
    (passed_lags alike s c.args.prefix c.args.hop c.is_stale.result c.is_in_force.result c.is_stale.ensures c.if-is_stale.false c.is_in_force.ensures c.if-not-is_in_force.true)

pub returns : goal.returns
returns g c alike tells =
    let s : Resolving g.row.A.Denot = record { client = c.self.inside.client; counts = c.self.inside.tallies; known = c.self.inside.known; walk = option_map key_of c.self.inside.walk } in
    subst (λ (x : Resolving g.row.A.Denot). c.differs_at.result ≡ hop_lags alike x c.args.prefix (Some c.args.hop)) c.self.view_is
    (differing_lags alike s c.args.prefix c.args.hop c.is_stale.result c.is_in_force.result c.differs_at.result c.is_stale.ensures c.if-is_stale.false c.is_in_force.ensures c.if-not-is_in_force.false tells c.differs_at.ensures)
