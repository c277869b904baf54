use Rattle.std.proofs.Common.{MatchBool, subst}
use Rattle.std.specs.Option.{option_map}
use Rattle.std.specs.FinMap as map
use Rattle.addr4.specs.Places.{key_of}
use Rattle.nexthop_resolver.specs.Resolving.{Resolving}
use Rattle.nexthop_resolver.specs.Turns.{Rests, HasWork}
use Rattle.nexthop_resolver.proofs.WorkLemmas.{walk_off, stale_work, not_stale, work_or_rest}
use Rattle.nexthop_resolver.proofs.resolver.Resolver.busy.Goals as goal

pub returns-then-is_some-2 : goal.returns-then-is_some-2
returns-then-is_some-2 g c =
    let s : Resolving g.row.A.Denot = record { client = c.self.inside.client; counts = c.self.inside.tallies; known = c.self.inside.known; walk = option_map key_of c.self.inside.walk } in
    subst (λ (x : Resolving g.row.A.Denot). HasWork x) c.self.view_is (stale_work s c.next_stale.result c.is_some-2.result c.next_stale.ensures c.is_some-2.ensures c.if-is_some-2.true)

pub returns : goal.returns
returns g c =
    let s : Resolving g.row.A.Denot = record { client = c.self.inside.client; counts = c.self.inside.tallies; known = c.self.inside.known; walk = option_map key_of c.self.inside.walk } in
    subst (λ (x : Resolving g.row.A.Denot). MatchBool c.differs.result (HasWork x) (Rests x)) c.self.view_is
    (work_or_rest s c.differs.result (walk_off c.self.inside.walk c.is_some.result c.is_some.ensures c.if-is_some.false)
    (not_stale (map.get c.self.inside.known) c.next_stale.result c.is_some-2.result c.next_stale.ensures c.is_some-2.ensures c.if-is_some-2.false) c.differs.ensures)
