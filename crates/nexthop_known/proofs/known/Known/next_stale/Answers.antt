use Rattle.std.proofs.Common.{◌≡◌, true, false}
use Rattle.nexthop_known.proofs.KnownLemmas.{none_stale, least_stale}
use Rattle.nexthop_known.proofs.known.Known.next_stale.Goals as goal

pub returns-in-None : goal.returns-in-None
returns-in-None g c =
    none_stale c.self.inside.hops c.self.inside.stale c.self.inside.held c.args.self.now c.self.invariant.tied c.self.view_is
    (λ some. let clash : false ≡ true = c.in-None.ensures.variant.1 some in absurd (cc))

pub returns-in-Some : goal.returns-in-Some
returns-in-Some g c = least_stale c.self.inside.hops c.self.inside.stale c.self.inside.held c.args.self.now c.in-Some.hop.now c.self.invariant.tied c.self.view_is c.in-Some.ensures.member c.in-Some.ensures.least
