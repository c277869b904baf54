use Rattle.std.proofs.Common.{Bool, MatchBool, subst, sym}
use Rattle.std.specs.FinMap as map
use Rattle.nexthop_known.specs.Hops.{IsWithSome, IsWithNone}
use Rattle.nexthop_known.proofs.KnownLemmas.{told_with}
use Rattle.nexthop_known.proofs.known.Known.is_answered_with.Goals as goal

pub returns : goal.returns
returns g c =
    subst (λ (b : Bool). MatchBool b (IsWithSome (map.get c.args.self.now) c.args.subnet) (IsWithNone (map.get c.args.self.now) c.args.subnet)) (sym c.is_some.ensures)
    (told_with c.self.inside.hops c.self.inside.stale c.self.inside.held c.args.self.now c.args.subnet c.first_with.result c.self.invariant.tied c.self.view_is c.first_with.ensures)
