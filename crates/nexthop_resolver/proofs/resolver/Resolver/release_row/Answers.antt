use Rattle.std.proofs.Common.{None, sym, subst}
use Rattle.nexthop_resolver.specs.Registered.{told_of}
use Rattle.nexthop_resolver.specs.Takes.{Moves}
use Rattle.nexthop_resolver.proofs.MoveLemmas.{moves_none}
use Rattle.nexthop_resolver.proofs.resolver.Resolver.release_row.Goals as goal

pub returns-in-None-clause-moves : goal.returns-in-None-clause-moves
returns-in-None-clause-moves g c =
    let told = told_of g.A.FromMatch.kept_of c.args.register.now in
    subst (λ o. Moves told o None c.args.self.now c.args.self.now) (sym c.in-None.is) (moves_none told None c.args.self.now)
