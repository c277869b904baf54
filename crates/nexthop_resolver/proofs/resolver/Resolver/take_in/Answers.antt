use Rattle.std.proofs.Common.{subst}
use Rattle.std.specs.Option.{option_map}
use Rattle.nexthop_resolver.specs.Registered.{told_of}
use Rattle.nexthop_resolver.specs.Takes.{Moves}
use Rattle.nexthop_resolver.proofs.MoveLemmas.{keeps_of}
use Rattle.nexthop_resolver.proofs.RowLemmas.{takes_in}
use Rattle.nexthop_resolver.proofs.resolver.Resolver.take_in.Goals as goal

pub returns-clause-taken : goal.returns-clause-taken
returns-clause-taken g c =
    let told = told_of g.A.FromMatch.kept_of c.args.register.now in
    let old = c.args.self.now in
    let new = c.swap.new.self in
    takes_in g.R.Via.hop g.R.Via.made told old new c.args.change c.resolve-before.result c.resolve-after.result c.between.result c.are_named.ensures c.are_named-2.ensures
    (subst (λ o. Moves told o (option_map g.R.Via.hop c.args.change.after) old new) c.hop_of-hop_before.ensures (subst (λ o. Moves told c.hop_of-hop_before.result o old new) c.hop_of-hop_after.ensures c.in_ok-swap.ensures.moves))
    c.resolve-before.ensures c.resolve-after.ensures c.between.ensures

pub returns-clause-keeps : goal.returns-clause-keeps
returns-clause-keeps g c =
    keeps_of (told_of g.A.FromMatch.kept_of c.args.register.now) c.hop_of-hop_before.result c.hop_of-hop_after.result c.args.self.now c.swap.new.self c.in_ok-swap.ensures.moves
