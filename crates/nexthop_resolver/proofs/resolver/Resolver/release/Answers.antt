use Rattle.std.proofs.Common.{None, Some, sym, ◌∙◌, subst}
use Rattle.std.specs.Option.{option_map}
use Rattle.addr4.specs.Places.{key_of}
use Rattle.nexthop_resolver.specs.Resolving.{Resolving}
use Rattle.nexthop_resolver.specs.Registered.{told_of}
use Rattle.nexthop_resolver.specs.Takes.{Moves, KeepsOnly}
use Rattle.nexthop_resolver.proofs.MoveLemmas.{released_more, released_more_named, released_last, released_last_named, forgets_only}
use Rattle.nexthop_resolver.proofs.resolver.Resolver.release.Goals as goal

pub invariant_of-self : goal.invariant_of-self
invariant_of-self g c =
    released_last_named (told_of g.A.FromMatch.kept_of c.args.register.now) c.self.inside.client c.self.inside.tallies c.self.inside.known (option_map key_of c.self.inside.walk) c.self.invariant c.args.hop
    c.one_less.new.self c.forget.new.known (sym c.one_less.ensures.last ∙ c.if-one_less.true) c.one_less.ensures.counts c.forget.ensures.gone

pub invariant_of-self-else-one_less : goal.invariant_of-self-else-one_less
invariant_of-self-else-one_less g c =
    released_more_named (told_of g.A.FromMatch.kept_of c.args.register.now) c.self.inside.client c.self.inside.tallies c.self.inside.known (option_map key_of c.self.inside.walk) c.self.invariant c.args.hop
    c.one_less.new.self (sym c.one_less.ensures.last ∙ c.if-one_less.false) c.one_less.ensures.counts

pub returns-then-one_less-clause-moves : goal.returns-then-one_less-clause-moves
returns-then-one_less-clause-moves g c =
    let told = told_of g.A.FromMatch.kept_of c.args.register.now in
    let new : Resolving g.row.A.Denot =
    record { client = c.self.inside.client; counts = c.one_less.new.self; known = c.forget.new.known; walk = option_map key_of c.self.inside.walk } in
    subst (λ (s : Resolving g.row.A.Denot). Moves told (Some c.args.hop) None s new) c.self.view_is
    (released_last told c.self.inside.client c.self.inside.tallies c.self.inside.known (option_map key_of c.self.inside.walk) c.self.invariant c.args.hop
    c.one_less.new.self c.forget.new.known (sym c.one_less.ensures.last ∙ c.if-one_less.true) c.one_less.ensures.counts c.forget.ensures.gone)

pub returns-then-one_less-clause-only : goal.returns-then-one_less-clause-only
returns-then-one_less-clause-only g c =
    subst (λ (s : Resolving g.row.A.Denot). KeepsOnly s.known c.forget.new.known) c.self.view_is
    (forgets_only (told_of g.A.FromMatch.kept_of c.args.register.now) c.self.inside.client c.self.inside.tallies c.self.inside.known (option_map key_of c.self.inside.walk) c.self.invariant c.args.hop
    c.forget.new.known c.forget.ensures.gone)

pub returns-else-one_less-clause-moves : goal.returns-else-one_less-clause-moves
returns-else-one_less-clause-moves g c =
    let told = told_of g.A.FromMatch.kept_of c.args.register.now in
    let new : Resolving g.row.A.Denot =
    record { client = c.self.inside.client; counts = c.one_less.new.self; known = c.self.inside.known; walk = option_map key_of c.self.inside.walk } in
    subst (λ (s : Resolving g.row.A.Denot). Moves told (Some c.args.hop) None s new) c.self.view_is
    (released_more told c.self.inside.client c.self.inside.tallies c.self.inside.known (option_map key_of c.self.inside.walk) c.self.invariant c.args.hop
    c.one_less.new.self (sym c.one_less.ensures.last ∙ c.if-one_less.false) c.one_less.ensures.counts)
