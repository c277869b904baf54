use Rattle.std.proofs.Common.{sym, ◌∙◌, subst}
use Rattle.nexthop_resolver.specs.Registered.{told_of}
use Rattle.nexthop_resolver.specs.Takes.{Moves}
use Rattle.nexthop_resolver.proofs.MoveLemmas.{moves_none, swapped, same_hops}
use Rattle.nexthop_resolver.proofs.resolver.Resolver.swap.Goals as goal

pub returns-then-eq-clause-moves : goal.returns-then-eq-clause-moves
returns-then-eq-clause-moves g c =
    let told = told_of g.A.FromMatch.kept_of c.args.register.now in
    subst (λ o. Moves told c.args.before o c.args.self.now c.args.self.now) (same_hops c.args.before c.args.after (sym c.eq.ensures ∙ c.if-eq.true))
    (moves_none told c.args.before c.args.self.now)

pub returns-clause-moves : goal.returns-clause-moves
returns-clause-moves g c =
    swapped (told_of g.A.FromMatch.kept_of c.args.register.now) (told_of g.A.FromMatch.kept_of c.note_row.new.register) c.args.before c.args.after
    c.args.self.now c.note_row.new.self c.release_row.new.self c.in_ok-note_row.ensures.moves c.release_row.ensures.moves c.release_row.ensures.only
