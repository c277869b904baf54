use Rattle.std.proofs.Common.{None, Some, refl, ◌∙◌, subst}
use Rattle.std.specs.Option.{option_map}
use Rattle.addr4.specs.Places.{key_of}
use Rattle.nexthop_resolver.specs.Resolving.{Resolving}
use Rattle.nexthop_resolver.specs.Registered.{told_of}
use Rattle.nexthop_resolver.specs.Takes.{Moves}
use Rattle.nexthop_resolver.proofs.MoveLemmas.{noted_again, noted_again_named, noted_first, noted_first_named, again_so, first_so, back_named, back_same}
use Rattle.nexthop_resolver.proofs.resolver.Resolver.note.Goals as goal

pub invariant_of-self-then-not-branch : goal.invariant_of-self-then-not-branch
invariant_of-self-then-not-branch g c =
    noted_again_named (told_of g.A.FromMatch.kept_of c.args.register.now) c.self.inside.client c.self.inside.tallies c.self.inside.known (option_map key_of c.self.inside.walk) c.self.invariant c.args.hop
    c.one_more.new.self (again_so _ _ c.in_ok-one_more.ensures.first c.if-not-branch.true) c.in_ok-one_more.ensures.counts

pub returns-then-not-branch-clause-moves : goal.returns-then-not-branch-clause-moves
returns-then-not-branch-clause-moves g c =
    let told = told_of g.A.FromMatch.kept_of c.args.register.now in
    let new : Resolving g.row.A.Denot =
    record { client = c.self.inside.client; counts = c.one_more.new.self; known = c.self.inside.known; walk = option_map key_of c.self.inside.walk } in
    subst (λ (s : Resolving g.row.A.Denot). Moves told None (Some c.args.hop) s new) c.self.view_is
    (noted_again told c.self.inside.client c.self.inside.tallies c.self.inside.known (option_map key_of c.self.inside.walk) c.self.invariant c.args.hop
    c.one_more.new.self (again_so _ _ c.in_ok-one_more.ensures.first c.if-not-branch.true) c.in_ok-one_more.ensures.counts)

pub invariant_of-self-in-Ok : goal.invariant_of-self-in-Ok
invariant_of-self-in-Ok g c =
    noted_first_named (told_of g.A.FromMatch.kept_of c.args.register.now) c.self.inside.client c.self.inside.tallies c.self.inside.known (option_map key_of c.self.inside.walk) c.self.invariant c.args.hop
    c.one_more.new.self c.learn.new.known _ c.in_ok-one_more.ensures.counts c.in-Ok.ensures.learns.1

pub invariant_of-self-in-Err : goal.invariant_of-self-in-Err
invariant_of-self-in-Err g c =
    back_named c.self.inside.tallies c.one_more.new.self c.one_less.new.self c.self.inside.known c.learn.new.known c.args.hop c.self.invariant
    c.in_ok-one_more.ensures.counts c.one_less.ensures.counts c.in-Err.ensures.memory

pub returns-in-Ok-clause-moves : goal.returns-in-Ok-clause-moves
returns-in-Ok-clause-moves g c =
    let told = told_of g.A.FromMatch.kept_of c.args.register.now in
    let new : Resolving g.row.A.Denot =
    record { client = c.self.inside.client; counts = c.one_more.new.self; known = c.learn.new.known; walk = option_map key_of c.self.inside.walk } in
    subst (λ (s : Resolving g.row.A.Denot). Moves told None (Some c.args.hop) s new) c.self.view_is
    (noted_first told c.self.inside.client c.self.inside.tallies c.self.inside.known (option_map key_of c.self.inside.walk) c.self.invariant c.args.hop
    c.one_more.new.self c.learn.new.known _ (first_so _ _ c.in_ok-one_more.ensures.first c.if-not-branch.false) c.in_ok-one_more.ensures.counts
    (record { in_force = refl; fresh = refl; subnet = c.in-Ok.ensures.learns.0; came = refl; largest = c.in-Ok.ensures.learns.2 }) c.in-Ok.ensures.learns.1)

pub returns-in-Err-clause-memory : goal.returns-in-Err-clause-memory
returns-in-Err-clause-memory g c =
    back_same c.self.inside.client (option_map key_of c.self.inside.walk) c.self.inside.tallies c.one_more.new.self c.one_less.new.self c.self.inside.known c.learn.new.known c.args.hop
    c.in_ok-one_more.ensures.counts c.one_less.ensures.counts c.in-Err.ensures.memory ∙ c.self.view_is
