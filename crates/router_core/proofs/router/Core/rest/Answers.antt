use Rattle.std.proofs.Common.{◌+◌}
use Rattle.router_moments.proofs.CoreLemmas.{moment_stands, moment_exits, exact_after, readers_of}
use Rattle.router_core.proofs.RestLemmas.{rest_acts, rest_stands, stood}
use Rattle.router_core.proofs.router.Core.rest.Goals as goal

pub drain_all-requires-clause-stands : goal.drain_all-requires-clause-stands
drain_all-requires-clause-stands g c = moment_stands c.args.self.now c.self.inside.network c.self.inside.events c.self.inside.failed c.self.view_is c.if-self.false c.requires.stands

pub drain_all-requires-clause-exits : goal.drain_all-requires-clause-exits
drain_all-requires-clause-exits g c = moment_exits c.args.self.now c.self.inside.network c.self.inside.events c.self.inside.failed c.self.view_is c.if-self.false c.requires.stands

pub drain_all-requires-clause-informed : goal.drain_all-requires-clause-informed
drain_all-requires-clause-informed g c = (c.self.invariant c.if-self.false).1

pub returns-clause-acts : goal.returns-clause-acts
returns-clause-acts g c =
    rest_acts c.args.self.now c.self.inside.network c.self.inside.events c.self.inside.failed c.self.view_is c.if-self.false (stood c.args.self.now c.self.inside.network c.self.inside.events c.self.inside.failed c.self.view_is c.if-self.false c.requires.stands) c.in_ok-turns.turns c.drain_all.new.self c.args.journal.now c.drain_all.new.journal c.requires.few c.requires.bound c.requires.admitted c.declarations_follow.ensures c.in_ok-turns.ensures.drained

pub returns-clause-stands : goal.returns-clause-stands
returns-clause-stands g c =
    rest_stands c.args.self.now c.self.inside.network c.self.inside.events c.self.inside.failed c.self.view_is c.if-self.false (stood c.args.self.now c.self.inside.network c.self.inside.events c.self.inside.failed c.self.view_is c.if-self.false c.requires.stands) c.in_ok-turns.turns c.drain_all.new.self c.args.journal.now c.drain_all.new.journal c.requires.few c.requires.bound c.requires.admitted c.declarations_follow.ensures c.in_ok-turns.ensures.drained

pub returns-clause-exact : goal.returns-clause-exact
returns-clause-exact g c =
    exact_after c.rows_at_rest_are_exact.ensures c.drain_all.new.self (c.self.inside.events + 1)
    (rest_stands c.args.self.now c.self.inside.network c.self.inside.events c.self.inside.failed c.self.view_is c.if-self.false (stood c.args.self.now c.self.inside.network c.self.inside.events c.self.inside.failed c.self.view_is c.if-self.false c.requires.stands) c.in_ok-turns.turns c.drain_all.new.self c.args.journal.now c.drain_all.new.journal c.requires.few c.requires.bound c.requires.admitted c.declarations_follow.ensures c.in_ok-turns.ensures.drained)

pub invariant_of-self-2 : goal.invariant_of-self-2
invariant_of-self-2 g c =
    λ _. (
      readers_of c.drain_all.new.self
          (rest_stands c.args.self.now c.self.inside.network c.self.inside.events c.self.inside.failed c.self.view_is c.if-self.false (stood c.args.self.now c.self.inside.network c.self.inside.events c.self.inside.failed c.self.view_is c.if-self.false c.requires.stands) c.in_ok-turns.turns c.drain_all.new.self c.args.journal.now c.drain_all.new.journal c.requires.few c.requires.bound c.requires.admitted c.declarations_follow.ensures c.in_ok-turns.ensures.drained).stands,
      c.in_ok-turns.ensures.informed,
    )
