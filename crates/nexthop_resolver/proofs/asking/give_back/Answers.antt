use Rattle.std.proofs.Common.{Bool, MatchBool, subst}
use Rattle.std.specs.FinMap as map
use Rattle.nexthop_known.specs.Hops.{IsWithSome, IsWithNone}
use Rattle.nexthop_resolver.proofs.AskLemmas.{needed, not_needed, goes_out, goes_alone}
use Rattle.nexthop_resolver.proofs.asking.give_back.Goals as goal

pub returns-then-not-is_answered_with-clause-agrees : goal.returns-then-not-is_answered_with-clause-agrees
returns-then-not-is_answered_with-clause-agrees g c =
    not_needed g.A.FromMatch.kept_of c.args.client c.args.known.now c.args.register.now c.forget.new.self c.args.subnet c.requires
    (subst (λ (b : Bool). MatchBool b (IsWithSome (map.get c.args.known.now) c.args.subnet) (IsWithNone (map.get c.args.known.now) c.args.subnet))
    c.if-not-is_answered_with.true c.is_answered_with.ensures)
    c.forget.ensures.rows (goes_out c.args.client c.args.register.now c.forget.new.self c.args.subnet c.forget.ensures.interests)

pub returns-then-not-is_answered_with-clause-others : goal.returns-then-not-is_answered_with-clause-others
returns-then-not-is_answered_with-clause-others g c =
    goes_alone c.args.client c.args.register.now c.forget.new.self c.args.subnet c.forget.ensures.rows c.forget.ensures.interests

pub returns-else-not-is_answered_with-clause-agrees : goal.returns-else-not-is_answered_with-clause-agrees
returns-else-not-is_answered_with-clause-agrees g c =
    needed g.A.FromMatch.kept_of c.args.client c.args.known.now c.args.register.now c.args.subnet c.requires
    (subst (λ (b : Bool). MatchBool b (IsWithSome (map.get c.args.known.now) c.args.subnet) (IsWithNone (map.get c.args.known.now) c.args.subnet))
    c.if-not-is_answered_with.false c.is_answered_with.ensures)
