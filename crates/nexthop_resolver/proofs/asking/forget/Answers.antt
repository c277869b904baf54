use Rattle.std.proofs.Common.{refl, None, Some}
use Rattle.nexthop_resolver.proofs.AskLemmas.{forgot_agrees, goes_out, goes_alone}
use Rattle.nexthop_resolver.proofs.asking.forget.Goals as goal

pub returns-in-Some-clause-agrees : goal.returns-in-Some-clause-agrees
returns-in-Some-clause-agrees g c =
    forgot_agrees g.A.FromMatch.kept_of c.args.client c.args.known.now c.forget.new.self c.args.register.now c.forget-in-Some.new.self c.args.hop
    (Some c.in-Some.subnet) c.requires.agrees c.forget-in-Some.ensures.rows c.requires.known c.in-Some.ensures.removed c.in-Some.ensures.answer
    (goes_out c.args.client c.args.register.now c.forget-in-Some.new.self c.in-Some.subnet c.forget-in-Some.ensures.interests)

pub returns-in-Some-clause-others : goal.returns-in-Some-clause-others
returns-in-Some-clause-others g c =
    goes_alone c.args.client c.args.register.now c.forget-in-Some.new.self c.in-Some.subnet c.forget-in-Some.ensures.rows c.forget-in-Some.ensures.interests

pub returns-in_default-clause-agrees : goal.returns-in_default-clause-agrees
returns-in_default-clause-agrees g c =
    forgot_agrees g.A.FromMatch.kept_of c.args.client c.args.known.now c.forget.new.self c.args.register.now c.args.register.now c.args.hop None
    c.requires.agrees refl c.requires.known c.in_default.ensures.removed c.in_default.ensures.answer (λ t. refl)
