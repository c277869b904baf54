use Rattle.std.proofs.Common.{sym, subst}
use Rattle.nexthop_known.specs.Hops.{Hops}
use Rattle.nexthop_resolver.specs.Registered.{IsEarly}
use Rattle.nexthop_resolver.proofs.AskLemmas.{is_early, renewed_agrees}
use Rattle.nexthop_resolver.proofs.asking.renew.Goals as goal

pub give_back-requires : goal.give_back-requires
give_back-requires g c =
    subst (λ (known : Hops _). IsEarly g.A.FromMatch.kept_of c.args.client known c.ask.new.register c.in_ok-answer.subnet) (sym c.in-Err.ensures.err)
    (is_early g.A.FromMatch.kept_of c.args.client c.args.known.now c.args.register.now c.ask.new.register c.in_ok-answer.subnet c.requires.agrees
    c.in_ok-answer.ensures.others.rows c.in_ok-answer.ensures.interest)

pub returns-in-Ok-clause-agrees : goal.returns-in-Ok-clause-agrees
returns-in-Ok-clause-agrees g c =
    renewed_agrees g.A.FromMatch.kept_of c.args.client c.args.known.now c.fresh.new.self c.args.register.now c.ask.new.register c.args.hop c.in_ok-answer.subnet
    c.in_ok-answer.answer c.requires.agrees c.in_ok-answer.ensures.others.rows c.in_ok-answer.ensures.interest c.requires.stale
    c.in-Ok.ensures.ok c.in_ok-answer.ensures.answer c.in_ok-answer.ensures.largest.holds
