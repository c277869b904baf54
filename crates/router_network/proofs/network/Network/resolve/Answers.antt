use Rattle.router_moments.proofs.Common.{sym, subst, IfOk-weaker, AllAgree, Moment}
use Rattle.register_interest.specs.Registers.{AllStand as MatchesStand}
use Rattle.router_moments.proofs.HopLemmas.{resolved_out, resolved_in}
use Rattle.router_network.proofs.network.Network.resolve.Goals as goal

pub returns-in_default-clause-resolves : goal.returns-in_default-clause-resolves
returns-in_default-clause-resolves g c = resolved_out c.args.number c.args.sent c.args.self.now.registry c.args.self.now.hops c.args.journal.now c.in_default.is c.requires.hops c.requires.agree
    (subst (λ (m : Moment). MatchesStand m.registry) c.self.view_is c.known.ensures)

pub take_in-requires-clause-agree : goal.take_in-requires-clause-agree
take_in-requires-clause-agree g c = subst (λ (m : Moment). AllAgree m.hops m.registry) (sym c.self.view_is) c.requires.agree

pub returns-clause-resolves : goal.returns-clause-resolves
returns-clause-resolves g c =
    IfOk-weaker c.take_in.result _ _
    (λ passed. resolved_in c.args.number c.args.sent c.in-Some.change passed c.args.self.now _ c.take_in.new.register c.take_in.new.self c.args.journal.now c.take_in.new.journal c.self.view_is c.in-Some.is)
    c.take_in.ensures.taken
