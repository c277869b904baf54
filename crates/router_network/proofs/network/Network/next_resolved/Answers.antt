use Rattle.router_moments.proofs.Common.{sym, ◌∙◌, ap, option_copied, key_of}
use Rattle.router_network.proofs.ShownRows.{none_resolved, next_resolved}
use Rattle.router_network.proofs.network.Network.next_resolved.Goals as goal

pub returns-in_default-chain : goal.returns-in_default-chain
returns-in_default-chain g c = none_resolved c.args.self.now _ c.args.link c.in-Res.number (key_of c.args.after) c.self.view_is c.in-Res.is (sym (ap option_copied c.in_default-chain.is) ∙ c.chain.ensures)

pub returns : goal.returns
returns g c = next_resolved c.args.self.now _ c.args.link c.in-Res.number (key_of c.args.after) c.next_candidate.result c.in-Some.chain.now c.self.view_is c.in-Res.is (sym (ap option_copied c.in-Some.is) ∙ c.chain.ensures) c.next_candidate.ensures.next c.next_candidate.ensures.covers
