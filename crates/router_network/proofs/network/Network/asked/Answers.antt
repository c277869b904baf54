use Rattle.router_moments.proofs.Common.{sym, ◌∙◌, refl}
use Rattle.router_network.proofs.ShownRows.{forward_live, has_forward}
use Rattle.router_network.proofs.network.Network.asked.Goals as goal

pub forwarded-requires-clause-live : goal.forwarded-requires-clause-live
forwarded-requires-clause-live g c = forward_live c.args.self.now c.args.self.now c.args.link refl (sym c.region_of.ensures ∙ c.in-Forward.is) c.requires.live

pub returns-in-Forward : goal.returns-in-Forward
returns-in-Forward g c = has_forward c.args.self.now c.args.self.now c.args.link c.args.p c.forwarded.result refl (sym c.region_of.ensures ∙ c.in-Forward.is) c.requires.live c.forwarded.ensures
