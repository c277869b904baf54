use Rattle.router_moments.proofs.Common.{sym, ◌∙◌, refl, key_of}
use Rattle.router_network.proofs.ShownRows.{next_inward, next_res, next_best, next_tree, next_own, next_forward, forward_live}
use Rattle.router_network.proofs.network.Network.next_candidate.Goals as goal

pub returns-in-Inward : goal.returns-in-Inward
returns-in-Inward g c =
    next_inward c.args.self.now _ c.args.link (key_of c.args.after) c.next_candidate.result c.self.view_is (sym c.region_of.ensures ∙ c.in-Inward.is) c.next_candidate.ensures.next c.next_candidate.ensures.covers

pub returns-in-Resolved : goal.returns-in-Resolved
returns-in-Resolved g c = next_res c.args.self.now c.args.self.now c.args.link (key_of c.args.after) c.next_resolved.result refl (sym c.region_of.ensures ∙ c.in-Resolved.is) c.next_resolved.ensures

pub returns-in-Decided : goal.returns-in-Decided
returns-in-Decided g c = next_best c.args.self.now c.args.link (key_of c.args.after) c.next_best.result _ (sym c.region_of.ensures ∙ c.in-Decided.is) c.requires.live c.next_best.ensures.next c.next_best.ensures.covers

pub returns-in-InteriorRoutes : goal.returns-in-InteriorRoutes
returns-in-InteriorRoutes g c =
    next_tree c.args.self.now _ c.args.link (key_of c.args.after) c.next_candidate-in-InteriorRoutes.result c.self.view_is (sym c.region_of.ensures ∙ c.in-InteriorRoutes.is) c.requires.live c.next_candidate-in-InteriorRoutes.ensures

pub returns-in-Redistributed : goal.returns-in-Redistributed
returns-in-Redistributed g c =
    next_own c.args.self.now _ c.args.link (key_of c.args.after) c.next_candidate-in-Redistributed.result _ c.self.view_is (sym c.region_of.ensures ∙ c.in-Redistributed.is) c.requires.live c.next_candidate-in-Redistributed.ensures.next
    c.next_candidate-in-Redistributed.ensures.covers

pub next_forwarded-requires-clause-live : goal.next_forwarded-requires-clause-live
next_forwarded-requires-clause-live g c = forward_live c.args.self.now c.args.self.now c.args.link refl (sym c.region_of.ensures ∙ c.in-Forward.is) c.requires.live

pub returns-in-Forward : goal.returns-in-Forward
returns-in-Forward g c =
    next_forward c.args.self.now c.args.link (key_of c.args.after) c.next_forwarded.result (sym c.region_of.ensures ∙ c.in-Forward.is) c.requires.live c.next_forwarded.ensures
