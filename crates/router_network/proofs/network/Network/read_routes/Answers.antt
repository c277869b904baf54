use Rattle.router_moments.proofs.Common.{ap, ◌∙◌, Moment}
use Rattle.router_network.proofs.ReadStands.{read_live}
use Rattle.router_network.proofs.network.Network.read_routes.Goals as goal

pub over_best-requires : goal.over_best-requires
over_best-requires g c =
    let view = c.self.view_is in
    read_live c.args.self.now c.self.inside.readers.exits _ (ap (λ (n : Moment). n.exits) view) (c.as_ref.ensures.value ∙ ap (λ (n : Moment). n.reader) view) c.requires

pub returns-clause-exits : goal.returns-clause-exits
returns-clause-exits g c = c.over_best.ensures.exits ∙ ap (λ (n : Moment). n.exits) c.self.view_is

pub returns-clause-reader : goal.returns-clause-reader
returns-clause-reader g c = c.over_best.ensures.reader ∙ c.as_ref.ensures.value ∙ ap (λ (n : Moment). n.reader) c.self.view_is
