use Rattle.router_moments.proofs.Common.{on_ok_weaker}
use Rattle.router_network.specs.contracts.network.Network.{the_view}
use Rattle.router_moments.proofs.HopTurns.{exits_sound}
use Rattle.router_moments.proofs.SessionLemmas.{outgoing_edited}
use Rattle.router_network.proofs.network.Network.edit_outgoing.Goals as goal

pub edit-requires : goal.edit-requires
edit-requires g c = record { sound = exits_sound c.args.self.now _ c.self.view_is c.requires.stands }

pub returns : goal.returns
returns g c =
    on_ok_weaker c.set.result
    (λ set. outgoing_edited c.args.self.now (the_view g.row.F g.F.Family g.F.Clone c.self.inside) c.args.number c.args.rules c.in_ok-copy.field-0 c.set.new.self c.edit.new.self c.self.view_is c.requires.stands c.in_ok-copy.ensures set c.edit.ensures)
    c.set.ensures
