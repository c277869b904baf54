use Rattle.router_network.specs.contracts.network.Network.{the_view}
use Rattle.router_network.proofs.RedistEdits.{own_is_edited}
use Rattle.router_network.proofs.network.Network.edit_own.Goals as goal

pub returns : goal.returns
returns g c = own_is_edited c.args.self.now (the_view g.row.F g.F.Family g.F.Clone c.self.inside) c.args.proto c.args.on c.edit.new.self c.self.view_is c.requires.stands c.requires.admitted c.edit.ensures
