use Rattle.router_moments.proofs.StandLemmas.{peers_sound}
use Rattle.router_moments.proofs.PeerLemmas.{edited_stepped, chain_for_rules}
use Rattle.router_network.proofs.network.Network.edit_incoming.Goals as goal

pub edit-requires-clause-sound : goal.edit-requires-clause-sound
edit-requires-clause-sound g c = peers_sound c.args.self.now _ c.self.view_is c.requires.stands

pub edit-requires-clause-there : goal.edit-requires-clause-there
edit-requires-clause-there g c = chain_for_rules c.args.self.now _ c.args.number c.args.rules c.self.view_is c.requires.admitted c.requires.stands

pub returns : goal.returns
returns g c = edited_stepped c.args.self.now _ c.args.number c.args.rules c.edit.new.self c.self.view_is c.requires.stands c.edit.ensures
