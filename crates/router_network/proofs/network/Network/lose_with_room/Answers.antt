use Rattle.router_moments.proofs.StandLemmas.{peers_sound}
use Rattle.router_network.proofs.LossLemmas.{may_lose, one_ended}
use Rattle.router_network.proofs.network.Network.lose_with_room.Goals as goal

pub lose-requires-clause-sound : goal.lose-requires-clause-sound
lose-requires-clause-sound g c = peers_sound c.args.self.now _ c.self.view_is c.requires.stands

pub lose-requires-clause-may : goal.lose-requires-clause-may
lose-requires-clause-may g c = may_lose c.args.number c.args.session c.args.self.now _ c.self.view_is c.requires.stands c.requires.up c.requires.free

pub returns : goal.returns
returns g c =
    one_ended c.args.number c.args.session c.args.self.now _ c.end_session.new.self c.lose.new.self c.args.journal.now c.lose.new.journal c.self.view_is c.requires.stands c.requires.up c.requires.silent
    c.end_session.ensures.value c.in_ok-lose.ensures
