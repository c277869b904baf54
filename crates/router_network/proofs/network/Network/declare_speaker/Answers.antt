use Rattle.router_moments.proofs.Common.{◌∙◌, ap, on_ok_weaker, Moment}
use Rattle.router_network.proofs.LocalLemmas.{local_declared, nothing_external, profile_is_of, speaker_is}
use Rattle.router_network.proofs.network.Network.declare_speaker.Goals as goal

pub begin-requires : goal.begin-requires
begin-requires g c =
    ap (λ (x : Moment). x.rib) c.self-2.view_is
    ∙ nothing_external c.args.self.now _ c.begin_reading.new.self c.args.words c.begin_rib.new.journal c.begin_reading.new.journal c.requires.stands c.requires.admitted
    (speaker_is c.args.self.now _ c.args.words c.set_speaker.new.self c.self.view_is c.set_speaker.ensures.value) c.in_ok-begin_reading.ensures

pub returns : goal.returns
returns g c =
    on_ok_weaker c.begin.result
    (local_declared c.a_stranger_reads.ensures.joins c.args.self.now _ c.begin_reading.new.self c.args.words c.args.journal.now c.begin_rib.new.journal c.begin_reading.new.journal c.begin.new.journal c.requires.stands c.requires.admitted (profile_is_of c.args.self.now _ g.F.Family.V6 c.self.view_is c.known.ensures.family c.known.ensures.profile) c.requires.formed
    (speaker_is c.args.self.now _ c.args.words c.set_speaker.new.self c.self.view_is c.set_speaker.ensures.value) c.in_ok-begin_rib.ensures c.in_ok-begin_reading.ensures)
    c.begin.ensures.lines
