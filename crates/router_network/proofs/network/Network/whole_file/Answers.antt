use Rattle.router_moments.proofs.Common.{ap, refl, ◌∙◌, with_whole, whole_is_first, Profile}
use Rattle.event_text.specs.declared.event.Event.TheVariants as events
use Rattle.router_moments.proofs.ProfileLemmas.{profile_is_stepped, whole_second, whole_spoken}
use Rattle.router_network.proofs.network.Network.whole_file.Goals as goal

pub set_profile-requires : goal.set_profile-requires
set_profile-requires g c = record {
  second = ap (λ (p : Profile). p.second) c.said.ensures ∙ whole_second c.args.word c.profile-profile.result ∙ c.profile-profile.ensures.of.second;
  spoken = λ is. ap (λ (p : Profile). p.v6) c.said.ensures ∙ whole_spoken c.args.word c.profile-profile.result ∙ c.profile-profile.ensures.of.spoken is;
}

pub returns : goal.returns
returns g c =
    profile_is_stepped c.args.self.now c.set_profile.new.self (events.Whole c.args.word) _ (with_whole c.args.word c.args.self.now.declared.profile) c.args.journal.now c.flush.new.self c.requires.stands
    (whole_is_first c.args.self.now.declared c.args.word c.requires.admitted) c.set_profile.ensures (c.said.ensures ∙ ap (with_whole c.args.word) c.profile-profile.ensures.value) (refl, refl, refl) refl c.in_ok-flush.ensures.ok
