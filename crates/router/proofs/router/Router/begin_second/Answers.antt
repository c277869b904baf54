use Rattle.std.proofs.Common.{refl, sym, ◌∙◌, ap}
use Rattle.event_text.specs.Declarations.{Declaration}
use Rattle.router.specs.Ties.{in_second}
use Rattle.router.proofs.BeginLemmas.{begun_both}
use Rattle.router.proofs.router.Router.begin_second.Goals as goal

pub returns-clause-acts : goal.returns-clause-acts
returns-clause-acts c = (
  refl,
  begun_both c.args.self.now c.self.inside.first c.self.inside.second c.self.inside.failed c.self.view_is c.requires.stands c.args.addr c.local6_may_stand.ensures c.requires.admitted c.requires.said c.speak_ipv6.new.self c.speak_ipv6.ensures.value c.in-Some.me
      (sym (c.speaker.ensures ∙ ap (λ (d : Declaration). d.speaker) c.declared.ensures) ∙ c.in-Some.is) (in_second c.profile-profile.result) (ap in_second (c.profile-profile.ensures ∙ ap (λ (d : Declaration). d.profile) c.declared-2.ensures)) c.begin.new.second c.args.journals.now c.begin.new.journals c.in_ok-begin.ensures.acts,
)
