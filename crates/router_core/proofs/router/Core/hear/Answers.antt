use Rattle.router_moments.proofs.CoreLemmas.{moment_stands, core_acts, core_stepped, exact_after, readers_of}
use Rattle.router_moments.proofs.Common.{◌+◌, ◌∙◌, ap, sym}
use Rattle.event_text.specs.Declarations.{Declaration}
use Rattle.event_text.specs.declared.event.Event.TheVariants.{Bgp}
use Rattle.router_core.proofs.HearLemmas.{hears_up, hears_sound, heard_steps}
use Rattle.router_core.proofs.router.Core.hear.Goals as goal

pub hear_said-requires-clause-stands : goal.hear_said-requires-clause-stands
hear_said-requires-clause-stands g c = moment_stands c.args.self.now c.self.inside.network c.self.inside.events c.self.inside.failed c.self.view_is c.if-self.false c.requires.stands

pub hear_said-requires-clause-up : goal.hear_said-requires-clause-up
hear_said-requires-clause-up g c = hears_up c.args.self.now c.self.inside.network c.self.inside.events c.self.inside.failed c.self.view_is c.args.number c.args.octets.now c.args.said c.requires.said

pub hear_said-requires-clause-heard : goal.hear_said-requires-clause-heard
hear_said-requires-clause-heard g c = hears_sound c.args.self.now c.self.inside.network c.self.inside.events c.self.inside.failed c.self.view_is c.args.number c.args.octets.now c.args.said c.requires.said _ (ap (λ (d : Declaration). d.profile.second) (sym c.declared.ensures) ∙ c.known.ensures.profile.second) c.requires.formed

pub hear_said-requires-clause-informed : goal.hear_said-requires-clause-informed
hear_said-requires-clause-informed g c = (c.self.invariant c.if-self.false).1

pub returns-clause-acts : goal.returns-clause-acts
returns-clause-acts g c = core_acts c.args.self.now c.self.inside.network c.self.inside.events c.self.inside.failed c.self.view_is c.if-self.false c.requires.stands (Bgp c.args.number c.args.octets.now) 0 c.hear_said.new.network c.args.journal.now c.hear_said.new.journal c.requires.few c.requires.admitted c.requires.formed c.declarations_follow.ensures (heard_steps c.args.self.now c.self.inside.network c.self.inside.events c.self.inside.failed c.self.view_is c.args.number c.args.octets.now c.args.said c.requires.said _ (ap (λ (d : Declaration). d.profile.second) (sym c.declared.ensures) ∙ c.known.ensures.profile.second) c.hear_said.new.network c.args.journal.now c.hear_said.new.journal c.in_ok-hear_said.ensures.hears)

pub returns-clause-stands : goal.returns-clause-stands
returns-clause-stands g c = core_stepped c.args.self.now c.self.inside.network c.self.inside.events c.self.inside.failed c.self.view_is c.if-self.false c.requires.stands (Bgp c.args.number c.args.octets.now) 0 c.hear_said.new.network c.args.journal.now c.hear_said.new.journal c.requires.few c.requires.admitted c.requires.formed c.declarations_follow.ensures (heard_steps c.args.self.now c.self.inside.network c.self.inside.events c.self.inside.failed c.self.view_is c.args.number c.args.octets.now c.args.said c.requires.said _ (ap (λ (d : Declaration). d.profile.second) (sym c.declared.ensures) ∙ c.known.ensures.profile.second) c.hear_said.new.network c.args.journal.now c.hear_said.new.journal c.in_ok-hear_said.ensures.hears)

pub returns-clause-exact : goal.returns-clause-exact
returns-clause-exact g c = exact_after c.rows_at_rest_are_exact.ensures c.hear_said.new.network (c.self.inside.events + 1) (core_stepped c.args.self.now c.self.inside.network c.self.inside.events c.self.inside.failed c.self.view_is c.if-self.false c.requires.stands (Bgp c.args.number c.args.octets.now) 0 c.hear_said.new.network c.args.journal.now c.hear_said.new.journal c.requires.few c.requires.admitted c.requires.formed c.declarations_follow.ensures (heard_steps c.args.self.now c.self.inside.network c.self.inside.events c.self.inside.failed c.self.view_is c.args.number c.args.octets.now c.args.said c.requires.said _ (ap (λ (d : Declaration). d.profile.second) (sym c.declared.ensures) ∙ c.known.ensures.profile.second) c.hear_said.new.network c.args.journal.now c.hear_said.new.journal c.in_ok-hear_said.ensures.hears))

pub invariant_of-self-2 : goal.invariant_of-self-2
invariant_of-self-2 g c = λ _. (
  readers_of c.hear_said.new.network (core_stepped c.args.self.now c.self.inside.network c.self.inside.events c.self.inside.failed c.self.view_is c.if-self.false c.requires.stands (Bgp c.args.number c.args.octets.now) 0 c.hear_said.new.network c.args.journal.now c.hear_said.new.journal c.requires.few c.requires.admitted c.requires.formed c.declarations_follow.ensures (heard_steps c.args.self.now c.self.inside.network c.self.inside.events c.self.inside.failed c.self.view_is c.args.number c.args.octets.now c.args.said c.requires.said _ (ap (λ (d : Declaration). d.profile.second) (sym c.declared.ensures) ∙ c.known.ensures.profile.second) c.hear_said.new.network c.args.journal.now c.hear_said.new.journal c.in_ok-hear_said.ensures.hears)).stands,
  c.in_ok-hear_said.ensures.informed,
)
