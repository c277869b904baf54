use Rattle.std.proofs.Common.{◌≡◌, ◌+◌, true, ◌∙◌, ap, refl, subst, arith}
use Rattle.bgp_attr.specs.Speakers.{IsProfileOf}
use Rattle.event_text.specs.Declarations.{Declaration}
use Rattle.event_text.specs.declared.event.Event.TheVariants.{Bgp}
use Rattle.router.specs.Networks.{Routed}
use Rattle.router.specs.Told.{told}
use Rattle.router.proofs.RouterLemmas.{alone_acted, alone_stood, both_acted_as, both_stood, told_step, tied_told, is_told_update, second_says}
use Rattle.router.proofs.router.Router.hear.Goals as goal

pub hear_second-requires-clause-may : goal.hear_second-requires-clause-may
hear_second-requires-clause-may c = told_step c.args.self.now c.self.inside.first c.self.inside.second c.self.inside.failed c.self.view_is c.requires.stands c.in-Some.second c.in-Some.is (Bgp c.args.number c.args.octets.now) c.told_may_stand.ensures.may c.requires.admitted c.requires.formed (Bgp c.args.number c.args.octets.now) (is_told_update c.args.self.now c.self.inside.first c.self.inside.second c.self.inside.failed c.self.view_is c.requires.stands c.in-Some.second c.in-Some.is c.args.number c.args.octets.now c.args.update c.update_is_told.ensures c.requires.are)

pub hear_second-requires-clause-said : goal.hear_second-requires-clause-said
hear_second-requires-clause-said c = second_says c.args.self.now c.self.inside.first c.self.inside.second c.self.inside.failed c.self.view_is c.requires.stands c.in-Some.second c.in-Some.is c.args.number c.args.octets.now c.args.update c.update_is_told.ensures c.requires.are (subst (λ (d : Declaration). IsProfileOf true d.profile) c.declared-2.ensures c.known-3.ensures.profile)

pub returns-in_default-clause-acts : goal.returns-in_default-clause-acts
returns-in_default-clause-acts c = alone_acted c.args.self.now c.self.inside.first c.self.inside.second c.self.inside.failed c.self.view_is c.requires.stands c.in_default.is c.hear.new.core 0 c.args.journals.now c.hear.new.self c.known.ensures (Bgp c.args.number c.args.octets.now) _ refl c.in_ok-hear.ensures.acts

pub returns-in_default-clause-stands : goal.returns-in_default-clause-stands
returns-in_default-clause-stands c = alone_stood c.args.self.now c.self.inside.first c.self.inside.second c.self.inside.failed c.self.view_is c.requires.stands c.in_default.is c.hear.new.core 0 c.args.journals.now c.hear.new.self c.known.ensures (Bgp c.args.number c.args.octets.now) c.declarations_follow.ensures c.in_ok-hear.ensures.stands c.in_ok-hear.ensures.acts

pub returns-clause-acts : goal.returns-clause-acts
returns-clause-acts c =
    let none : 0 ≡ 0 + 0 = omega arith in
    both_acted_as c.args.self.now c.self.inside.first c.self.inside.second c.self.inside.failed c.self.view_is c.requires.stands c.in-Some.second c.in-Some.is c.hear.new.core c.hear_second.new.second (Bgp c.args.number c.args.octets.now) (Bgp c.args.number c.args.octets.now) 0 0 c.args.journals.now c.hear.new.self c.hear_second.new.journals c.in_ok-hear.ensures.acts c.in_ok-hear_second.ensures.acts
    (told c.args.self.now.first.moment.declared (Bgp c.args.number c.args.octets.now)) ((is_told_update c.args.self.now c.self.inside.first c.self.inside.second c.self.inside.failed c.self.view_is c.requires.stands c.in-Some.second c.in-Some.is c.args.number c.args.octets.now c.args.update c.update_is_told.ensures c.requires.are) ∙ ap (λ (r : Routed). told r.first.moment.declared (Bgp c.args.number c.args.octets.now)) c.self.view_is) 0 c.known.ensures refl none

pub returns-clause-stands : goal.returns-clause-stands
returns-clause-stands c =
    both_stood c.args.self.now c.self.inside.first c.self.inside.second c.self.inside.failed c.self.view_is c.requires.stands c.in-Some.second c.in-Some.is c.hear.new.core c.hear_second.new.second (Bgp c.args.number c.args.octets.now) (Bgp c.args.number c.args.octets.now) 0 0 c.args.journals.now c.hear.new.self c.hear_second.new.journals c.in_ok-hear.ensures.acts c.in_ok-hear_second.ensures.acts
    c.declarations_follow.ensures c.in_ok-hear.ensures.stands c.in_ok-hear_second.ensures.stands c.in_ok-hear.ensures.events c.in_ok-hear_second.ensures.events (tied_told c.args.self.now c.self.inside.first c.self.inside.second c.self.inside.failed c.self.view_is c.requires.stands c.in-Some.second c.in-Some.is (Bgp c.args.number c.args.octets.now) c.told_may_stand.ensures.may c.requires.admitted c.requires.formed (Bgp c.args.number c.args.octets.now) (is_told_update c.args.self.now c.self.inside.first c.self.inside.second c.self.inside.failed c.self.view_is c.requires.stands c.in-Some.second c.in-Some.is c.args.number c.args.octets.now c.args.update c.update_is_told.ensures c.requires.are))
