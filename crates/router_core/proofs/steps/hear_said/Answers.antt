use Rattle.router_moments.proofs.Common.{sym, subst, ap, ◌∙◌, refl, on_ok_weaker, AreHeard}
use Rattle.event_text.specs.Declarations.{Declaration}
use Rattle.bgp_wire.specs.declared.message.Message.TheVariants as messages
use Rattle.router_network.proofs.StepLemmas.{update_heard}
use Rattle.router_core.proofs.HearLemmas.{said_changes}
use Rattle.router_core.proofs.steps.hear_said.Goals as goal

pub feed-requires-clause-heard : goal.feed-requires-clause-heard
feed-requires-clause-heard g c = subst (AreHeard c.args.network.now.declared.profile) (sym (c.as_slice.ensures.value ∙ c.in_ok-changes.ensures)) c.requires.heard

pub returns-clause-hears : goal.returns-clause-hears
returns-clause-hears g c =
    on_ok_weaker c.flush.result (λ flushed. λ p u is.
    update_heard c.args.number p c.args.network.now c.feed.new.self (messages.Update u) u c.as_slice.result.now c.args.journal.now c.feed.new.journal c.flush.new.self refl
    (c.as_slice.ensures.value ∙ (c.in_ok-changes.ensures ∙ said_changes c.args.network.now.declared.profile _ c.args.said u (ap (λ (d : Declaration). d.profile.second) (sym c.declared.ensures) ∙ c.known.ensures.profile.second) is)) c.in_ok-feed.ensures.feeds flushed)
    c.flush.ensures.ok
