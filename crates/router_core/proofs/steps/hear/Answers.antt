use Rattle.router_moments.proofs.Common.{sym, subst, ap, ◌∙◌, ◌≡◌, refl, on_ok_weaker, IsHeardMessage, Gives}
use Rattle.event_text.specs.Declarations.{Declaration}
use Rattle.bgp_wire.specs.declared.message.Message.TheVariants as messages
use Rattle.bgp_wire.specs.declared.message.Message.{Message}
use Rattle.router_moments.specs.Works.{HasHeard}
use Rattle.router_core.proofs.HearLemmas.{said_heard}
use Rattle.router_network.proofs.StepLemmas.{nothing_heard, refresh_heard, end_heard, fault_heard}
use Rattle.router_network.proofs.QuietSteps.{refreshed_informed}
use Rattle.router_core.proofs.steps.hear.Goals as goal

pub hear_said-requires-clause-heard : goal.hear_said-requires-clause-heard
hear_said-requires-clause-heard g c =
    said_heard c.args.network.now.declared.profile _ c.said.result c.in-Update.update second c.said.ensures (subst (IsHeardMessage c.args.network.now.declared.profile) c.in-Update.is c.requires.heard)
  where
    second : c.args.network.now.declared.profile.second ≡ g.F.Family.V6
    second = ap (λ (d : Declaration). d.profile.second) (sym c.declared.ensures) ∙ c.known.ensures.profile.second

pub returns-in-Update-clause-hears : goal.returns-in-Update-clause-hears
returns-in-Update-clause-hears g c =
    on_ok_weaker c.hear_said.result (λ hears.
    subst (λ (x : Message). Gives (HasHeard c.args.number c.args.peer c.args.network.now x c.hear_said.new.network) c.args.journal.now c.hear_said.new.journal) (sym c.in-Update.is) (hears c.args.peer c.in-Update.update c.said.ensures))
    c.hear_said.ensures.hears

pub returns-in-Keepalive-clause-hears : goal.returns-in-Keepalive-clause-hears
returns-in-Keepalive-clause-hears g c =
    on_ok_weaker c.flush.result (λ flushed.
    nothing_heard c.args.number c.args.peer c.args.network.now c.args.message messages.Keepalive c.args.journal.now c.flush.new.self c.requires.stands c.in-Keepalive.is (refl, refl) refl flushed)
    c.flush.ensures.ok

pub returns-in-Skip-clause-hears : goal.returns-in-Skip-clause-hears
returns-in-Skip-clause-hears g c =
    on_ok_weaker c.flush-in-Skip.result (λ flushed.
    nothing_heard c.args.number c.args.peer c.args.network.now c.args.message messages.Skip c.args.journal.now c.flush-in-Skip.new.self c.requires.stands c.in-Skip.is (refl, refl) refl flushed)
    c.flush-in-Skip.ensures.ok

pub returns-in-Refresh-clause-hears : goal.returns-in-Refresh-clause-hears
returns-in-Refresh-clause-hears g c =
    on_ok_weaker c.flush-in-Refresh.result (λ flushed.
    refresh_heard c.args.number c.args.peer c.args.network.now c.refresh.new.self c.args.message c.in-Refresh.refresh c.args.journal.now c.flush-in-Refresh.new.self c.requires.stands c.in-Refresh.is c.refresh.ensures flushed)
    c.flush-in-Refresh.ensures.ok

pub returns-in-Notification-clause-hears : goal.returns-in-Notification-clause-hears
returns-in-Notification-clause-hears g c =
    on_ok_weaker c.lose.result (λ lost.
    end_heard c.args.number c.args.peer c.args.network.now c.lose.new.self c.args.message c.args.journal.now c.lose.new.journal c.in-Notification.is lost)
    c.lose.ensures.loses

pub returns-in_ok-push_line-in-Notify-clause-hears : goal.returns-in_ok-push_line-in-Notify-clause-hears
returns-in_ok-push_line-in-Notify-clause-hears g c =
    on_ok_weaker c.lose-in-Notify.result (λ lost.
    fault_heard c.args.number c.args.peer c.args.network.now c.lose-in-Notify.new.self c.args.message c.in-Notify.notice c.in_ok-octets-in-Notify.octets c.args.journal.now c.push_line.new.self
    c.lose-in-Notify.new.journal c.requires.stands c.in-Notify.is c.in_ok-octets-in-Notify.ensures.spelled c.in_ok-octets-in-Notify.ensures.message c.in_ok-push_line-in-Notify.ensures lost)
    c.lose-in-Notify.ensures.loses

pub returns-in-Refresh-clause-informed : goal.returns-in-Refresh-clause-informed
returns-in-Refresh-clause-informed g c =
    on_ok_weaker c.flush-in-Refresh.result (λ _. refreshed_informed c.args.number c.in-Refresh.refresh c.args.contests.now c.args.network.now c.refresh.new.self c.refresh.ensures c.requires.informed) c.flush-in-Refresh.ensures.ok
