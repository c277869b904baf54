use Rattle.router_moments.proofs.Common.{sym, ◌∙◌}
use Rattle.router_moments.specs.declared.tasks.Phase.TheVariants.{Del, Fin}
use Rattle.router_moments.proofs.StandLemmas.{peers_sound}
use Rattle.router_moments.proofs.NextLemmas.{held_of_peers, held_of_hops, held_of_losses, held_of_refreshes}
use Rattle.router_moments.proofs.SettledLemmas.{none_held}
use Rattle.router_network.proofs.network.Network.held_in.Goals as goal

pub returns-in_err-next : goal.returns-in_err-next
returns-in_err-next g c = c.from_residual.ensures ∙ sym (none_held c.only_work_holds_up.ensures c.args.phase c.args.self.now c.args.p (sym c.next.ensures.next ∙ c.in_err-next.was))

pub first_loss_at-requires : goal.first_loss_at-requires
first_loss_at-requires g c = peers_sound c.args.self.now _ c.self.view_is c.requires.stands

pub first_walk_at-requires : goal.first_walk_at-requires
first_walk_at-requires g c = peers_sound c.args.self.now _ c.self.view_is c.requires.stands

pub returns-in-Rdel : goal.returns-in-Rdel
returns-in-Rdel g c = held_of_losses c.args.phase c.args.self.now c.args.p c.loss_held.result c.in-Rdel.is c.loss_held.ensures

pub returns-in-Del : goal.returns-in-Del
returns-in-Del g c = held_of_peers Del c.args.phase c.args.self.now _ c.args.p c.first_loss_at.result tt c.in-Del.is c.self.view_is c.first_loss_at.ensures

pub returns-in-Fin : goal.returns-in-Fin
returns-in-Fin g c = held_of_peers Fin c.args.phase c.args.self.now _ c.args.p c.first_walk_at.result tt c.in-Fin.is c.self.view_is c.first_walk_at.ensures

pub returns-in-Nh : goal.returns-in-Nh
returns-in-Nh g c =
    held_of_hops c.args.phase c.args.self.now _ c.args.p c.first_held.result c.task_of.result c.in-Nh.is c.self.view_is c.first_held.ensures c.task_of.ensures

pub returns-in-Ref : goal.returns-in-Ref
returns-in-Ref g c = held_of_refreshes c.args.phase c.args.self.now c.args.p c.in-Ref.is
