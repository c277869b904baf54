use Rattle.router_moments.specs.declared.tasks.Phase.TheVariants.{Red, Del, Fin, ReadRib, Ext}
use Rattle.router_moments.proofs.StandLemmas.{peers_sound}
use Rattle.router_moments.proofs.HopTurns.{exits_sound}
use Rattle.router_moments.proofs.NextLemmas.{next_of_hops, none_of_hops, next_of_exits, none_of_exits, next_of_refreshes, none_of_refreshes, next_of_one, none_of_reader, none_of_own, none_of_external, next_of_peers, next_of_tree, none_of_tree}
use Rattle.router_network.proofs.network.Network.next.Goals as goal

pub first_loss-requires : goal.first_loss-requires
first_loss-requires g c = peers_sound c.args.self.now _ c.self.view_is c.requires

pub first_walk-requires : goal.first_walk-requires
first_walk-requires g c = peers_sound c.args.self.now _ c.self.view_is c.requires

pub returns-in-Rdel-clause-next : goal.returns-in-Rdel-clause-next
returns-in-Rdel-clause-next g c = next_of_tree c.args.phase c.args.self.now _ c.oldest.result c.in-Rdel.is c.self.view_is c.requires c.oldest.ensures

pub returns-in-Rdel-clause-none : goal.returns-in-Rdel-clause-none
returns-in-Rdel-clause-none g c = none_of_tree c.args.phase c.args.self.now _ c.oldest.result c.in-Rdel.is c.self.view_is c.oldest.ensures

pub returns-in-Del-clause-next : goal.returns-in-Del-clause-next
returns-in-Del-clause-next g c = next_of_peers Del c.args.phase c.args.self.now _ c.first_loss.result tt c.in-Del.is c.self.view_is c.first_loss.ensures.first

pub returns-in-Fin-clause-next : goal.returns-in-Fin-clause-next
returns-in-Fin-clause-next g c = next_of_peers Fin c.args.phase c.args.self.now _ c.first_walk.result tt c.in-Fin.is c.self.view_is c.first_walk.ensures.first

pub returns-in-Nh-clause-next : goal.returns-in-Nh-clause-next
returns-in-Nh-clause-next g c = next_of_hops c.args.phase c.args.self.now _ c.first_busy.result c.task_of.result c.in-Nh.is c.self.view_is c.first_busy.ensures.first c.task_of.ensures

pub returns-in-Nh-clause-none : goal.returns-in-Nh-clause-none
returns-in-Nh-clause-none g c = none_of_hops c.args.phase c.args.self.now _ c.first_busy.result c.task_of.result c.in-Nh.is c.self.view_is c.first_busy.ensures.none c.task_of.ensures

pub first_busy-requires-in-Out : goal.first_busy-requires-in-Out
first_busy-requires-in-Out g c = record { sound = exits_sound c.args.self.now _ c.self.view_is c.requires }

pub returns-in-ReadRib-clause-next : goal.returns-in-ReadRib-clause-next
returns-in-ReadRib-clause-next g c = next_of_one ReadRib c.args.phase c.args.self.now c.next_reader.result c.in-ReadRib.is c.next_reader.ensures

pub returns-in-ReadRib-clause-none : goal.returns-in-ReadRib-clause-none
returns-in-ReadRib-clause-none g c = none_of_reader c.args.phase c.args.self.now c.next_reader.result c.in-ReadRib.is c.next_reader.ensures

pub returns-in-Out-clause-next : goal.returns-in-Out-clause-next
returns-in-Out-clause-next g c = next_of_exits c.args.phase c.args.self.now _ c.first_busy-in-Out.result c.exit_of.result c.in-Out.is c.self.view_is c.first_busy-in-Out.ensures.first c.exit_of.ensures

pub returns-in-Out-clause-none : goal.returns-in-Out-clause-none
returns-in-Out-clause-none g c = none_of_exits c.args.phase c.args.self.now _ c.first_busy-in-Out.result c.exit_of.result c.in-Out.is c.self.view_is c.first_busy-in-Out.ensures.none c.exit_of.ensures

pub returns-in-Ref-clause-next : goal.returns-in-Ref-clause-next
returns-in-Ref-clause-next g c = next_of_refreshes c.args.phase c.args.self.now _ c.first_refresh.result c.refresh_of.result c.in-Ref.is c.self.view_is c.first_refresh.ensures.first c.refresh_of.ensures

pub returns-in-Ref-clause-none : goal.returns-in-Ref-clause-none
returns-in-Ref-clause-none g c = none_of_refreshes c.args.phase c.args.self.now _ c.first_refresh.result c.refresh_of.result c.in-Ref.is c.self.view_is c.first_refresh.ensures.none c.refresh_of.ensures

pub returns-in-Red-clause-next : goal.returns-in-Red-clause-next
returns-in-Red-clause-next g c = next_of_one Red c.args.phase c.args.self.now c.next_own.result c.in-Red.is c.next_own.ensures

pub returns-in-Red-clause-none : goal.returns-in-Red-clause-none
returns-in-Red-clause-none g c = none_of_own c.args.phase c.args.self.now c.next_own.result c.in-Red.is c.next_own.ensures

pub returns-in-Ext-clause-next : goal.returns-in-Ext-clause-next
returns-in-Ext-clause-next g c = next_of_one Ext c.args.phase c.args.self.now c.next_external.result c.in-Ext.is c.next_external.ensures

pub returns-in-Ext-clause-none : goal.returns-in-Ext-clause-none
returns-in-Ext-clause-none g c = none_of_external c.args.phase c.args.self.now c.next_external.result c.in-Ext.is c.next_external.ensures
