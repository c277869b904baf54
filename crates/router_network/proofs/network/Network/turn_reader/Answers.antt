use Rattle.router_moments.proofs.Common.{sym, subst, ◌∙◌, ap, Route, Takes, Change}
use Rattle.std.proofs.Common.{Option, Some}
use Rattle.router_network.specs.contracts.network.Network.{the_view}
use Rattle.router_moments.proofs.ExitTurns.{reader_is, reader_took, reader_same}
use Rattle.router_moments.proofs.ExternalTurns.{rib_sound, rib_agrees}
use Rattle.router_network.proofs.network.Network.turn_reader.Goals as goal

pub take-requires : goal.take-requires
take-requires g c = reader_is c.args.self.now _ c.self.view_is c.requires c.in-Some.reader c.in-Some.is

pub forward-forwarded-requires-clause-sound : goal.forward-forwarded-requires-clause-sound
forward-forwarded-requires-clause-sound g c = rib_sound c.args.self.now (the_view g.row.F g.F.Family g.F.Clone c.self.inside) c.self.view_is c.requires

pub forward-forwarded-requires-clause-agree : goal.forward-forwarded-requires-clause-agree
forward-forwarded-requires-clause-agree g c = rib_agrees c.args.self.now (the_view g.row.F g.F.Family g.F.Clone c.self.inside) c.self.view_is c.requires

pub returns : goal.returns
returns g c =
    reader_took c.a_stranger_reads.ensures.takes c.args.self.now (the_view g.row.F g.F.Family g.F.Clone c.self.inside) _ c.forward-forwarded.new.self c.in-Some.reader c.in-Some-2.change c.take.new.self c.args.journal.now c.forward-forwarded.new.journal c.flush.new.self c.self.view_is c.requires c.in-Some.is
    (subst (λ (o : Option (Change Route)). Takes c.self.inside.readers.exits.queue c.take.new.self.queue c.in-Some.reader o) c.in-Some-2.is c.in_ok-change.ensures.ok) c.in_ok-change.ensures.after
    (reader_same (the_view g.row.F g.F.Family g.F.Clone c.self.inside) c.take.new.self (Some c.take.new.reader) (ap Some c.in_ok-change.ensures.same ∙ sym c.in-Some.is)) c.in_ok-forwarded.ensures c.in_ok-flush.ensures.ok
