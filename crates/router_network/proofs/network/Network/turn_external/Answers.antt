use Rattle.router_moments.proofs.Common.{ap, refl, ◌∙◌, Exited, Moment, with_exits}
use Rattle.router_network.specs.contracts.network.Network.{the_view}
use Rattle.router_moments.proofs.CoreLemmas.{readers_of}
use Rattle.router_moments.proofs.ExternalTurns.{rib_sound, rib_agrees, external_took}
use Rattle.router_network.proofs.AboveRows.{known_above}
use Rattle.router_network.proofs.ReadStands.{best_lent, parts_stand, read_live}
use Rattle.router_network.proofs.network.Network.turn_external.Goals as goal

pub best-best-requires-clause-known : goal.best-best-requires-clause-known
best-best-requires-clause-known g c = (known_above _ c.self.inside.above (the_view g.row.F g.F.Family g.F.Clone c.self.inside) _ c.self.view_is c.requires.informed).knows

pub best-best-requires-clause-counted : goal.best-best-requires-clause-counted
best-best-requires-clause-counted g c = (known_above _ c.self.inside.above (the_view g.row.F g.F.Family g.F.Clone c.self.inside) _ c.self.view_is c.requires.informed).counts

pub over_best-read-requires : goal.over_best-read-requires
over_best-read-requires g c =
    let view = c.self.view_is in
    read_live c.args.self.now c.prepare.new.self _ (c.prepare.ensures ∙ ap (λ (n : Moment). n.exits) view) (c.as_ref.ensures.value ∙ ap (λ (n : Moment). n.reader) view) (readers_of c.args.self.now c.requires.stands)

pub turn-requires-clause-sound : goal.turn-requires-clause-sound
turn-requires-clause-sound g c = rib_sound c.args.self.now _ c.self.view_is c.requires.stands

pub turn-requires-clause-agree : goal.turn-requires-clause-agree
turn-requires-clause-agree g c = rib_agrees c.args.self.now _ c.self.view_is c.requires.stands

pub turn-requires-clause-stands : goal.turn-requires-clause-stands
turn-requires-clause-stands g c =
    let view = c.self.view_is in
    parts_stand c.over_best-read.result.exits.now _ _ c.args.self.now (best_lent c.over_best-read.result.best.now.all.now c.self.inside.above (the_view g.row.F g.F.Family g.F.Clone c.self.inside) c.args.self.now (ap (λ (b : _). b.all.now) c.over_best-read.ensures.best ∙ c.best-best.ensures) c.self.view_is) (c.over_best-read.ensures.exits ∙ c.prepare.ensures ∙ ap (λ (n : Moment). n.exits) view)
    (c.over_best-read.ensures.reader ∙ c.as_ref.ensures.value ∙ ap (λ (n : Moment). n.reader) view) (the_view g.row.F g.F.Family g.F.Clone c.self.inside) view (readers_of c.args.self.now c.requires.stands)

pub returns : goal.returns
returns g c =
    external_took c.args.self.now (with_exits (the_view g.row.F g.F.Family g.F.Clone c.self.inside) c.prepare.new.self) _ c.turn.new.register c.turn.new.self c.args.journal.now c.turn.new.journal c.flush.new.self c.in_ok-turn.turn c.rested.result c.rested.ensures c.if-rested.false
    (ap (λ (e : Exited). with_exits (the_view g.row.F g.F.Family g.F.Clone c.self.inside) e) c.prepare.ensures ∙ c.self.view_is) c.in_ok-turn.ensures.taken refl c.in_ok-flush.ensures.ok
