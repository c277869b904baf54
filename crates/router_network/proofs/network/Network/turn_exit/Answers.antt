use Rattle.router_moments.proofs.Common.{sym, subst, refl, Route, Rows, Candidates, AllStand, candidates_of}
use Rattle.exit_side.specs.Steps.{ComesOut}
use Rattle.router_network.specs.contracts.network.Network.{the_view}
use Rattle.router_moments.proofs.HopTurns.{exits_sound}
use Rattle.router_moments.proofs.ExitTurns.{exits_stand, exit_took}
use Rattle.router_network.proofs.AboveRows.{best_above, known_above, above_of, best_rows_are, best_candidates_are}
use Rattle.router_network.proofs.network.Network.turn_exit.Goals as goal

pub best-best-requires-clause-known : goal.best-best-requires-clause-known
best-best-requires-clause-known g c = (known_above _ c.self.inside.above (the_view g.row.F g.F.Family g.F.Clone c.self.inside) _ c.self.view_is c.requires.informed).knows

pub best-best-requires-clause-counted : goal.best-best-requires-clause-counted
best-best-requires-clause-counted g c = (known_above _ c.self.inside.above (the_view g.row.F g.F.Family g.F.Clone c.self.inside) _ c.self.view_is c.requires.informed).counts

pub turn-requires-clause-sound : goal.turn-requires-clause-sound
turn-requires-clause-sound g c = exits_sound c.args.self.now _ c.self.view_is c.requires.stands

pub turn-requires-clause-stand : goal.turn-requires-clause-stand
turn-requires-clause-stand g c =
    let best = best_rows_are _ c.self.inside.above (the_view g.row.F g.F.Family g.F.Clone c.self.inside) c.best-best.ensures (above_of c.self.inside.above (the_view g.row.F g.F.Family g.F.Clone c.self.inside) (the_view g.row.F g.F.Family g.F.Clone c.self.inside) refl) in
    subst (λ (rows : Rows Route). AllStand rows c.self.inside.readers.exits) (sym best) (exits_stand c.args.self.now (the_view g.row.F g.F.Family g.F.Clone c.self.inside) c.self.view_is c.requires.stands)

pub returns : goal.returns
returns g c =
    let v = the_view g.row.F g.F.Family g.F.Clone c.self.inside in
    let best = best_rows_are _ c.self.inside.above v c.best-best.ensures (above_of c.self.inside.above v v refl) in
    let candidates = best_candidates_are _ c.self.inside.above v c.best-best.ensures (above_of c.self.inside.above v v refl) in
    exit_took c.args.self.now v c.args.number c.turn.new.self c.args.journal.now c.turn.new.journal c.flush.new.self c.in_ok-turn.turn c.rested.result c.rested.ensures c.if-rested.false c.self.view_is
    (subst (λ (rows : Rows Route). ComesOut c.args.number (candidates_of v) rows c.self.inside.readers.exits c.turn.new.self c.args.journal.now c.turn.new.journal c.in_ok-turn.turn) best
    (subst (λ (cs : Candidates). ComesOut c.args.number cs (best_above c.best-best.result.all.now) c.self.inside.readers.exits c.turn.new.self c.args.journal.now c.turn.new.journal c.in_ok-turn.turn) candidates c.in_ok-turn.ensures)) c.in_ok-flush.ensures.ok
