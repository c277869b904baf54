use Rattle.router_moments.proofs.Common.{subst, key_of, Route, Rows, Candidates, IsNextCandidate, CoversRows, candidates_of}
use Rattle.router_network.specs.contracts.network.Network.{the_view}
use Rattle.router_network.proofs.AboveRows.{known_above, above_of, best_above, best_candidates_are}
use Rattle.router_network.proofs.ReadStands.{best_lent}
use Rattle.router_network.proofs.network.Network.next_best.Goals as goal

pub best-best-requires-clause-known : goal.best-best-requires-clause-known
best-best-requires-clause-known g c = (known_above _ c.self.inside.above (the_view g.row.F g.F.Family g.F.Clone c.self.inside) _ c.self.view_is c.requires.informed).knows

pub best-best-requires-clause-counted : goal.best-best-requires-clause-counted
best-best-requires-clause-counted g c = (known_above _ c.self.inside.above (the_view g.row.F g.F.Family g.F.Clone c.self.inside) _ c.self.view_is c.requires.informed).counts

pub returns-clause-next : goal.returns-clause-next
returns-clause-next g c =
    let v = the_view g.row.F g.F.Family g.F.Clone c.self.inside in
    let candidates = best_candidates_are _ c.self.inside.above c.args.self.now c.best-best.ensures (above_of c.self.inside.above v c.args.self.now c.self.view_is) in
    subst (λ (cs : Candidates). IsNextCandidate cs (key_of c.args.after) c.next_candidate.result) candidates c.next_candidate.ensures.next

pub returns-clause-covers : goal.returns-clause-covers
returns-clause-covers g c =
    let v = the_view g.row.F g.F.Family g.F.Clone c.self.inside in
    let candidates = best_candidates_are _ c.self.inside.above c.args.self.now c.best-best.ensures (above_of c.self.inside.above v c.args.self.now c.self.view_is) in
    let best = best_lent c.best-best.result.all.now c.self.inside.above v c.args.self.now c.best-best.ensures c.self.view_is in
    subst (λ (r : Rows Route). CoversRows (candidates_of c.args.self.now) r) best
    (subst (λ (cs : Candidates). CoversRows cs (best_above c.best-best.result.all.now)) candidates c.next_candidate.ensures.covers)
