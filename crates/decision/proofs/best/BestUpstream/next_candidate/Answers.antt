use Rattle.std.proofs.Common.{subst}
use Rattle.addr4.specs.Places.{key_of}
use Rattle.link_change.specs.Rows.{Candidates, IsNextCandidate}
use Rattle.decision.specs.Branches.{best_candidates}
use Rattle.decision.proofs.CountLemmas.{next_in, covers_by, covers_together}
use Rattle.decision.proofs.best.BestUpstream.next_candidate.Goals as goal

pub returns-clause-next : goal.returns-clause-next
returns-clause-next g c =
    let s = c.args.self.now in
    c.nearer.ensures (best_candidates (g.B.Branches.candidates s.all.now)) (g.B.Branches.beside s.all.now) (key_of c.args.after.now)
    (subst (λ (k : Candidates). IsNextCandidate k (key_of c.args.after.now) c.next_kept.result) s.counted
    (next_in s.contests.now (key_of c.args.after.now) c.next_kept.result c.next_kept.ensures))
    c.next_beside.ensures

pub returns-clause-covers : goal.returns-clause-covers
returns-clause-covers g c =
    let s = c.args.self.now in
    covers_together (best_candidates (g.B.Branches.candidates s.all.now)) (g.B.Branches.beside s.all.now) _
    (covers_by s.contests.now _ _ (g.B.Branches.rows s.all.now) s.counted s.known)
