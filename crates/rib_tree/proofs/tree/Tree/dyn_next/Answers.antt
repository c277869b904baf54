use Rattle.std.proofs.Common.{subst}
use Rattle.addr4.specs.Places.{key_of}
use Rattle.link_change.specs.Rows.{Candidates, IsNextCandidate}
use Rattle.rib_tree.specs.Branches.{org_rows}
use Rattle.rib_tree.proofs.LookupLemmas.{both_are}
use Rattle.rib_tree.proofs.tree.Tree.dyn_next.Goals as goal

pub returns : goal.returns
returns g c =
    let P : Candidates → Type 0 = λ k. IsNextCandidate k (key_of c.args.after.now) c.next_candidate.result in
    rw (← c.self.view_is) (subst P (both_are (org_rows c.self.inside.ospf) (org_rows c.self.inside.rip)) c.next_candidate.ensures.next)
