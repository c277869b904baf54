use Rattle.addr4.specs.Places.{key_of}
use Rattle.rib_merge.proofs.merge.next_candidate.Goals as goal

pub returns-clause-next : goal.returns-clause-next
returns-clause-next g c =
    c.nearer.ensures (g.L.Upstream.candidates c.args.left.now) (g.U.Upstream.candidates c.args.right.now) (key_of c.args.after) c.next_candidate-first.ensures.next c.next_candidate-second.ensures.next
