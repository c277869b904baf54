use Rattle.std.proofs.Common.{subst}
use Rattle.addr4.specs.Places.{key_of}
use Rattle.link_change.specs.Rows.{CoversRows, together}
use Rattle.nexthop_resolver.specs.Ways.{Way}
use Rattle.nexthop_resolver.specs.Resolving.{Resolving}
use Rattle.ext_int.specs.Fibs.{resolved_rows, fib_table}
use Rattle.ext_int.proofs.FibLemmas.{table_covered}
use Rattle.ext_int.proofs.merge.ExtInt.next_candidate.Goals as goal

pub returns-clause-next : goal.returns-clause-next
returns-clause-next g c =
    c.nearer.ensures (g.I.Upstream.candidates c.args.int.now) (g.E.Upstream.candidates c.args.ext.now) (key_of c.args.after) c.next_candidate-first.ensures.next c.next_candidate-second.ensures.next

pub returns-clause-covers : goal.returns-clause-covers
returns-clause-covers g c =
    let a = g.I.Upstream.candidates c.args.int.now in
    let b = g.E.Upstream.candidates c.args.ext.now in
    let int = g.I.Upstream.rows c.args.int.now in
    let ext = g.E.Upstream.rows c.args.ext.now in
    subst (λ (s : Resolving Way). CoversRows (together a b) (fib_table s int ext)) c.self.view_is
    (table_covered a b int (resolved_rows c.self.inside.hops ext) c.next_candidate-first.ensures.covers c.next_candidate-second.ensures.covers)
