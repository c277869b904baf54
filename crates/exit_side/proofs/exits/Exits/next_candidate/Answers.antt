use Rattle.std.proofs.Common.{ap}
use Rattle.exit_side.specs.Exits.{Exited}
use Rattle.exit_side.proofs.LookupLemmas.{covers_in}
use Rattle.exit_side.proofs.exits.Exits.next_candidate.Goals as goal

pub returns-clause-covers : goal.returns-clause-covers
returns-clause-covers g c =
    covers_in c.args.self.now c.self.inside.queue c.args.link c.in-Some.chain.now (g.U.Upstream.rows c.args.best.now) (g.U.Upstream.candidates c.args.best.now)
    (ap (λ (e : Exited). e.queue) c.self.view_is) c.in-Some.ensures.own c.next_candidate.ensures.covers
