use Rattle.std.proofs.Common.{sym}
use Rattle.in_chain.specs.Chains.{Chained}
use Rattle.in_chain.proofs.CandidateLemmas.{first_row}
use Rattle.in_chain.proofs.chain.Chain.least_lost.Goals as goal

pub returns-in-Some : goal.returns-in-Some
returns-in-Some g c =
    let old : Chained = record { incoming = record { number = c.self.inside.number; tables = c.self.inside.stages }; me = c.self.inside.me; peer = c.self.inside.peer; filter = c.self.inside.filter } in
    let stands = rw c.in-Some.is at c.deletion.ensures in
    rw (← c.self.view_is) (first_row old c.args.session c.in-Some.deletion.now.rows c.next_held.result (sym stands) c.next_held.ensures)
