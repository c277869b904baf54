use Rattle.router_moments.proofs.Common.{on_ok_weaker}
use Rattle.router_network.proofs.Counting.{forgotten}
use Rattle.router_network.proofs.candidates.forget.Goals as goal

pub returns-clause-counts : goal.returns-clause-counts
returns-clause-counts g c = on_ok_weaker c.leave.result (forgotten c.args.contests.now c.leave.new.contests c.args.lost c.in-Some.prefix c.in-Some.is) c.leave.ensures.counts

pub returns-clause-known : goal.returns-clause-known
returns-clause-known g c = on_ok_weaker c.leave.result (λ known rows now counts covers knows. known rows now counts (covers c.in-Some.prefix) knows) c.leave.ensures.known
