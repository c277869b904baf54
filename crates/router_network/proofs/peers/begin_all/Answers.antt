use Rattle.router_network.proofs.LocalLemmas.{begun_next}
use Rattle.router_network.proofs.peers.begin_all.Goals as goal

pub loop-link-preserved : goal.loop-link-preserved
loop-link-preserved g c =
    begun_next c.args.links.now c.loop-link.link-index _ c.args.journal.now c.loop-link.journal c.push_line.new.self c.loop-link-test.true c.loop-link.invariant c.in_ok-push_line.ensures
