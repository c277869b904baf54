use Rattle.router_moments.proofs.RouteLemmas.{settled}
use Rattle.router_network.proofs.KnownRows.{tree_quiet}
use Rattle.router_network.proofs.network.Network.settle.Goals as goal

pub returns-clause-settles : goal.returns-clause-settles
returns-clause-settles g c =
    settled c.args.proto c.args.sent c.args.self.now c.follow.new.self _ c.weld.new.self c.args.journal.now c.follow.new.journal c.weld.new.journal c.self.view_is c.in_ok-follow.ensures.follows c.in_ok-weld.ensures.after c.in_ok-weld.ensures.lines
    c.in_ok-weld.ensures.leads c.in_ok-weld.ensures.rows c.in_ok-weld.ensures.tree c.in_ok-weld.ensures.full

pub returns-clause-informed : goal.returns-clause-informed
returns-clause-informed g c = tree_quiet c.follow.new.contests c.follow.new.self _ c.weld.new.self c.self.view_is c.in_ok-weld.ensures.rows c.in_ok-follow.ensures.informed
