use Rattle.router_moments.proofs.Common.{on_ok_weaker}
use Rattle.router_moments.proofs.StandLemmas.{chain_is_there, peers_sound}
use Rattle.router_moments.proofs.FeedLemmas.{one_fed, fed_settles}
use Rattle.router_network.proofs.ChainShifts.{fed_has_shift, fed_enters, fed_above, fed_has_shifted, fed_informed}
use Rattle.router_network.specs.contracts.network.Network.{the_view}
use Rattle.router_network.proofs.Counting.{on_ok_both}
use Rattle.router_network.proofs.network.Network.feed_one.Goals as goal

pub feed-requires-clause-sound : goal.feed-requires-clause-sound
feed-requires-clause-sound g c = peers_sound c.args.self.now _ c.self.view_is c.requires.stands

pub feed-requires-clause-there : goal.feed-requires-clause-there
feed-requires-clause-there g c = chain_is_there c.args.self.now _ c.self.view_is c.requires.stands c.args.number c.requires.up.0 c.requires.up.1

pub settle_peer-requires-clause-may : goal.settle_peer-requires-clause-may
settle_peer-requires-clause-may g c = fed_settles c.args.number c.args.prefix c.args.row _ c.args.self.now _ c.feed.new.self c.args.journal.now c.feed.new.journal c.self.view_is c.requires.stands c.in_ok-sent.ensures

pub returns-clause-feeds : goal.returns-clause-feeds
returns-clause-feeds g c =
    on_ok_weaker c.leave.result
    (λ _. one_fed c.args.number c.args.prefix c.args.row _ c.args.self.now _ c.feed.new.self c.settle_peer.new.self c.args.journal.now c.feed.new.journal c.settle_peer.new.journal c.self.view_is c.requires.stands c.requires.up c.requires.heard c.in_ok-sent.ensures c.in_ok-settle_peer.ensures.settles)
    c.leave.ensures.counts

pub enter-requires : goal.enter-requires
enter-requires g c =
    fed_has_shift c.args.number c.args.prefix c.args.row c.in_ok-sent.sent c.args.self.now (the_view g.row.F g.F.Family g.F.Clone c.self.inside) c.feed.new.self c.in_ok-sent.ensures.0 c.has_candidate-had.result c.has_candidate-has.result c.self.view_is c.requires.stands c.in_ok-sent.ensures.2
    c.has_candidate-had.ensures c.has_candidate-has.ensures c.args.contests.now c.requires.informed

pub settle_peer-requires-clause-above : goal.settle_peer-requires-clause-above
settle_peer-requires-clause-above g c =
    let counts = fed_enters c.args.number c.args.prefix c.args.row c.in_ok-sent.sent c.args.self.now (the_view g.row.F g.F.Family g.F.Clone c.self.inside) c.feed.new.self c.in_ok-sent.ensures.0 c.has_candidate-had.result c.has_candidate-has.result c.self.view_is c.requires.stands c.in_ok-sent.ensures.2
    c.has_candidate-had.ensures c.has_candidate-has.ensures c.args.contests.now c.enter.new.contests c.requires.informed c.in_ok-enter.ensures.counts in
    fed_above c.args.number c.args.prefix c.args.row c.in_ok-sent.sent c.args.self.now (the_view g.row.F g.F.Family g.F.Clone c.self.inside) c.feed.new.self c.in_ok-sent.ensures.0 c.has_candidate-had.result c.has_candidate-has.result c.self.view_is c.requires.stands c.in_ok-sent.ensures.2
    c.has_candidate-had.ensures c.has_candidate-has.ensures c.args.contests.now c.enter.new.contests c.requires.informed c.in_ok-enter.ensures.known counts

pub leave-requires : goal.leave-requires
leave-requires g c =
    let counts = fed_enters c.args.number c.args.prefix c.args.row c.in_ok-sent.sent c.args.self.now (the_view g.row.F g.F.Family g.F.Clone c.self.inside) c.feed.new.self c.in_ok-sent.ensures.0 c.has_candidate-had.result c.has_candidate-has.result c.self.view_is c.requires.stands c.in_ok-sent.ensures.2
    c.has_candidate-had.ensures c.has_candidate-has.ensures c.args.contests.now c.enter.new.contests c.requires.informed c.in_ok-enter.ensures.counts in
    fed_has_shifted c.args.number c.args.prefix c.args.row c.in_ok-sent.sent c.args.self.now (the_view g.row.F g.F.Family g.F.Clone c.self.inside) c.feed.new.self c.in_ok-sent.ensures.0 c.has_candidate-had.result c.has_candidate-has.result c.self.view_is c.requires.stands c.in_ok-sent.ensures.2
    c.has_candidate-had.ensures c.has_candidate-has.ensures c.enter.new.contests c.settle_peer.new.contests counts c.in_ok-settle_peer.ensures.counts

pub returns-clause-informed : goal.returns-clause-informed
returns-clause-informed g c =
    let counts = fed_enters c.args.number c.args.prefix c.args.row c.in_ok-sent.sent c.args.self.now (the_view g.row.F g.F.Family g.F.Clone c.self.inside) c.feed.new.self c.in_ok-sent.ensures.0 c.has_candidate-had.result c.has_candidate-has.result c.self.view_is c.requires.stands c.in_ok-sent.ensures.2
    c.has_candidate-had.ensures c.has_candidate-has.ensures c.args.contests.now c.enter.new.contests c.requires.informed c.in_ok-enter.ensures.counts in
    on_ok_both c.leave.result
    (λ leaves known. fed_informed c.args.number c.args.prefix c.args.row c.in_ok-sent.sent c.args.self.now (the_view g.row.F g.F.Family g.F.Clone c.self.inside) c.feed.new.self c.in_ok-sent.ensures.0 c.has_candidate-had.result c.has_candidate-has.result c.self.view_is c.requires.stands c.in_ok-sent.ensures.2
    c.has_candidate-had.ensures c.has_candidate-has.ensures c.enter.new.contests c.settle_peer.new.contests c.leave.new.contests c.settle_peer.new.self c.in_ok-settle_peer.ensures.settles.0 c.in_ok-settle_peer.ensures.settles.2 counts c.in_ok-settle_peer.ensures.counts
    c.in_ok-settle_peer.ensures.known leaves known) c.leave.ensures.counts c.leave.ensures.known
