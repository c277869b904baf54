use Rattle.router_moments.proofs.Common.{on_ok_weaker}
use Rattle.router_network.proofs.Counting.{on_ok_both}
use Rattle.router_network.proofs.OwnShifts.{own_has_shift, own_enters, own_but, own_has_shifted, own_informed}
use Rattle.router_network.proofs.network.Network.decide_own.Goals as goal

pub enter-requires : goal.enter-requires
enter-requires g c = own_has_shift c.args.change c.is_some-had.result c.is_some-has.result c.args.contests.now c.args.self.now c.is_some-had.ensures c.is_some-has.ensures c.requires.known

pub decide_change-requires-clause-known : goal.decide_change-requires-clause-known
decide_change-requires-clause-known g c =
    let counts = own_enters c.args.change c.is_some-had.result c.is_some-has.result c.args.contests.now c.args.self.now c.is_some-had.ensures c.is_some-has.ensures c.requires.known c.enter.new.contests c.in_ok-enter.ensures.counts in
    own_but c.args.change c.is_some-had.result c.is_some-has.result c.args.contests.now c.args.self.now c.is_some-had.ensures c.is_some-has.ensures c.requires.known c.enter.new.contests c.in_ok-enter.ensures.known counts

pub leave-requires : goal.leave-requires
leave-requires g c =
    let counts = own_enters c.args.change c.is_some-had.result c.is_some-has.result c.args.contests.now c.args.self.now c.is_some-had.ensures c.is_some-has.ensures c.requires.known c.enter.new.contests c.in_ok-enter.ensures.counts in
    own_has_shifted c.args.change c.is_some-had.result c.is_some-has.result c.args.contests.now c.args.self.now c.is_some-had.ensures c.is_some-has.ensures c.requires.known c.enter.new.contests c.decide_change.new.contests counts
    c.in_ok-decide_change.ensures.counts

pub returns-clause-decides : goal.returns-clause-decides
returns-clause-decides g c = on_ok_weaker c.leave.result (λ _. c.in_ok-decide_change.ensures.decides) c.leave.ensures.counts

pub returns-clause-informed : goal.returns-clause-informed
returns-clause-informed g c =
    let counts = own_enters c.args.change c.is_some-had.result c.is_some-has.result c.args.contests.now c.args.self.now c.is_some-had.ensures c.is_some-has.ensures c.requires.known c.enter.new.contests c.in_ok-enter.ensures.counts in
    on_ok_both c.leave.result
    (λ leaves stays. own_informed c.args.change c.is_some-had.result c.is_some-has.result c.args.contests.now c.args.self.now c.is_some-had.ensures c.is_some-has.ensures c.requires.known c.enter.new.contests c.decide_change.new.contests
    c.leave.new.contests c.decide_change.new.self c.decide_change.new.self.exits c.in_ok-decide_change.ensures.decides.2.after counts c.in_ok-decide_change.ensures.counts c.in_ok-decide_change.ensures.known leaves stays)
    c.leave.ensures.counts c.leave.ensures.known
