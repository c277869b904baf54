use Rattle.router_moments.proofs.Common.{sym, subst, List, take, AddressPrefix, Attrs, Profile, Pushes, AreHeard, HaveFed}
use Rattle.std.specs.Prelude.{Option}
use Rattle.router_moments.proofs.FeedLemmas.{fed_profile, pushed_more, take_pair, heard_at}
use Rattle.router_network.proofs.network.Network.feed.Goals as goal

pub loop-change-preserved : goal.loop-change-preserved
loop-change-preserved g c = record {
  feeds =
      let more = take_pair c.args.changes.now c.loop-change.change-index c.change-item.result c.in_ok-row.row c.loop-change-test.true c.change-item.is c.in_ok-row.ensures in
      subst (λ (xs : List (AddressPrefix × Option Attrs)). Pushes (HaveFed c.args.number xs c.args.self.now c.feed_one.new.self) c.args.journal.now c.feed_one.new.journal) (sym more)
      (pushed_more c.args.number (take c.loop-change.change-index c.args.changes.now) (c.change-item.result.0, c.in_ok-row.row) c.args.self.now c.loop-change.self c.feed_one.new.self
      c.args.journal.now c.loop-change.journal c.feed_one.new.journal c.loop-change.invariant.feeds c.in_ok-feed_one.ensures.feeds);
  informed = c.in_ok-feed_one.ensures.informed;
}

pub feed_one-requires-clause-heard : goal.feed_one-requires-clause-heard
feed_one-requires-clause-heard g c =
    heard_at c.loop-change.self.declared.profile c.args.changes.now c.loop-change.change-index c.change-item.result c.in_ok-row.row c.loop-change-test.true c.change-item.is c.in_ok-row.ensures
    (subst (λ (f : Profile). AreHeard f c.args.changes.now) (fed_profile c.args.number _ c.args.self.now c.loop-change.self c.args.journal.now c.loop-change.journal c.loop-change.invariant.feeds) c.requires.heard)
