use Rattle.nexthop_known.proofs.TallyLemmas.{raised_is, first_is, not_first, is_first}
use Rattle.nexthop_known.proofs.tallies.Tallies.one_more.Goals as goal

pub returns-in_ok-more-in-Some-clause-counts : goal.returns-in_ok-more-in-Some-clause-counts
returns-in_ok-more-in-Some-clause-counts g c =
    raised_is c.self.inside.others c.put_count.new.counts c.args.self.now c.args.hop c.self.view_is c.in-Some.others c.in_ok-more-in-Some.more c.in-Some.ensures
    c.in_ok-more-in-Some.ensures c.put_count.ensures

pub returns-in_ok-more-in-Some-clause-first : goal.returns-in_ok-more-in-Some-clause-first
returns-in_ok-more-in-Some-clause-first g c =
    not_first c.self.inside.others c.self.inside.others c.args.self.now c.args.hop c.self.view_is c.in-Some.others c.in-Some.ensures

pub returns-in_ok-insert-in-None-clause-counts : goal.returns-in_ok-insert-in-None-clause-counts
returns-in_ok-insert-in-None-clause-counts g c =
    first_is c.self.inside.others c.insert.new.self c.args.self.now c.args.hop c.self.view_is c.in-None.ensures c.in_ok-insert-in-None.ensures.updates.0

pub returns-in_ok-insert-in-None-clause-first : goal.returns-in_ok-insert-in-None-clause-first
returns-in_ok-insert-in-None-clause-first g c =
    is_first c.self.inside.others c.self.inside.others c.args.self.now c.args.hop c.self.view_is c.in-None.ensures
