use Rattle.nexthop_known.proofs.StaleLemmas.{none_counts, some_counts, one_counts_no_more, same_count, known_count, none_stale}
use Rattle.nexthop_known.proofs.laws.next_hops_are_counted.Goals as goal

pub returns : goal.returns
returns g c = record { none = none_counts; some = some_counts; fewer = one_counts_no_more; same = same_count; known = known_count; stale = none_stale }
