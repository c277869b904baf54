use Rattle.nexthop_known.proofs.CountLemmas.{nothing_is_counted, one_more_counts, one_less_counts, one_for_another, more_and_less, counts_follow}
use Rattle.nexthop_known.proofs.laws.counts_follow_rows.Goals as goal

pub returns : goal.returns
returns c = record { first = nothing_is_counted; more = one_more_counts; less = one_less_counts; another = one_for_another; back = more_and_less; follow = counts_follow }
