use Rattle.nexthop_known.proofs.CountLemmas.{named_is_counted, counted_is_named}
use Rattle.nexthop_known.proofs.laws.named_are_counted.Goals as goal

pub returns : goal.returns
returns c = record { named = named_is_counted; counted = counted_is_named }
