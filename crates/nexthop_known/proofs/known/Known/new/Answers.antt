use Rattle.nexthop_known.proofs.TieLemmas.{none_tied, none_told}
use Rattle.nexthop_known.proofs.known.Known.new.Goals as goal

pub invariant_of-result : goal.invariant_of-result
invariant_of-result g c = record {
  tied = none_tied c.new.result c.new-2.result c.new-4.result c.new.ensures.empty c.new-2.ensures.empty c.new-4.ensures.empty;
  told = none_told c.new.result c.new-3.result c.new.ensures.empty c.new-3.ensures.empty;
}
