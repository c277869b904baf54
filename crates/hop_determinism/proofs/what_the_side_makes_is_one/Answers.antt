use Rattle.hop_determinism.proofs.SideLemmas.{takes_hop_is_one, turns_below_is_one, turns_with_work, reaches_is_one}
use Rattle.hop_determinism.proofs.what_the_side_makes_is_one.Goals as goal

pub returns : goal.returns
returns c = record { takes = takes_hop_is_one; turns = turns_below_is_one; work = turns_with_work; reaches = reaches_is_one }
