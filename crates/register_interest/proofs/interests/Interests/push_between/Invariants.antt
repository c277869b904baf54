use Rattle.std.proofs.Common.{map}
use Rattle.std.specs.Map.Iter.{deref_pair}
use Rattle.register_interest.specs.Width.{width}
use Rattle.register_interest.proofs.InterestLemmas.{IsHitsOf}
use Rattle.register_interest.proofs.interests.Interests.push_between.Given as goal

abbrev pub invariant-loop-interest : goal.invariant-loop-interest
invariant-loop-interest g l = IsHitsOf width l.prefix (map deref_pair l.yielded) l.fn.out.items l.out.items
