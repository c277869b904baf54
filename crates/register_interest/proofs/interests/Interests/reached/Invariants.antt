use Rattle.std.proofs.Common.{[]}
use Rattle.std.specs.FinMap as map
use Rattle.register_interest.specs.Width.{width}
use Rattle.register_interest.specs.Interests.{Appends}
use Rattle.register_interest.proofs.InterestLemmas.{IsAbove}
use Rattle.register_interest.proofs.interests.Interests.reached.Given as goal

abbrev pub invariant-loop-length : goal.invariant-loop-length
invariant-loop-length g l = Appends width l.prefix (map.get l.self) (IsAbove width l.prefix l.length) [] l.out.items
