use Rattle.std.proofs.Common.{◌≡◌, ◌++◌, ◌∷◌, replicate}
use Rattle.bgp_attr.specs.declared.path.SegmentKind.TheVariants.{Sequence}
use Rattle.bgp_attr.specs.Words.{head_of}
use Rattle.bgp_attr.proofs.path.front.push_repeated.Given as goal

abbrev pub invariant-loop-turn : goal.invariant-loop-turn
invariant-loop-turn l = l.words.items ≡ l.fn.words.items ++ head_of Sequence l.count ∷ replicate l.turn l.asn
