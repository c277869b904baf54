use Rattle.std.proofs.Common.{◌≡◌, take}
use Rattle.bgp_attr.specs.Words.{marks_of}
use Rattle.bgp_attr.proofs.marks.Marks.of.Given as goal

abbrev pub invariant-loop-word : goal.invariant-loop-word
invariant-loop-word l = l.marks.bits ≡ marks_of (take l.word-index l.words)
