use Rattle.std.proofs.Common.{◌≡◌, ◌++◌, length}
use Rattle.std.specs.List.{flat_map}
use Rattle.journal_text.specs.Texts.{segment_text}
use Rattle.journal_text.proofs.attributes.push_path.Given as goal

abbrev pub invariant-segments : goal.invariant-segments
invariant-segments l = l.out.items ++ flat_map segment_text l.rest ≡ l.fn.out.items ++ flat_map segment_text l.path

abbrev pub decreases-segments : goal.decreases-segments
decreases-segments l = length l.rest
