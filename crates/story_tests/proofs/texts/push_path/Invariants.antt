use Rattle.std.proofs.Common.{length}
use Rattle.story_tests.proofs.texts.push_path.Given as goal

abbrev pub decreases-segments : goal.decreases-segments
decreases-segments l = length l.rest
