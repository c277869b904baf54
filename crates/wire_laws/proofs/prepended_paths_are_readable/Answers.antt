use Rattle.wire_laws.proofs.Prepended.{prepended_is_readable}
use Rattle.wire_laws.proofs.prepended_paths_are_readable.Goals as goal

pub returns : goal.returns
returns c = prepended_is_readable
