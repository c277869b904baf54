use Rattle.event_gen.proofs.LawLemmas.{lines_are_read}
use Rattle.event_gen.proofs.laws.lines_are_read.Goals as goal

pub returns : goal.returns
returns c = lines_are_read
