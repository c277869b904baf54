use Rattle.mrt_reader.proofs.OpeningLemmas.{few_lines}
use Rattle.mrt_reader.proofs.laws.lines_are_few.Goals as goal

pub returns : goal.returns
returns c = few_lines
