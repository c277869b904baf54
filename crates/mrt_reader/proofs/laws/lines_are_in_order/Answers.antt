use Rattle.mrt_reader.proofs.OrderLemmas.{file_order}
use Rattle.mrt_reader.proofs.laws.lines_are_in_order.Goals as goal

pub returns : goal.returns
returns c = file_order
