use Rattle.rib_exit.proofs.FewLemmas as few
use Rattle.rib_exit.proofs.laws.rows_are_few.Goals as goal

pub returns : goal.returns
returns c = few.rows_are_few
