use Rattle.forward_determinism.proofs.ListLemmas as lists
use Rattle.forward_determinism.proofs.listed_rows_are_one.Goals as goal

pub returns : goal.returns
returns c = lists.listed_is_one
