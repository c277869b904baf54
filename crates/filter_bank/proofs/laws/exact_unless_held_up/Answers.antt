use Rattle.filter_bank.proofs.LawLemmas.{exact_unless_held_up}
use Rattle.filter_bank.proofs.laws.exact_unless_held_up.Goals as goal

pub returns : goal.returns
returns c = exact_unless_held_up
