use Rattle.rib_exit.proofs.LawLemmas as laws
use Rattle.rib_exit.proofs.laws.strangers_agree.Goals as goal

pub returns : goal.returns
returns c = laws.strangers_agree
