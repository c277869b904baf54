use Rattle.hop_side.proofs.LawLemmas as laws
use Rattle.hop_side.proofs.laws.strangers_agree.Goals as goal

pub returns : goal.returns
returns c = laws.strangers_agree
