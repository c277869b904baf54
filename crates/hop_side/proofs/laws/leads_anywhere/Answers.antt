use Rattle.hop_side.proofs.LawLemmas as laws
use Rattle.hop_side.proofs.laws.leads_anywhere.Goals as goal

pub returns : goal.returns
returns c = laws.leads_anywhere
