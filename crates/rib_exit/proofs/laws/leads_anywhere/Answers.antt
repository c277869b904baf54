use Rattle.rib_exit.proofs.LawLemmas as laws
use Rattle.rib_exit.proofs.laws.leads_anywhere.Goals as goal

pub returns : goal.returns
returns c = laws.leads_anywhere
