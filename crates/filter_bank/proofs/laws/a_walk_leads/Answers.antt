use Rattle.filter_bank.proofs.LawLemmas.{a_walk_leads}
use Rattle.filter_bank.proofs.laws.a_walk_leads.Goals as goal

pub returns : goal.returns
returns c = a_walk_leads
