use Rattle.exit_side.proofs.LawLemmas as laws
use Rattle.exit_side.proofs.laws.leads_anywhere.Goals as goal

pub returns-clause-alone : goal.returns-clause-alone
returns-clause-alone c = laws.leads_anywhere

pub returns-clause-with_best : goal.returns-clause-with_best
returns-clause-with_best c = laws.leads_anywhere_with_best
