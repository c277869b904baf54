use Rattle.filter_bank.proofs.OutLemmas.{only_what_may_go, only_forms_of_rows}
use Rattle.filter_bank.proofs.laws.what_goes_out.Goals as goal

pub returns : goal.returns
returns c = record { may_go = only_what_may_go; form = only_forms_of_rows }
