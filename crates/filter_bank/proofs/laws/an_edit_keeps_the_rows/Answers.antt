use Rattle.filter_bank.proofs.LawLemmas.{an_edit_keeps_the_rows}
use Rattle.filter_bank.proofs.laws.an_edit_keeps_the_rows.Goals as goal

pub returns : goal.returns
returns c = an_edit_keeps_the_rows
