use Rattle.in_chain.proofs.TurnLemmas.{candidates_are_counted, filtered_rows_are_few}
use Rattle.in_chain.proofs.laws.candidates_are_counted.Goals as goal

pub returns-clause-counted : goal.returns-clause-counted
returns-clause-counted c = candidates_are_counted

pub returns-clause-few : goal.returns-clause-few
returns-clause-few c = filtered_rows_are_few
