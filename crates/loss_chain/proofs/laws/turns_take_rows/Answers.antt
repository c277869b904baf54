use Rattle.loss_chain.proofs.TurnLemmas.{turn_takes_row, weld_keeps_rows, loss_keeps_rows}
use Rattle.loss_chain.proofs.laws.turns_take_rows.Goals as goal

pub returns-clause-turns : goal.returns-clause-turns
returns-clause-turns g c = turn_takes_row

pub returns-clause-welds : goal.returns-clause-welds
returns-clause-welds g c = weld_keeps_rows

pub returns-clause-losses : goal.returns-clause-losses
returns-clause-losses g c = loss_keeps_rows
