use Rattle.exit_side.proofs.StrangerLemmas.{begin_keeps, end_keeps, edit_keeps, turn_keeps, put_keeps}
use Rattle.exit_side.proofs.laws.strangers_are_left.Goals as goal

pub returns-clause-begin : goal.returns-clause-begin
returns-clause-begin c = begin_keeps

pub returns-clause-end : goal.returns-clause-end
returns-clause-end c = end_keeps

pub returns-clause-edit : goal.returns-clause-edit
returns-clause-edit c = edit_keeps

pub returns-clause-turn : goal.returns-clause-turn
returns-clause-turn c = turn_keeps

pub returns-clause-put : goal.returns-clause-put
returns-clause-put c = put_keeps
