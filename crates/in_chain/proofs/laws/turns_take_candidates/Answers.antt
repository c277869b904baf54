use Rattle.in_chain.proofs.CandidateLemmas.{swept_rows_take_candidates, stages_take_the_next, walks_have_no_next, turns_take_the_next}
use Rattle.in_chain.proofs.laws.turns_take_candidates.Goals as goal

pub returns-clause-swept : goal.returns-clause-swept
returns-clause-swept c = swept_rows_take_candidates

pub returns-clause-stages : goal.returns-clause-stages
returns-clause-stages c = stages_take_the_next

pub returns-clause-walks : goal.returns-clause-walks
returns-clause-walks c = walks_have_no_next

pub returns-clause-turns : goal.returns-clause-turns
returns-clause-turns c = turns_take_the_next
