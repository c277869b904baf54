use Rattle.loss_chain.proofs.BeyondLemmas.{tables_listed, swept_beyond, welded_beyond}
use Rattle.loss_chain.proofs.laws.rows_are_listed.Goals as goal

pub returns-clause-listed : goal.returns-clause-listed
returns-clause-listed g c = tables_listed

pub returns-clause-turns : goal.returns-clause-turns
returns-clause-turns g c = swept_beyond

pub returns-clause-welds : goal.returns-clause-welds
returns-clause-welds g c = welded_beyond
