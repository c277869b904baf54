use Rattle.decision.proofs.Kept.{empty_knows, empty_marked}
use Rattle.decision.proofs.KnowLemmas.{knows_nothing}
use Rattle.decision.proofs.CountLemmas.{counts_nothing}
use Rattle.decision.proofs.contests.Contests.new.Goals as goal

pub invariant_of-result : goal.invariant_of-result
invariant_of-result g c = empty_marked _ _ c.new-2.ensures

pub returns-clause-known : goal.returns-clause-known
returns-clause-known g c = knows_nothing _ (empty_knows _ _ c.new.ensures)

pub returns-clause-counts : goal.returns-clause-counts
returns-clause-counts g c = counts_nothing _ (empty_knows _ _ c.new.ensures)
