use Rattle.check_run.proofs.Walks.{walked_nothing}
use Rattle.check_run.proofs.checking.Checking.new.Goals as goal

pub returns : goal.returns
returns c = walked_nothing _ c.new.ensures c.new-2.ensures.items
