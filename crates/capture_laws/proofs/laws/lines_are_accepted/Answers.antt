use Rattle.capture_laws.proofs.AcceptLemmas.{all_accepted}
use Rattle.capture_laws.proofs.laws.lines_are_accepted.Goals as goal

pub returns : goal.returns
returns c = all_accepted c.files_are_opened.ensures c.lines_are_in_order.ensures
