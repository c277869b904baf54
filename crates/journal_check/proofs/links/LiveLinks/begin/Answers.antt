use Rattle.journal_check.proofs.StepLemmas.{begun}
use Rattle.journal_check.proofs.links.LiveLinks.begin.Goals as goal

pub returns : goal.returns
returns c = begun c.args.self.now c.put-2.new.self c.args.link c.new.result c.new.ensures c.in_ok-put.ensures
