use Rattle.std.proofs.Common.{sym}
use Rattle.journal_check.proofs.StepLemmas.{inherited, inherited_none}
use Rattle.journal_check.proofs.links.LiveLinks.inherit.Goals as goal

pub returns-in_default : goal.returns-in_default
returns-in_default c = inherited_none c.args.self.now c.take.new.self c.args.link c.args.from (sym c.in_default.ensures) c.take.ensures.taken

pub returns : goal.returns
returns c = inherited c.args.self.now c.put.new.self c.args.link c.args.from c.in-Some.rows.now c.in_ok-rows.rows c.in-Some.ensures c.in_ok-rows.ensures c.in_ok-put.ensures
