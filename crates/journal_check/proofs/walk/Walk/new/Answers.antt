use Rattle.std.proofs.Common.{refl}
use Rattle.journal_check.proofs.JudgeLemmas.{after_none}
use Rattle.journal_check.proofs.walk.Walk.new.Goals as goal

pub returns : goal.returns
returns c = after_none _ refl refl c.new.ensures c.new-2.ensures
