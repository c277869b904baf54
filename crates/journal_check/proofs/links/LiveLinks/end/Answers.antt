use Rattle.std.proofs.Common.{ap, ◌∙◌}
use Rattle.journal_check.specs.Maps.{links_of}
use Rattle.journal_check.proofs.StepLemmas.{links_taken}
use Rattle.journal_check.proofs.links.LiveLinks.end.Goals as goal

pub returns : goal.returns
returns c = ap links_of c.take.ensures.taken ∙ links_taken c.args.self.now c.args.link
