use Rattle.exit_laws.proofs.HearLemmas.{changes_are_unheard}
use Rattle.exit_laws.proofs.OtherLemmas.{others_are_unheard}
use Rattle.exit_laws.proofs.others_are_unheard.Goals as goal

pub returns-clause-regions : goal.returns-clause-regions
returns-clause-regions c = others_are_unheard

pub returns-clause-changes : goal.returns-clause-changes
returns-clause-changes c = changes_are_unheard
