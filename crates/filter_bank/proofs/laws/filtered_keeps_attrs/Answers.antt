use Rattle.filter_bank.proofs.LawLemmas.{filtered_keeps_attrs}
use Rattle.filter_bank.proofs.laws.filtered_keeps_attrs.Goals as goal

pub returns : goal.returns
returns c = filtered_keeps_attrs
