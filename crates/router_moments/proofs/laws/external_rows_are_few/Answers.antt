use Rattle.router_moments.proofs.MostLemmas.{external_few}
use Rattle.router_moments.proofs.laws.external_rows_are_few.Goals as goal

pub returns : goal.returns
returns c = external_few
