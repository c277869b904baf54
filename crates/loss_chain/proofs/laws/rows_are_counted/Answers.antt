use Rattle.loss_chain.proofs.CountLemmas.{counted}
use Rattle.loss_chain.proofs.laws.rows_are_counted.Goals as goal

pub returns : goal.returns
returns g c = λ chain is. counted chain.live chain.deletions is.apart
