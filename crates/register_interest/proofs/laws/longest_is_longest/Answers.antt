use Rattle.register_interest.specs.Width.{width}
use Rattle.register_interest.proofs.CoverLemmas.{longest_is}
use Rattle.register_interest.proofs.laws.longest_is_longest.Goals as goal

pub returns : goal.returns
returns g c = λ rows a. longest_is width rows a
