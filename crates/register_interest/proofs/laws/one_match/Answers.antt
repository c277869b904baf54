use Rattle.register_interest.specs.Width.{width}
use Rattle.register_interest.proofs.CoverLemmas.{cover_match}
use Rattle.register_interest.proofs.laws.one_match.Goals as goal

pub returns : goal.returns
returns g c = λ rows a b m s is hb. cover_match width rows a b m s is hb
