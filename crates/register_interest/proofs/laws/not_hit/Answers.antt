use Rattle.register_interest.specs.Width.{width}
use Rattle.register_interest.proofs.CoverLemmas.{not_hit}
use Rattle.register_interest.proofs.laws.not_hit.Goals as goal

pub returns : goal.returns
returns g c = λ rows p s new m mp ms stands out a ha. not_hit width rows p new s m mp ms stands out a ha
