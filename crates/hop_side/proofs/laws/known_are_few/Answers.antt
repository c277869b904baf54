use Rattle.hop_side.proofs.FewLemmas as few
use Rattle.hop_side.proofs.laws.known_are_few.Goals as goal

pub returns : goal.returns
returns c = few.known_are_few
