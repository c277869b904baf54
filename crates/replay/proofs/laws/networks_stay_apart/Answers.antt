use Rattle.replay.proofs.ApartLemmas as apart
use Rattle.replay.proofs.laws.networks_stay_apart.Goals as goal

pub returns : goal.returns
returns c = apart.networks_stay_apart
