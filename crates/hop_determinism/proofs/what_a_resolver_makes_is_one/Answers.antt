use Rattle.hop_determinism.proofs.ResolverLemmas.{takes_in_is_one}
use Rattle.hop_determinism.proofs.TurnLemmas.{turned_is_one, turn_is_one, turned_has_work}
use Rattle.hop_determinism.proofs.what_a_resolver_makes_is_one.Goals as goal

pub returns : goal.returns
returns g c = record { takes = takes_in_is_one; turned = turned_is_one; turn = turn_is_one; work = turned_has_work }
