use Rattle.hop_determinism.proofs.ResolverLemmas.{clients_register_is_one}
use Rattle.hop_determinism.proofs.what_a_client_asks_is_one.Goals as goal

pub returns : goal.returns
returns g c = clients_register_is_one
