use Rattle.hop_determinism.proofs.KnownLemmas.{counts_are_one, least_is_one}
use Rattle.hop_determinism.proofs.ResolverLemmas.{told_is_one, renews_is_one, kept_is_one}
use Rattle.hop_determinism.proofs.TurnLemmas.{invalidated_is_one, stale_is_one}
use Rattle.hop_determinism.proofs.what_is_known_is_one.Goals as goal

pub returns : goal.returns
returns g c = record { counts = counts_are_one; least = least_is_one; told = told_is_one; renews = renews_is_one; kept = kept_is_one; invalidated = invalidated_is_one; stale = stale_is_one }
