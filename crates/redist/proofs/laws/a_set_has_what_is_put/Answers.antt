use Rattle.redist.proofs.LawLemmas.{has_what_is_put, others_stay_put}
use Rattle.redist.proofs.laws.a_set_has_what_is_put.Goals as goal

pub returns : goal.returns
returns c = record { put = has_what_is_put; others = others_stay_put }
