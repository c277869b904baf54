use Rattle.register_interest.proofs.RegisterLemmas.{none_stand, none_short, no_interest_short}
use Rattle.register_interest.specs.Search.{rows_in}
use Rattle.register_interest.proofs.register.Register.new.Goals as goal

pub invariant_of-result : goal.invariant_of-result
invariant_of-result g c = rw c.new-2.ensures (none_stand (rows_in c.new.result), none_short g.F.Family.WIDTH c.new.result c.new.ensures.empty, no_interest_short g.F.Family.WIDTH)
