use Rattle.std.proofs.Common.{refl}
use Rattle.bgp_wire.proofs.gathered.Gathered.new.Goals as goal

pub returns : goal.returns
returns c = λ p. record { types = c.new.ensures; new = λ kind e. refl; found = c.new-2.ensures p; withdraw = refl }
