use Rattle.bgp_wire.proofs.FoundLaws.{none_has}
use Rattle.bgp_wire.proofs.types.TypeSet.new.Goals as goal

pub returns : goal.returns
returns c = none_has 256
