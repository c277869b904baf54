use Rattle.nexthop_resolver.proofs.FewLemmas as few
use Rattle.nexthop_resolver.proofs.laws.known_are_few.Goals as goal

pub returns : goal.returns
returns g c = few.known_are_few
