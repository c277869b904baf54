-- A peer's known next hops are no more than the rows that name them.
use Rattle.nexthop_resolver.specs.Kept.{route_hop}
use Rattle.nexthop_resolver.proofs.FewLemmas as resolver
pub use Rattle.nexthop_resolver.proofs.FewLemmas.{few}
use Rattle.hop_side.specs.Laws.{KnownAreFew}

pub known_are_few : KnownAreFew
known_are_few a uppers k s prefixes hops counted at covers = resolver.known_are_few route_hop (uppers k) s prefixes (hops k s at).named (counted k s at) covers
