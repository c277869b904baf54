-- When the task has work, and how many turns are left of it.
use Rattle.nexthop_resolver.specs.Kept.{same_way}
use Rattle.nexthop_resolver.proofs.LeftLemmas as resolver
use Rattle.rib_exit.specs.Laws.{NoneLeftWithoutWork, TurnsAreBounded, LeftFollows}

pub none_left_without_work : NoneLeftWithoutWork
none_left_without_work e beyond = resolver.none_left_without_work same_way beyond e.forwarding

pub turns_are_bounded : TurnsAreBounded
turns_are_bounded e beyond most = let b = resolver.turns_are_bounded same_way beyond e.forwarding most in record { turns = b.turns; stale = b.stale }

pub left_follows : LeftFollows
left_follows e before now less = resolver.left_follows same_way before now e.forwarding less
