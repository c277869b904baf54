use Rattle.nexthop_resolver.proofs.LeftLemmas.{turns_fall, none_left_at_rest, none_left_without_work, turns_are_bounded, left_follows}
use Rattle.nexthop_resolver.proofs.laws.turns_come_to_an_end.Goals as goal

pub returns : goal.returns
returns g c = record {
  fall = λ hop made candidates upper kept was is alike beyond old new sent tells counts t. turns_fall hop made candidates upper kept was is alike beyond tells counts old new sent t;
  none = λ alike beyond s tells. none_left_at_rest alike beyond s tells;
  idle = λ alike beyond s. none_left_without_work alike beyond s;
  bounded = λ alike beyond s most. turns_are_bounded alike beyond s most;
  follow = λ alike before now s less. left_follows alike before now s less;
}
