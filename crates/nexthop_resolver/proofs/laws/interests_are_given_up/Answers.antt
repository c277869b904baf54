use Rattle.nexthop_resolver.proofs.ReachLemmas.{reached_none, reached_then, reached_rows, reached_len, reached_named}
use Rattle.nexthop_resolver.proofs.laws.interests_are_given_up.Goals as goal

pub returns : goal.returns
returns g c = record {
  none = λ k s. reached_none k s;
  more = λ out i k old mid new r step. reached_then out i k old mid new r step;
  rows = λ hop made upper out k old new r. reached_rows out k old new r hop made upper;
  known = λ out k old new r. (reached_len out k old new r, reached_named out k old new r);
}
