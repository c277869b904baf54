use Rattle.nexthop_resolver.proofs.AgreeLemmas.{nothing_yet, others_agree}
use Rattle.nexthop_resolver.proofs.ReachLemmas.{reached_agrees}
use Rattle.nexthop_resolver.proofs.laws.the_register_agrees.Goals as goal

pub returns : goal.returns
returns g c = record {
  first = λ kept client r none. nothing_yet kept client r none;
  others = λ kept client other s was is apart keeps agree. others_agree kept client other s.known was is apart keeps agree;
  reached = λ kept k out was is old new own agree ints keeps r. reached_agrees out k old new r kept was is own agree ints keeps;
}
