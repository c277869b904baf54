use Rattle.decision.proofs.KnowLemmas.{won_is_best}
use Rattle.decision.proofs.CountLemmas.{kept_is_best}
use Rattle.decision.proofs.contests.Contests.best.Goals as goal

pub invariant_of-result : goal.invariant_of-result
invariant_of-result g c = record {
  known = won_is_best c.args.self.now (g.B.Branches.rows c.args.all.now) c.requires.known;
  counted = kept_is_best c.args.self.now (g.B.Branches.candidates c.args.all.now) c.requires.counted;
}
