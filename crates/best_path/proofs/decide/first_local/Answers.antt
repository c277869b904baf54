use Rattle.std.proofs.Common.{◌≡◌, [], arith, subst}
use Rattle.best_path.specs.Keys.{candidate_of}
use Rattle.best_path.specs.Places.{those_local}
use Rattle.best_path.proofs.PlaceLemmas.{filter_first_of, filter_none_more_of, up_to_all}
use Rattle.best_path.proofs.decide.first_local.Goals as goal

pub returns-then-candidate : goal.returns-then-candidate
returns-then-candidate c = λ routes is.
    filter_first_of candidate_of routes c.args.candidates.now is (λ one. one.local) c.loop-i.i c.index-candidates-i.result
    c.loop-i-test.true c.index-candidates-i.is (c.loop-i.invariant routes is) c.if-candidate.true

pub loop-i-preserved : goal.loop-i-preserved
loop-i-preserved c = λ routes is.
    filter_none_more_of candidate_of routes c.args.candidates.now is (λ one. one.local) c.loop-i.i c.index-candidates-i.result
    c.loop-i-test.true c.index-candidates-i.is (c.loop-i.invariant routes is) c.if-candidate.false

pub returns : goal.returns
returns c = λ routes is.
    subst (λ l. those_local l ≡ []) (up_to_all candidate_of routes c.args.candidates.now is c.loop-i.i (omega arith)) (c.loop-i.invariant routes is)
