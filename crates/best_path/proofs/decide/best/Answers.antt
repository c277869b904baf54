use Rattle.std.proofs.Common.{◌∙◌}
use Rattle.best_path.specs.Keys.{candidate_of}
use Rattle.best_path.proofs.PlaceLemmas.{as_many}
use Rattle.best_path.proofs.LawLemmas.{picked_only}
use Rattle.best_path.proofs.decide.best.Goals as goal

pub returns-in-1 : goal.returns-in-1
returns-in-1 c = λ routes is.
    picked_only routes (as_many candidate_of routes c.args.candidates.now is ∙ c.in-1.is)
