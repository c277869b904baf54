use Rattle.cache_stage.proofs.KeptLemmas.{keeps}
use Rattle.cache_stage.proofs.cache.Cache.take_in.Goals as goal

pub returns-clause-law : goal.returns-clause-law
returns-clause-law g c = keeps c.args.self.now _ c.args.change c.in_ok-keep.ensures.ok
