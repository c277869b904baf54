use Rattle.std.proofs.Common.{rules, tests, ◌∙◌}
use Rattle.std.proofs.lemmas.Iterator.Search.{find_from_yields_List}
use Rattle.std.proofs.lemmas.Iterator.Consumers.{YieldsList-from_rest}
use Rattle.fanout_queue.specs.Index.{keys_from, stops}
use Rattle.fanout_queue.proofs.index.find_stop.Goals as goal

pub returns-clause-found : goal.returns-clause-found
returns-clause-found g c =
    c.copied.ensures
    ∙ find_from_yields_List (stops c.args.place c.args.other.now) _ _ c.find.result c.find.ensures.ran
    (YieldsList-from_rest (keys_from c.args.from c.args.index.now) (c.range.ensures.between tt))
    (λ x b q k. search (rules, tests))
