use Rattle.std.proofs.Common.{ap, ◌∙◌}
use Rattle.std.specs.List.{find}
use Rattle.addr4.specs.Places.{key_of}
use Rattle.fanout_queue.specs.Index.{keys_from, stops}
use Rattle.fanout_queue.proofs.KeyLemmas.{first_stop}
use Rattle.fanout_queue.proofs.index.first_stop.Goals as goal

pub returns : goal.returns
returns g c =
    first_stop c.args.index.now (stops c.args.place c.args.other.now) (key_of c.args.after.now) c.find_stop.result c.find_stop.ensures.ordered c.requires
    (c.find_stop.ensures.found ∙ ap (λ from. find (stops c.args.place c.args.other.now) (keys_from from c.args.index.now)) c.behind.ensures)
