use Rattle.std.proofs.Common.{rules}
use Rattle.fanout_queue.proofs.KeyLemmas.{first_from}
use Rattle.fanout_queue.proofs.index.first_from.Goals as goal

pub returns-in-Some : goal.returns-in-Some
returns-in-Some g c =
    first_from c.args.index.now (c.args.prefix, c.args.number) c.range.result c.next.new.self c.in-Some.key.now (c.range.ensures.in_range (search rules)) c.in-Some.ensures.steps
