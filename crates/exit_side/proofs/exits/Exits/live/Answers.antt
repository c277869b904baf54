use Rattle.std.proofs.Common.{◌∙◌, ap, is_some}
use Rattle.fanout_queue.specs.Readers.{read_rows}
use Rattle.exit_side.proofs.exits.Exits.live.Goals as goal

pub returns-in-Some : goal.returns-in-Some
returns-in-Some g c = λ best. c.live.ensures (read_rows c.args.self.now.queue c.in-Some.chain.now.reader best) ∙ ap is_some (c.in-Some.ensures.links best)
