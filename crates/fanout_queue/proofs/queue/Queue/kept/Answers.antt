use Rattle.fanout_queue.proofs.QueueLemmas.{most_unread}
use Rattle.fanout_queue.proofs.queue.Queue.kept.Goals as goal

pub returns : goal.returns
returns g c = most_unread c.self.inside.entries c.self.inside.places.items c.args.self.now c.len.result c.self.view_is c.self.invariant c.len.ensures
