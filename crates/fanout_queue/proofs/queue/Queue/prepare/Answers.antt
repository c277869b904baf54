use Rattle.fanout_queue.proofs.QueueLemmas.{indexed_same, indexed_sound}
use Rattle.fanout_queue.proofs.queue.Queue.prepare.Goals as goal

pub invariant_of-self : goal.invariant_of-self
invariant_of-self g c = indexed_sound c.self.inside.entries c.prepare.new.self c.self.inside.places.items c.prepare.ensures.same c.self.invariant

pub returns : goal.returns
returns g c = indexed_same c.self.inside.entries c.prepare.new.self c.self.inside.places.items c.prepare.ensures.same c.args.self.now c.self.view_is
