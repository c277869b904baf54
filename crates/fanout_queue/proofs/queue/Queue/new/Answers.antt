use Rattle.fanout_queue.proofs.QueueLemmas.{new_sound}
use Rattle.fanout_queue.proofs.queue.Queue.new.Goals as goal

pub invariant_of-result : goal.invariant_of-result
invariant_of-result g c = new_sound c.new.result c.new-2.result.items c.new.ensures c.new-2.ensures.items
