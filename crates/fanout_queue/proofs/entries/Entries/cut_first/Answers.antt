use Rattle.fanout_queue.proofs.EntryLemmas.{cut_kept}
use Rattle.fanout_queue.proofs.entries.Entries.cut_first.Goals as goal

pub invariant_of-self-in-Some : goal.invariant_of-self-in-Some
invariant_of-self-in-Some g c =
    cut_kept c.self.inside.first c.self.inside.kept.items c.give_back.new.kept.items c.pop_front.new.self.items c.in-Some.field-0 c.self.inside.index c.self.inside.indexed c.in-Some.ensures.items c.give_back.ensures c.self.invariant
