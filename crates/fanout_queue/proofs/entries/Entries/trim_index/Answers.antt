use Rattle.std.proofs.Common.{arith}
use Rattle.fanout_queue.proofs.EntryLemmas.{none_indexed}
use Rattle.fanout_queue.proofs.entries.Entries.trim_index.Goals as goal

pub invariant_of-self : goal.invariant_of-self
invariant_of-self g c =
    let same = c.if-self.true in
    none_indexed c.self.inside.first c.self.inside.kept.items c.self.inside.index c.clear.new.self c.self.inside.indexed c.self.inside.indexed (omega arith) c.clear.ensures.empty c.self.invariant
