use Rattle.std.proofs.Common.{arith}
use Rattle.std.proofs.lemmas.List.{length-map}
use Rattle.fanout_queue.proofs.EntryLemmas.{end_is, more_kept, same_indexed}
use Rattle.fanout_queue.proofs.entries.Entries.index_next.Goals as goal

pub invariant_of-self : goal.invariant_of-self
invariant_of-self g c =
    same_indexed c.self.inside.first c.self.inside.kept.items c.self.inside.index c.put_key.new.index c.self.inside.indexed c.in_err-put_key.ensures.memory c.self.invariant

pub invariant_of-self-2 : goal.invariant_of-self-2
invariant_of-self-2 g c =
    let later = c.max-number.ensures in
    let end = end_is c.self.inside.first c.self.inside.kept.items c.self.inside.at_end c.end.result c.args.self.now c.self.view_is c.end.ensures in
    let more = c.if-number-end.false in
    let until = c.self.invariant.until in
    let count = length-map c.self.inside.kept.items (λ e. e.change) in
    more_kept c.self.inside.first c.self.inside.kept.items c.self.inside.index c.put_key.new.index c.self.inside.indexed c.max-number.result c.index.result.now
    (omega arith) (omega arith) (λ n low less. omega arith) (omega arith) c.index.ensures c.self.invariant c.in_ok-put_key.ensures.ok.0
