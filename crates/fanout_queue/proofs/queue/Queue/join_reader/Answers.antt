use Rattle.std.proofs.Common.{arith, [], IsSome, refl, sym, subst}
use Rattle.std.specs.FinMap as map
use Rattle.fanout_queue.proofs.QueueLemmas.{free_is, below_is, joined, joined_live, few_there}
use Rattle.fanout_queue.specs.Queues.{KeepsReaders}
use Rattle.fanout_queue.proofs.LeadLemmas.{join_keeps_readers}
use Rattle.fanout_queue.proofs.queue.Queue.join_reader.Goals as goal

pub enter-requires-clause-fits : goal.enter-requires-clause-fits
enter-requires-clause-fits g c =
    let end = c.end-end.ensures in
    few_there c.self.inside.entries c.self.inside.places.items c.end-end.result c.self.invariant (omega arith) c.join_place.ensures.few

pub returns-clause-fresh : goal.returns-clause-fresh
returns-clause-fresh g c = free_is c.self.inside.entries c.self.inside.places.items c.args.self.now c.self.view_is c.in_ok-number.number c.in_ok-number.number refl c.in_ok-number.ensures.free

pub returns-clause-least : goal.returns-clause-least
returns-clause-least g c = below_is c.self.inside.entries c.self.inside.places.items c.args.self.now c.in_ok-number.number c.self.view_is c.in_ok-number.ensures.least

pub returns-clause-ok : goal.returns-clause-ok
returns-clause-ok g c =
    joined c.self.inside.entries c.enter.new.self c.self.inside.places.items c.join_place.new.places.items c.in_ok-number.number c.end-end.result c.end-end.ensures c.in_ok-number.ensures.free c.in_ok-number.ensures.ok c.enter.ensures c.self.invariant c.args.self.now c.self.view_is

pub returns-clause-live : goal.returns-clause-live
returns-clause-live g c = subst (λ m. IsSome (map.get m c.in_ok-number.number)) (sym (returns-clause-ok g c)) (joined_live c.args.self.now c.in_ok-number.number [])

pub returns-clause-stay : goal.returns-clause-stay
returns-clause-stay g c = subst (KeepsReaders c.args.self.now) (sym (returns-clause-ok g c)) (join_keeps_readers c.args.self.now c.in_ok-number.number)
