use Rattle.std.proofs.Common.{rules, ◌≡◌}
use Rattle.std.proofs.lemmas.Result.{on_ok_weaker}
use Rattle.fanout_queue.specs.Entries.{first_readers}
use Rattle.fanout_queue.proofs.QueueLemmas.{put_to_nobody, put_appends}
use Rattle.fanout_queue.proofs.LeadLemmas.{put_keeps_readers}
use Rattle.fanout_queue.proofs.queue.Queue.put.Goals as goal

pub returns-then-first_readers-eq0-clause-ok : goal.returns-then-first_readers-eq0-clause-ok
returns-then-first_readers-eq0-clause-ok g c =
    let none : first_readers c.self.inside.entries ≡ 0 = search rules in
    put_to_nobody c.self.inside.entries c.self.inside.places.items c.args.self.now c.args.change c.self.view_is c.self.invariant none

pub returns-clause-ok : goal.returns-clause-ok
returns-clause-ok g c =
    on_ok_weaker c.put.result
    (λ puts. put_appends c.self.inside.entries c.put.new.self c.self.inside.places.items c.args.change puts c.self.invariant c.args.self.now c.self.view_is)
    c.put.ensures.ok

pub returns-then-first_readers-eq0-clause-stay : goal.returns-then-first_readers-eq0-clause-stay
returns-then-first_readers-eq0-clause-stay g c = put_keeps_readers _ _ c.args.change (returns-then-first_readers-eq0-clause-ok g c)

pub returns-clause-stay : goal.returns-clause-stay
returns-clause-stay g c = on_ok_weaker c.put.result (put_keeps_readers _ _ c.args.change) (returns-clause-ok g c)
