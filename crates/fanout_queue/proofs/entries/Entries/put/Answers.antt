use Rattle.std.proofs.Common.{◌<◌, ◌+◌, ◌^◌, arith, length}
use Rattle.fanout_queue.specs.Entries.{changes_of}
use Rattle.fanout_queue.proofs.EntryLemmas.{end_is, put_kept}
use Rattle.fanout_queue.proofs.entries.Entries.put.Goals as goal

pub invariant_of-self-2 : goal.invariant_of-self-2
invariant_of-self-2 g c =
    let number = end_is c.self.inside.first c.self.inside.kept.items c.self.inside.at_end c.end.result c.args.self.now c.self.view_is c.end.ensures in
    let last = c.if-end.false in
    let fits = c.self.invariant.fits in
    let room : c.self.inside.first + length (changes_of c.self.inside.kept.items) + 1 < 2 ^ 64 = omega arith in
    put_kept c.self.inside.first c.self.inside.kept.items c.push.new.kept.items c.args.change c.self.inside.at_end c.self.inside.index c.self.inside.indexed room c.in_ok-push.ensures.ok c.self.invariant
