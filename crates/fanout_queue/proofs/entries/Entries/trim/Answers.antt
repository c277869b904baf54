use Rattle.std.proofs.Common.{rules, ◌≡◌, false}
use Rattle.std.specs.Option.{is_none}
use Rattle.fanout_queue.specs.Entries.{first_readers}
use Rattle.fanout_queue.proofs.StepLemmas.{cut_some, drops_more, unneeded_more}
use Rattle.fanout_queue.proofs.entries.Entries.trim.Goals as goal

pub first-preserved : goal.first-preserved
first-preserved g c =
    let there : is_none c.cut_first.result ≡ false = search rules in
    let none : first_readers c.first.self ≡ 0 = search rules in
    let cut = cut_some c.first.self c.cut_first.new.self c.cut_first.result there c.cut_first.ensures.some in
    record {
      drops = drops_more c.args.self.now c.first.self c.cut_first.new.self cut.0 c.first.invariant.drops cut.1;
      unneeded = unneeded_more c.args.self.now c.first.self c.cut_first.new.self cut.0 c.first.invariant.drops cut.1 none c.first.invariant.unneeded;
    }
