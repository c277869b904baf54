use Rattle.std.proofs.Common.{rules, ◌≡◌, ◌-◌, arith, drop, subst}
use Rattle.addr4.specs.Places.{key_of}
use Rattle.fanout_queue.specs.Entries.{changes_of, IsNextBeside}
use Rattle.fanout_queue.proofs.EntryLemmas.{entry_beside, none_gone}
use Rattle.fanout_queue.proofs.lookups.least_among.Goals as goal

pub entries-init : goal.entries-init
entries-init g c =
    let end = c.len-at.ensures in
    record {
      beside = none_gone c.args.kept.now.items c.len-at.result (key_of c.args.after.now) c.args.other (search rules);
      from = search rules;
      within = search rules;
    }

pub entries-preserved : goal.entries-preserved
entries-preserved g c =
    let more = c.entries-test.true in
    let within = c.entries.invariant.within in
    record {
      beside = entry_beside c.args.kept.now.items (c.entries.at - 1) c.index.result.now (omega arith) c.index.ensures c.entries.at (key_of c.args.after.now) c.args.other c.entries.least c.lesser-least.result (omega arith) c.entries.invariant.beside c.lesser-least.ensures;
      from = omega arith;
      within = omega arith;
    }

pub returns : goal.returns
returns g c =
    let done = c.entries-test.false in
    let from = c.entries.invariant.from in
    let same : c.entries.at ≡ c.args.from = omega arith in
    subst (λ k. IsNextBeside (drop k (changes_of c.args.kept.now.items)) (key_of c.args.after.now) c.args.other c.entries.least) same c.entries.invariant.beside
