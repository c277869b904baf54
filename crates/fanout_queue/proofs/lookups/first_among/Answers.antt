use Rattle.std.proofs.Common.{rules, ◌≡◌, ◌<◌, true, false, length, sym, ◌∙◌}
use Rattle.std.specs.Ordering.{eq_by_cmp}
use Rattle.addr4.specs.Prefixes.{prefix_cmp}
use Rattle.fanout_queue.proofs.EntryLemmas.{entry_passed, entry_found}
use Rattle.fanout_queue.proofs.lookups.first_among.Goals as goal

pub returns-then-eq : goal.returns-then-eq
returns-then-eq g c =
    let within : c.entries.at < length c.args.kept.now.items = search rules in
    let same : eq_by_cmp prefix_cmp c.index-entry.result.now.change.prefix c.args.prefix ≡ true = search rules in
    entry_found c.args.kept.now.items c.entries.at c.index-entry.result.now within c.index-entry.ensures c.args.prefix same ∙ c.entries.invariant

pub entries-preserved : goal.entries-preserved
entries-preserved g c =
    let within : c.entries.at < length c.args.kept.now.items = search rules in
    let apart : eq_by_cmp prefix_cmp c.index-entry.result.now.change.prefix c.args.prefix ≡ false = search rules in
    sym (entry_passed c.args.kept.now.items c.entries.at c.index-entry.result.now within c.index-entry.ensures c.args.prefix apart) ∙ c.entries.invariant
