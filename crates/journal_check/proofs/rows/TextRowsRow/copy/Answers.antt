use Rattle.std.proofs.Common.{◌≡◌, map, rules, ap, ◌∙◌}
use Rattle.std.specs.FinMap.{empty}
use Rattle.std.specs.Map.Iter.{deref_pair}
use Rattle.std.proofs.lemmas.Map.Iter.{iter_end}
use Rattle.std.proofs.lemmas.List.{map-append}
use Rattle.addr4.specs.Prefixes.{prefix_cmp}
use Rattle.addr4.proofs.PrefixOrder.{prefixes_total, exact_prefixes}
use Rattle.journal_check.proofs.EntryLemmas.{inserted, inserted_more, inserted_all}
use Rattle.journal_check.proofs.rows.TextRowsRow.copy.Goals as goal

pub loop-p-preserved : goal.loop-p-preserved
loop-p-preserved c =
    let one = inserted_more {R = prefix_cmp} empty (map deref_pair c.loop-p.yielded) (c.in-Some.p.now, c.in-Some.text.now) in
    let put = c.in_ok-put.ensures in
    let same = c.in_ok-copy.ensures in
    let before = c.loop-p.invariant in
    rw map-append (cc (put, same, before, one))

pub returns : goal.returns
returns c =
    let all : map deref_pair c.loop-p.yielded ≡ c.self.inside.texts.entries = search (rules, iter_end) in
    let given = c.into_iter-p-iterator.ensures.into_iter_gives in
    c.loop-p.invariant ∙ (ap (inserted {R = prefix_cmp} empty) all ∙ (inserted_all prefixes_total exact_prefixes c.self.inside.texts.entries given.5 ∙ c.self.view_is))
