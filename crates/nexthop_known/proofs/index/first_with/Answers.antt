use Rattle.std.proofs.Common.{sym, ◌∙◌, rules}
use Rattle.addr4.specs.Prefixes.{same_prefix}
use Rattle.nexthop_known.proofs.TieLemmas.{none_from, other_first, not_same}
use Rattle.nexthop_known.proofs.index.first_with.Goals as goal

pub returns-then-ne : goal.returns-then-ne
returns-then-ne g c =
    other_first c.args.held.now c.args.subnet c.unspecified.result c.range-range.result c.next.new.self c.in-Some.found.now c.unspecified.ensures (c.range-range.ensures.in_range (search rules)) c.in-Some.ensures.steps
    (not_same (same_prefix c.in-Some.found.now.subnet c.args.subnet) (sym c.ne.ensures ∙ c.if-ne.true))

pub returns-in-None : goal.returns-in-None
returns-in-None g c = none_from c.args.held.now c.args.subnet c.unspecified.result c.range-range.result c.unspecified.ensures (c.range-range.ensures.in_range (search rules)) c.in-None.ensures.steps.0
