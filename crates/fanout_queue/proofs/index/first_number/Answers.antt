use Rattle.std.proofs.Common.{rules, ◌≡◌, false, Some, subst}
use Rattle.std.specs.Ordering.{eq_by_cmp}
use Rattle.addr4.specs.Prefixes.{AddressPrefix, prefix_cmp}
use Rattle.addr4.proofs.PrefixOrder.{one_prefix}
use Rattle.fanout_queue.specs.Index.{IsFirstKey}
use Rattle.fanout_queue.proofs.IndexLemmas.{no_number, other_number, this_number}
use Rattle.fanout_queue.proofs.index.first_number.Goals as goal

pub returns-in-None : goal.returns-in-None
returns-in-None g c = no_number c.args.index.now c.args.prefix c.args.from c.in-None.ensures

pub returns-then-eq : goal.returns-then-eq
returns-then-eq g c =
    let same = one_prefix c.in-Some.key.0 c.args.prefix (search rules) in
    this_number c.args.index.now c.args.prefix c.args.from c.in-Some.key.1
    (subst (λ (q : AddressPrefix). IsFirstKey c.args.index.now (c.args.prefix, c.args.from) (Some (q, c.in-Some.key.1))) same c.in-Some.ensures)

pub returns-else-eq : goal.returns-else-eq
returns-else-eq g c =
    let apart : eq_by_cmp prefix_cmp c.args.prefix c.in-Some.key.0 ≡ false = search rules in
    other_number c.args.index.now c.args.prefix c.args.from c.in-Some.key.0 c.in-Some.key.1 c.in-Some.ensures apart
