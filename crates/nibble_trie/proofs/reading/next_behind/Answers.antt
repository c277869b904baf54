use Rattle.std.proofs.Common.{◌+◌, sym, ap, ◌∙◌}
use Rattle.nibble_trie.specs.Keys.{prefix_in}
use Rattle.nibble_trie.proofs.Searches.{longer_in_node, longer_beyond, from_beyond}
use Rattle.nibble_trie.proofs.reading.next_behind.Goals as goal

pub returns-then-is_some : goal.returns-then-is_some
returns-then-is_some g c =
    let leaves = c.args.leaves.now in
    let next = longer_in_node leaves c.args.near c.index-node.result.now c.args.prefix c.key-longer.result c.requires.chained c.index-node.ensures (c.is_at.ensures.0 c.if-is_at.true) c.key-longer.ensures.value in
    longer_beyond (prefix_in leaves) c.args.prefix c.key-longer.result (sym c.is_some.ensures ∙ c.if-is_some.true) next

pub returns : goal.returns
returns g c =
    let p = c.args.prefix in
    from_beyond (prefix_in c.args.leaves.now) p c.address.result (c.length.result + 1) c.first_from.result c.address.ensures (ap (λ n. n + 1) c.length.ensures.value) c.first_from.ensures
