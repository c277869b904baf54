use Rattle.std.proofs.Common.{◌≢◌, ◌∙◌, Some, refl, sym, ap, arith}
use Rattle.nibble_trie.specs.Keys.{prefix_in}
use Rattle.nibble_trie.proofs.Digits.{some_same}
use Rattle.nibble_trie.proofs.Rows.{node_at, row_of}
use Rattle.nibble_trie.proofs.Wholes.{joins_removed, leaf_node}
use Rattle.nibble_trie.proofs.removing.unlink.Goals as goal

pub returns-clause-joins : goal.returns-clause-joins
returns-clause-joins g c =
    let leaves = c.args.leaves.now in
    let n = c.index-node.result.now in
    let last = c.requires.last in
    let b = node_at leaves c.args.before last.prefix last.found in
    joins_removed leaves c.set_longer.new.leaves c.take.new.leaves c.args.before c.args.key b.0 n c.args.prefix n.longer c.requires.chained last c.requires.behind b.1 c.index-node.ensures (leaf_node leaves c.args.key n c.args.prefix c.requires.found c.index-node.ensures) (c.set_longer.ensures b.0 b.1) refl c.take.ensures.updates

pub returns-clause-before : goal.returns-clause-before
returns-clause-before g c =
    let leaves = c.args.leaves.now in
    let n = c.index-node.result.now in
    let last = c.requires.last in
    let b = node_at leaves c.args.before last.prefix last.found in
    let apart : c.args.key ≢ c.args.before = λ e. absurd (omega (arith, last.shorter, ap (λ q. q.length) (some_same last.prefix c.args.prefix (sym last.found ∙ ap (prefix_in leaves) (sym e) ∙ c.requires.found)))) in
    let there = (c.set_longer.ensures b.0 b.1).others c.args.key apart ∙ c.index-node.ensures in
    ap Some (c.take.ensures.before n there) ∙ sym (row_of leaves c.args.key n c.args.prefix c.requires.chained.single c.index-node.ensures (leaf_node leaves c.args.key n c.args.prefix c.requires.found c.index-node.ensures))
