use Rattle.std.proofs.Common.{refl, ap}
use Rattle.nibble_trie.specs.Links.{leaf_of}
use Rattle.nibble_trie.proofs.Wholes.{joins_added, still_there}
use Rattle.nibble_trie.proofs.writing.add_behind.Goals as goal

pub returns : goal.returns
returns g c =
    let leaves = c.args.leaves.now in
    let e = c.insert_reserved-key.ensures in
    let b = c.index-node.result.now in
    let mid = c.insert_reserved-key.new.self in
    let there = still_there leaves mid c.insert_reserved-key.result c.args.before b _ e.was_vacant e.updates c.index-node.ensures in
    joins_added leaves mid c.set_longer.new.leaves c.args.before c.insert_reserved-key.result b c.args.prefix c.leaf.result b.longer c.args.value c.requires.chained c.requires.last c.index-node.ensures e.was_vacant c.requires.absent e.updates refl (c.set_longer.ensures b there) (ap leaf_of c.leaf.ensures)
