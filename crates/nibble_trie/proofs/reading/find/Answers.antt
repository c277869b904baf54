use Rattle.std.proofs.Common.{refl, arith}
use Rattle.nibble_trie.specs.Keys.{prefix_in}
use Rattle.nibble_trie.proofs.Searches.{leaf_at}
use Rattle.nibble_trie.proofs.reading.find.Goals as goal

pub find-requires-clause-next : goal.find-requires-clause-next
find-requires-clause-next g c = record { address = c.args.prefix.address; from = 0; within = omega arith; next = c.first_leaf-entry.ensures.head }

pub returns : goal.returns
returns g c = leaf_at (prefix_in c.args.leaves.now) c.args.prefix c.args.prefix.address c.length.result c.find.result refl c.length.ensures.value (c.find.ensures c.args.prefix.address c.first_leaf-entry.ensures.head)
