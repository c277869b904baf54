use Rattle.std.proofs.Common.{ap, subst}
use Rattle.nibble_trie.specs.Contents.{Contents}
use Rattle.nibble_trie.specs.Nodes.{HasNodes}
use Rattle.nibble_trie.proofs.Wholes.{nodes_of}
use Rattle.nibble_trie.proofs.trie.Trie.nodes.Goals as goal

pub returns-clause-rows : goal.returns-clause-rows
returns-clause-rows g c = subst (λ v. HasNodes c.self.inside.leaves v.rows) c.self.view_is (nodes_of c.self.inside.leaves)

pub returns-clause-leaves : goal.returns-clause-leaves
returns-clause-leaves g c = ap (λ (v : Contents _). v.leaves) c.self.view_is
