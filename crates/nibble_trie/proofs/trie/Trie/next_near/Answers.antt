use Rattle.std.proofs.Common.{◌≡◌, Some, None, subst}
use Rattle.std.specs.FinMap as map
use Rattle.addr4.specs.Places.{key_of, IsNextRow}
use Rattle.nibble_trie.specs.Contents.{LiesAt}
use Rattle.nibble_trie.proofs.Rows.{row_at, prefix_found}
use Rattle.nibble_trie.proofs.Wholes.{next_row_is, lies_at}
use Rattle.nibble_trie.proofs.trie.Trie.next_near.Goals as goal

pub returns-in-None-clause-prefix : goal.returns-in-None-clause-prefix
returns-in-None-clause-prefix g c = subst (λ v. IsNextRow (map.get v.rows) (key_of c.args.after) None) c.self.view_is (next_row_is c.self.inside.leaves (key_of c.args.after) None None c.self.invariant.chained c.in-None.ensures tt)

pub returns-in-Some-clause-prefix : goal.returns-in-Some-clause-prefix
returns-in-Some-clause-prefix g c =
    let n = c.index-node.result.now in
    subst (λ v. IsNextRow (map.get v.rows) (key_of c.args.after) (Some n.prefix)) c.self.view_is (next_row_is c.self.inside.leaves (key_of c.args.after) (Some n.prefix) (Some c.in-Some.key) c.self.invariant.chained c.in-Some.ensures (prefix_found c.self.inside.leaves c.in-Some.key n c.index-node.ensures))

pub returns-in-Some-clause-value : goal.returns-in-Some-clause-value
returns-in-Some-clause-value g c =
    let n = c.index-node.result.now in
    subst (λ v. map.get v.rows n.prefix ≡ Some n.value) c.self.view_is (row_at c.self.inside.leaves c.in-Some.key n c.self.invariant.chained.single c.index-node.ensures)

pub returns-in-Some-clause-key : goal.returns-in-Some-clause-key
returns-in-Some-clause-key g c =
    let n = c.index-node.result.now in
    subst (λ v. LiesAt v.leaves c.in-Some.key n.prefix) c.self.view_is (lies_at c.self.inside.leaves c.in-Some.key n.prefix (prefix_found c.self.inside.leaves c.in-Some.key n c.index-node.ensures))
