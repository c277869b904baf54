use Rattle.std.proofs.Common.{◌∙◌, sym, ap, subst}
use Rattle.std.specs.FinMap as map
use Rattle.nibble_trie.specs.Contents.{Contents, LiesAt}
use Rattle.nibble_trie.proofs.Rows.{row_of, row_none}
use Rattle.nibble_trie.proofs.Wholes.{leaf_node, lies_at}
use Rattle.nibble_trie.proofs.trie.Trie.find.Goals as goal

pub returns-in-None-clause-value : goal.returns-in-None-clause-value
returns-in-None-clause-value g c = sym (ap (λ (v : Contents _). map.get v.rows c.args.prefix) (sym c.self.view_is) ∙ row_none c.self.inside.leaves c.args.prefix c.in-None.ensures)

pub returns-in-Some-clause-value : goal.returns-in-Some-clause-value
returns-in-Some-clause-value g c =
    let leaves = c.self.inside.leaves in
    let n = c.index-node.result.now in
    sym (row_of leaves c.in-Some.key n c.args.prefix c.self.invariant.chained.single c.index-node.ensures (leaf_node leaves c.in-Some.key n c.args.prefix c.in-Some.ensures c.index-node.ensures)) ∙ ap (λ (v : Contents _). map.get v.rows c.args.prefix) c.self.view_is

pub returns-in-Some-clause-key : goal.returns-in-Some-clause-key
returns-in-Some-clause-key g c = subst (λ v. LiesAt v.leaves c.in-Some.key c.args.prefix) c.self.view_is (lies_at c.self.inside.leaves c.in-Some.key c.args.prefix c.in-Some.ensures)
