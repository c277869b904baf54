use Rattle.std.proofs.Common.{◌∙◌, refl, sym, ap, subst}
use Rattle.std.specs.FinMap as map
use Rattle.nibble_trie.specs.Keys.{prefix_in, IsLeafOf}
use Rattle.nibble_trie.specs.Contents.{Contents, HasKey}
use Rattle.nibble_trie.proofs.Rows.{row_of}
use Rattle.nibble_trie.proofs.Wholes.{leaf_node, must_find, touched_whole, touched_contents}
use Rattle.nibble_trie.proofs.trie.Trie.value_mut.Goals as goal

pub unwrap-key-requires : goal.unwrap-key-requires
unwrap-key-requires g c = must_find c.self.inside.leaves c.args.prefix c.find_last.result (subst (λ v. HasKey v.rows c.args.prefix) (sym c.self.view_is) c.requires) c.find_last.ensures

pub invariant_of-self-lent : goal.invariant_of-self-lent
invariant_of-self-lent g c w =
    let leaves = c.self.inside.leaves in
    let n = c.index_mut.result.now in
    let leaf = subst (IsLeafOf (prefix_in leaves) c.args.prefix) c.unwrap-key.ensures c.find_last.ensures in
    touched_whole leaves c.self.inside.index c.unwrap-key.result n c.args.prefix w c.self.invariant c.index_mut.ensures.value (leaf_node leaves c.unwrap-key.result n c.args.prefix leaf c.index_mut.ensures.value)

pub returns : goal.returns
returns g c =
    let leaves = c.self.inside.leaves in
    let n = c.index_mut.result.now in
    let leaf = subst (IsLeafOf (prefix_in leaves) c.args.prefix) c.unwrap-key.ensures c.find_last.ensures in
    let is = leaf_node leaves c.unwrap-key.result n c.args.prefix leaf c.index_mut.ensures.value in (
      (refl, λ w. touched_contents leaves c.self.inside.index c.unwrap-key.result n c.args.prefix w c.self.invariant c.index_mut.ensures.value is ∙ ap (λ (v : Contents _). record v { rows = map.insert v.rows c.args.prefix w }) c.self.view_is),
      record { writes_back = tt; value = ap (λ (v : Contents _). map.get v.rows c.args.prefix) (sym c.self.view_is) ∙ row_of leaves c.unwrap-key.result n c.args.prefix c.self.invariant.chained.single c.index_mut.ensures.value is },
    )
