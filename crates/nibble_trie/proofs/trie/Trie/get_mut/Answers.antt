use Rattle.std.proofs.Common.{◌∙◌, Some, sym, ap, inl, inr}
use Rattle.std.specs.FinMap as map
use Rattle.nibble_trie.specs.Contents.{Contents}
use Rattle.nibble_trie.proofs.Rows.{row_of, row_none}
use Rattle.nibble_trie.proofs.Wholes.{leaf_node, touched_whole, touched_contents}
use Rattle.nibble_trie.proofs.trie.Trie.get_mut.Goals as goal

pub invariant_of-self-lent : goal.invariant_of-self-lent
invariant_of-self-lent g c = λ w.
    let leaves = c.self.inside.leaves in
    let n = c.index_mut.result.now in
    touched_whole leaves c.self.inside.index c.in-Some.key n c.args.prefix w c.self.invariant c.index_mut.ensures.value (leaf_node leaves c.in-Some.key n c.args.prefix c.in-Some.ensures c.index_mut.ensures.value)

pub returns-in-None : goal.returns-in-None
returns-in-None g c = (
  λ i. inr (c.self.view_is i),
  record { writes_back = tt; value = sym (ap (λ (v : Contents _). map.get v.rows c.args.prefix) (sym c.self.view_is) ∙ row_none c.self.inside.leaves c.args.prefix c.in-None.ensures) },
)

pub returns-in-Some : goal.returns-in-Some
returns-in-Some g c =
    let leaves = c.self.inside.leaves in
    let n = c.index_mut.result.now in
    let is = leaf_node leaves c.in-Some.key n c.args.prefix c.in-Some.ensures c.index_mut.ensures.value in (
      λ i. inl (c.value_mut.result.ghost_name, λ w. (touched_contents leaves c.self.inside.index c.in-Some.key n c.args.prefix w c.self.invariant c.index_mut.ensures.value is ∙ ap (λ (v : Contents _). record v { rows = map.insert v.rows c.args.prefix w }) c.self.view_is) i),
      record { writes_back = tt; value = ap Some (sym c.value_mut.ensures.value) ∙ sym (row_of leaves c.in-Some.key n c.args.prefix c.self.invariant.chained.single c.index_mut.ensures.value is) ∙ ap (λ (v : Contents _). map.get v.rows c.args.prefix) c.self.view_is },
    )
