use Rattle.std.proofs.Common.{◌≡◌, refl, sym, subst, ◌∙◌}
use Rattle.nibble_trie.specs.Keys.{prefix_in, longer_in, IsNextOf, HasNext}
use Rattle.nibble_trie.proofs.Wholes.{last_at, longer_found}
use Rattle.nibble_trie.proofs.Searches.{has_found, leaf_at, sought}
use Rattle.nibble_trie.proofs.chain.place_behind.Goals as goal

pub index-node-requires : goal.index-node-requires
index-node-requires g c =
    let leaves = c.args.leaves.now in
    let last = last_at leaves c.args.first c.last_below-before.result c.length.result c.args.prefix c.last_below-before.ensures c.requires.has c.requires.below c.length.ensures.value in
    has_found leaves c.last_below-before.result last.prefix last.found

pub exact-leaf-requires : goal.exact-leaf-requires
exact-leaf-requires g c =
    let leaves = c.args.leaves.now in
    let p = c.args.prefix in
    let last = last_at leaves c.args.first c.last_below-before.result c.length.result p c.last_below-before.ensures c.requires.has c.requires.below c.length.ensures.value in
    let link : longer_in leaves c.last_below-before.result ≡ c.key.result = longer_found leaves c.last_below-before.result c.index-node.result.now c.index-node.ensures ∙ sym c.key.ensures.value in
    subst (HasNext (prefix_in leaves) c.key.result) (sym c.length-2.ensures.value) (sought (prefix_in leaves) p.address p.length c.key.result (subst (λ l. IsNextOf (prefix_in leaves) p.address p.length l) link last.next))

pub returns-clause-last : goal.returns-clause-last
returns-clause-last g c = last_at c.args.leaves.now c.args.first c.last_below-before.result c.length.result c.args.prefix c.last_below-before.ensures c.requires.has c.requires.below c.length.ensures.value

pub returns-clause-leaf : goal.returns-clause-leaf
returns-clause-leaf g c =
    let leaves = c.args.leaves.now in
    let p = c.args.prefix in
    let last = last_at leaves c.args.first c.last_below-before.result c.length.result p c.last_below-before.ensures c.requires.has c.requires.below c.length.ensures.value in
    let link : longer_in leaves c.last_below-before.result ≡ c.key.result = longer_found leaves c.last_below-before.result c.index-node.result.now c.index-node.ensures ∙ sym c.key.ensures.value in
    let next = subst (λ l. IsNextOf (prefix_in leaves) p.address l c.key.result) (sym c.length-2.ensures.value) (subst (λ l. IsNextOf (prefix_in leaves) p.address p.length l) link last.next) in
    leaf_at (prefix_in leaves) p p.address c.length-2.result c.exact-leaf.result refl c.length-2.ensures.value (c.exact-leaf.ensures p.address next)
