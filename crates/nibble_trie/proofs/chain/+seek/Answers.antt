use Rattle.std.proofs.Common.{◌≡◌, ◌<◌, ◌+◌, Some, sym, ap, subst, ◌∙◌, arith}
use Rattle.nibble_trie.specs.Keys.{prefix_in, longer_in, IsNextOf, rest_behind}
use Rattle.nibble_trie.proofs.Chains.{one_found}
use Rattle.nibble_trie.proofs.Rows.{prefix_found}
use Rattle.nibble_trie.proofs.Wholes.{longer_found}
use Rattle.nibble_trie.proofs.Searches.{behind_next, rest_falls, link_rest}
use Rattle.nibble_trie.proofs.chain.+seek.Goals as goal

pub seek-requires : goal.seek-requires
seek-requires g t c κs within =
    let leaves = c.args.leaves.now in
    let n = c.index-node.result.now in
    let key = c.in-Some.key in
    let found = prefix_found leaves key n c.index-node.ensures in
    let link : longer_in leaves key ≡ c.key.result = longer_found leaves key n c.index-node.ensures ∙ sym c.key.ensures.value in
    let falls = rest_falls (prefix_in leaves) (longer_in leaves) key n.prefix c.key.result c.requires.chained found (omega (arith, c.length.ensures.valid.0)) link in (
      subst (λ m. rest_behind (prefix_in leaves) c.key.result < m) c.decreases (link_rest (prefix_in leaves) c.args.link key n.prefix (rest_behind (prefix_in leaves) c.key.result) c.in-Some.is found falls),
      (within.0, (within.1, (c.requires.chained, behind_next (prefix_in leaves) (longer_in leaves) key c.args.length n.prefix c.key.result c.requires.chained found link (omega (arith, c.length.ensures.value, c.if-length.false))))),
    )

pub returns : goal.returns
returns g t c = λ a from le next.
    let leaves = c.args.leaves.now in
    let n = c.index-node.result.now in
    let key = c.in-Some.key in
    let found = prefix_found leaves key n c.index-node.ensures in
    let link : longer_in leaves key ≡ c.key.result = longer_found leaves key n c.index-node.ensures ∙ sym c.key.ensures.value in
    let at : IsNextOf (prefix_in leaves) a from (Some key) = subst (λ l. IsNextOf (prefix_in leaves) a from l) c.in-Some.is next in
    let same : n.prefix.address ≡ a = ap (λ p. p.address) (one_found (prefix_in leaves) key n.prefix at.0 found at.1) ∙ at.2 in
    c.seek.ensures a (n.prefix.length + 1) (omega (arith, c.length.ensures.value, c.if-length.false))
    (subst (λ b. IsNextOf (prefix_in leaves) b (n.prefix.length + 1) c.key.result) same (subst (λ l. IsNextOf (prefix_in leaves) n.prefix.address (n.prefix.length + 1) l) link (c.requires.chained.linked key n.prefix found)))
