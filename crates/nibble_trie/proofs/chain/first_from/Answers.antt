use Rattle.std.proofs.Common.{◌≡◌, sym, ◌∙◌, arith}
use Rattle.std.proofs.lemmas.Bool.{eqb-true}
use Rattle.nibble_trie.specs.Keys.{prefix_in}
use Rattle.nibble_trie.proofs.Rows.{prefix_found}
use Rattle.nibble_trie.proofs.Firsts.{next_first}
use Rattle.nibble_trie.proofs.Searches.{head_address}
use Rattle.nibble_trie.proofs.chain.first_from.Goals as goal

pub returns-then-eq : goal.returns-then-eq
returns-then-eq g c = λ a next.
    let leaves = c.args.leaves.now in
    let n = c.index-node.result.now in
    let same = head_address (prefix_in leaves) a c.args.key n.prefix next (prefix_found leaves c.args.key n c.index-node.ensures) in
    let e : c.args.from ≡ a = sym (eqb-true _ _ (sym c.eq.ensures ∙ c.if-eq.true)) ∙ c.address-address.ensures ∙ same in
    next_first (prefix_in leaves) a c.args.least c.args.from c.args.least c.seek.result (λ p is x. x.1 (is ∙ sym e)) (λ p is le. (omega (arith, is, e), λ _. le)) (c.seek.ensures a 0 (omega arith) next)
