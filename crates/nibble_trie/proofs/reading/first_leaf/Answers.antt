use Rattle.std.proofs.Common.{sym, subst}
use Rattle.nibble_trie.specs.Keys.{prefix_in, IsNextOf}
use Rattle.nibble_trie.specs.Index.{OnWay, spot_at}
use Rattle.nibble_trie.proofs.Wholes.{names_of}
use Rattle.nibble_trie.proofs.reading.first_leaf.Goals as goal

pub head-head-requires-clause-way : goal.head-head-requires-clause-way
head-head-requires-clause-way g c =
    let w = c.requires in
    record { heads = w.heads; layout = w.indexes.layout; holds = w.indexes.holds; names = names_of c.args.leaves.now c.args.index.now w; way = c.end_of-end.ensures.way w.heads w.indexes.layout w.indexes.holds }

pub returns-clause-way : goal.returns-clause-way
returns-clause-way g c = λ heads layout h. subst (λ a. OnWay c.args.index.now layout a (spot_at c.end_of-end.result a)) (c.address-address.ensures) (c.end_of-end.ensures.way heads layout h)

pub returns-clause-head : goal.returns-clause-head
returns-clause-head g c =
    let w = c.requires in
    let keys = prefix_in c.args.leaves.now in
    let is = c.head-head.ensures w.heads w.indexes.layout w.indexes.holds (names_of c.args.leaves.now c.args.index.now w) (c.end_of-end.ensures.way w.heads w.indexes.layout w.indexes.holds) in
    subst (λ a. IsNextOf keys a 0 c.head-head.result) (c.address-address.ensures) (subst (λ l. IsNextOf keys c.address-address.result 0 l) (sym is) (w.shortest c.address-address.result))
