use Rattle.std.proofs.Common.{◌≡◌, ◌<◌, Some, sym, subst, ◌∙◌, arith}
use Rattle.std.proofs.lemmas.Bool.{eqb-true}
use Rattle.nibble_trie.specs.Keys.{prefix_in}
use Rattle.nibble_trie.specs.Index.{Lies}
use Rattle.nibble_trie.proofs.Ways.{alone_nothing, alone_head, head_leaf, leaf_fits, named}
use Rattle.nibble_trie.proofs.Rows.{prefix_found}
use Rattle.nibble_trie.proofs.index.Index.+put.Goals as goal

pub point-requires-then-eq-clause-way : goal.point-requires-then-eq-clause-way
point-requires-then-eq-clause-way g t c =
    let old = c.args.self.now in
    let leaves = c.args.leaves.now in
    let r = c.requires.way in
    let n = c.index-node.result.now in
    let same : n.prefix.address ≡ c.args.address = sym (c.address-standing.ensures) ∙ eqb-true _ _ (sym c.eq.ensures ∙ c.if-eq.true) in
    let has = head_leaf (prefix_in leaves) old r.heads r.layout c.args.address c.args.spot c.in-Leaf.other n.prefix r.holds r.names r.way c.in-Leaf.is (prefix_found leaves c.in-Leaf.other n c.index-node.ensures) same in
    record { heads = r.heads; layout = r.layout; holds = r.holds; way = r.way; alone = alone_head old r.heads r.layout c.args.address c.args.spot c.in-Leaf.other r.holds r.way c.requires.cell has }

pub returns-then-eq : goal.returns-then-eq
returns-then-eq g t c = λ heads layout h names way.
    let old = c.args.self.now in
    let leaves = c.args.leaves.now in
    let n = c.index-node.result.now in
    let same : n.prefix.address ≡ c.args.address = sym (c.address-standing.ensures) ∙ eqb-true _ _ (sym c.eq.ensures ∙ c.if-eq.true) in
    let has = head_leaf (prefix_in leaves) old heads layout c.args.address c.args.spot c.in-Leaf.other n.prefix h names way c.in-Leaf.is (prefix_found leaves c.in-Leaf.other n c.index-node.ensures) same in
    c.point-then-eq.ensures heads layout h way (alone_head old heads layout c.args.address c.args.spot c.in-Leaf.other h way c.requires.cell has)

pub returns-in-Nothing : goal.returns-in-Nothing
returns-in-Nothing g t c = λ heads layout h names way. c.point.ensures heads layout h way (alone_nothing c.args.self.now heads layout c.args.address c.args.spot h way.stands c.in-Nothing.is)

pub put-requires : goal.put-requires
put-requires g t c κs within =
    let old = c.args.self.now in
    let leaves = c.args.leaves.now in
    let r = c.requires.way in
    let n = c.index-node.result.now in
    let e = c.split-below.ensures in
    let f = leaf_fits old r.heads r.layout c.args.spot c.in-Leaf.other r.holds r.way.stands c.in-Leaf.is in
    let same : f.0 ≡ c.address-standing.result = sym (c.address-standing.ensures ∙ named (prefix_in leaves) r.heads f.0 c.in-Leaf.other n.prefix r.names f.2 (prefix_found leaves c.in-Leaf.other n c.index-node.ensures)) in
    let p = e.placed r.heads r.layout c.in-Leaf.other r.holds r.way c.in-Leaf.is (subst (λ a. r.heads a ≡ Some c.in-Leaf.other) same f.2) (subst (Lies r.layout c.args.spot.at) same f.1) in (
      subst (λ m. c.split-below.result.level < m) c.decreases (omega (arith, e.level)),
      (within.0, (within.1, (record { heads = r.heads; layout = p.layout; holds = p.holds; names = r.names; way = p.way }, (e.cell c.in-Leaf.other c.in-Leaf.is, (c.requires.small, (e.room, omega (arith, e.capacity, c.requires.capacity))))))),
    )

pub returns-else-eq : goal.returns-else-eq
returns-else-eq g t c = λ heads layout h names way.
    let old = c.args.self.now in
    let leaves = c.args.leaves.now in
    let n = c.index-node.result.now in
    let e = c.split-below.ensures in
    let f = leaf_fits old heads layout c.args.spot c.in-Leaf.other h way.stands c.in-Leaf.is in
    let same : f.0 ≡ c.address-standing.result = sym (c.address-standing.ensures ∙ named (prefix_in leaves) heads f.0 c.in-Leaf.other n.prefix names f.2 (prefix_found leaves c.in-Leaf.other n c.index-node.ensures)) in
    let p = e.placed heads layout c.in-Leaf.other h way c.in-Leaf.is (subst (λ a. heads a ≡ Some c.in-Leaf.other) same f.2) (subst (Lies layout c.args.spot.at) same f.1) in
    c.put.ensures heads p.layout p.holds names p.way
