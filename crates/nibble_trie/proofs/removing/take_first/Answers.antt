use Rattle.std.proofs.Common.{◌∙◌, Some, sym, ap, subst}
use Rattle.nibble_trie.specs.declared.index.Spot.{Spot}
use Rattle.nibble_trie.specs.Links.{IsCell}
use Rattle.nibble_trie.specs.Keys.{prefix_in, longer_in}
use Rattle.nibble_trie.specs.Index.{Indexes, with_head}
use Rattle.nibble_trie.proofs.Chains.{one_next}
use Rattle.nibble_trie.proofs.Rows.{node_at, row_of}
use Rattle.nibble_trie.proofs.Ways.{spot_way, alone_head}
use Rattle.nibble_trie.proofs.Wholes.{first_taken, first_removed_rows}
use Rattle.nibble_trie.proofs.removing.take_first.Goals as goal

pub drop_head-requires-clause-way : goal.drop_head-requires-clause-way
drop_head-requires-clause-way g c =
    let leaves = c.args.leaves.now in
    let index = c.args.index.now in
    let w = c.requires.whole in
    let layout = w.indexes.layout in
    let p = c.args.prefix in
    let is = c.address-address.ensures in
    let way = spot_way index layout c.args.end p.address c.address-address.result c.spot.result is c.spot.ensures (c.requires.way w.heads layout w.indexes.holds) in
    let has = one_next (prefix_in leaves) (longer_in leaves) p.address 0 (w.heads p.address) (Some c.args.first) w.chained (w.shortest p.address) c.requires.head in
    let cell = subst (λ (s : Spot). IsCell s.target) (sym c.spot.ensures) c.requires.cell in
    let alone = alone_head index w.heads layout c.address-address.result c.spot.result c.args.first w.indexes.holds way cell (ap w.heads is ∙ has) in
    record { heads = w.heads; layout = layout; holds = w.indexes.holds; way = way; alone = alone }

pub returns-clause-whole : goal.returns-clause-whole
returns-clause-whole g c =
    let leaves = c.args.leaves.now in
    let index = c.args.index.now in
    let w = c.requires.whole in
    let layout = w.indexes.layout in
    let p = c.args.prefix in
    let is = c.address-address.ensures in
    let way = spot_way index layout c.args.end p.address c.address-address.result c.spot.result is c.spot.ensures (c.requires.way w.heads layout w.indexes.holds) in
    let has = one_next (prefix_in leaves) (longer_in leaves) p.address 0 (w.heads p.address) (Some c.args.first) w.chained (w.shortest p.address) c.requires.head in
    let cell = subst (λ (s : Spot). IsCell s.target) (sym c.spot.ensures) c.requires.cell in
    let alone = alone_head index w.heads layout c.address-address.result c.spot.result c.args.first w.indexes.holds way cell (ap w.heads is ∙ has) in
    let indexes = c.drop_head.ensures w.heads layout w.indexes.holds way alone in
    first_taken leaves c.take.new.leaves index c.drop_head.new.index c.args.first p w c.requires.found has c.take.ensures.updates (subst (λ a. Indexes c.drop_head.new.index (with_head w.heads a (longer_in leaves c.args.first))) is indexes)

pub returns-clause-before : goal.returns-clause-before
returns-clause-before g c =
    let leaves = c.args.leaves.now in
    let n = node_at leaves c.args.first c.args.prefix c.requires.found in
    ap Some (c.take.ensures.before n.0 n.1) ∙ sym (row_of leaves c.args.first n.0 c.args.prefix c.requires.whole.chained.single n.1 n.2)

pub returns-clause-rows : goal.returns-clause-rows
returns-clause-rows g c = first_removed_rows c.args.leaves.now c.take.new.leaves c.args.index.now c.drop_head.new.index c.args.first c.args.prefix c.requires.whole (returns-clause-whole g c) c.requires.found c.take.ensures.updates
