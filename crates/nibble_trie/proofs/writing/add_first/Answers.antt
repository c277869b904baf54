use Rattle.std.proofs.Common.{◌≡◌, Some, subst, ◌∙◌}
use Rattle.nibble_trie.specs.Leaves.{Node}
use Rattle.nibble_trie.specs.Keys.{prefix_in, longer_in, IsHeadOf}
use Rattle.nibble_trie.specs.Index.{Indexes, with_head}
use Rattle.nibble_trie.proofs.Chains.{one_next}
use Rattle.nibble_trie.proofs.Ways.{spot_way}
use Rattle.nibble_trie.proofs.Wholes.{adds_of, names_of, names_added, first_added, first_rows}
use Rattle.nibble_trie.proofs.writing.add_first.Goals as goal

pub put-requires-clause-way : goal.put-requires-clause-way
put-requires-clause-way g c =
    let leaves = c.args.leaves.now in
    let index = c.args.index.now in
    let w = c.requires.whole in
    let e = c.insert_reserved-key.ensures in
    let adds = adds_of leaves c.insert_reserved-key.new.self c.insert_reserved-key.result (record { prefix = c.args.prefix; longer = c.to.result; value = c.args.value }) e.was_vacant e.updates c.requires.absent in
    record {
      heads = w.heads;
      layout = w.indexes.layout;
      holds = w.indexes.holds;
      names = names_added leaves c.insert_reserved-key.new.self w.heads c.insert_reserved-key.result c.args.prefix adds (names_of leaves index w);
      way = spot_way index w.indexes.layout c.args.end c.args.prefix.address c.address-address.result c.spot.result (c.address-address.ensures) c.spot.ensures (c.requires.way w.heads w.indexes.layout w.indexes.holds);
    }

pub returns-clause-whole : goal.returns-clause-whole
returns-clause-whole g c =
    let leaves = c.args.leaves.now in
    let index = c.args.index.now in
    let p = c.args.prefix in
    let w = c.requires.whole in
    let e = c.insert_reserved-key.ensures in
    let key = c.insert_reserved-key.result in
    let mid = c.insert_reserved-key.new.self in
    let n : Node _ = record { prefix = p; longer = c.to.result; value = c.args.value } in
    let adds = adds_of leaves mid key n e.was_vacant e.updates c.requires.absent in
    let same = one_next (prefix_in leaves) (longer_in leaves) p.address 0 c.args.head (w.heads p.address) w.chained c.requires.head.0 (w.shortest p.address) in
    let is : c.address-address.result ≡ p.address = c.address-address.ensures in
    let way = spot_way index w.indexes.layout c.args.end p.address c.address-address.result c.spot.result is c.spot.ensures (c.requires.way w.heads w.indexes.layout w.indexes.holds) in
    let indexes = subst (λ a. Indexes c.put.new.self (with_head w.heads a (Some key))) is (c.put.ensures w.heads w.indexes.layout w.indexes.holds (names_added leaves mid w.heads key p adds (names_of leaves index w)) way) in
    first_added leaves mid index c.put.new.self key n w (subst (IsHeadOf (prefix_in leaves) p) same c.requires.head) e.was_vacant c.requires.absent e.updates (c.to.ensures ∙ same) indexes (c.known.ensures.fits, c.known.ensures.masked.0)

pub returns-clause-rows : goal.returns-clause-rows
returns-clause-rows g c =
    let e = c.insert_reserved-key.ensures in
    first_rows c.args.leaves.now c.insert_reserved-key.new.self c.args.index.now c.put.new.self c.insert_reserved-key.result (record { prefix = c.args.prefix; longer = c.to.result; value = c.args.value }) c.requires.whole (returns-clause-whole g c) e.was_vacant e.updates
