use Rattle.nibble_trie.proofs.Wholes.{whole_sized}
use Rattle.nibble_trie.proofs.trie.Trie.insert.Goals as goal

pub invariant_of-self : goal.invariant_of-self
invariant_of-self g c =
    let i = c.self.inside in
    whole_sized i.leaves c.make_room.new.leaves i.index.branches c.make_room.new.branches i.index.root c.make_room.ensures.leaves c.make_room.ensures.branches c.self.invariant

pub put-before-requires-clause-whole : goal.put-before-requires-clause-whole
put-before-requires-clause-whole g c =
    let i = c.self.inside in
    whole_sized i.leaves c.make_room.new.leaves i.index.branches c.make_room.new.branches i.index.root c.make_room.ensures.leaves c.make_room.ensures.branches c.self.invariant
