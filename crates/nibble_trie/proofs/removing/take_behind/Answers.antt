use Rattle.std.proofs.Common.{sym, subst}
use Rattle.nibble_trie.specs.Keys.{prefix_in, longer_in, IsLeafOf}
use Rattle.nibble_trie.proofs.Rows.{row_none}
use Rattle.nibble_trie.proofs.Wholes.{joins_absent, leads_to_leaf}
use Rattle.nibble_trie.proofs.removing.take_behind.Goals as goal

pub unlink-requires-clause-found : goal.unlink-requires-clause-found
unlink-requires-clause-found g c = subst (IsLeafOf (prefix_in c.args.leaves.now) c.args.prefix) c.in-Some.is c.place_behind-place.ensures.leaf

pub unlink-requires-clause-behind : goal.unlink-requires-clause-behind
unlink-requires-clause-behind g c =
    let leaves = c.args.leaves.now in
    let place = c.place_behind-place in
    leads_to_leaf (prefix_in leaves) (longer_in leaves) c.args.prefix (longer_in leaves place.result.0) c.in-Some.key c.requires.chained place.ensures.last.next (subst (IsLeafOf (prefix_in leaves) c.args.prefix) c.in-Some.is place.ensures.leaf)

pub returns-in-None-clause-joins : goal.returns-in-None-clause-joins
returns-in-None-clause-joins g c = joins_absent c.args.leaves.now c.args.prefix c.requires.chained (subst (IsLeafOf (prefix_in c.args.leaves.now) c.args.prefix) c.in-None.is c.place_behind-place.ensures.leaf)

pub returns-in-None-clause-before : goal.returns-in-None-clause-before
returns-in-None-clause-before g c = sym (row_none c.args.leaves.now c.args.prefix (subst (IsLeafOf (prefix_in c.args.leaves.now) c.args.prefix) c.in-None.is c.place_behind-place.ensures.leaf))
