use Rattle.std.proofs.Common.{Some, sym, ap, ◌∙◌}
use Rattle.nibble_trie.proofs.Rows.{node_at, row_of, row_none}
use Rattle.nibble_trie.proofs.Wholes.{whole_joined, joins_replaced}
use Rattle.nibble_trie.proofs.writing.put.Goals as goal

pub returns-in-Ok-clause-whole : goal.returns-in-Ok-clause-whole
returns-in-Ok-clause-whole g c =
    let leaves = c.args.leaves.now in
    let p = c.args.prefix in
    let w = c.requires.whole in
    let n = node_at leaves c.in-Ok.key p c.in-Ok.ensures.found in
    whole_joined leaves c.replace.new.leaves c.args.index.now p (Some c.args.value) w (joins_replaced leaves c.replace.new.leaves c.in-Ok.key n.0 p c.args.value w.chained n.1 n.2 (c.replace.ensures.updates n.0 n.1)) (w.small c.in-Ok.key p c.in-Ok.ensures.found)

pub returns-in-Ok-clause-before : goal.returns-in-Ok-clause-before
returns-in-Ok-clause-before g c =
    let leaves = c.args.leaves.now in
    let n = node_at leaves c.in-Ok.key c.args.prefix c.in-Ok.ensures.found in
    ap Some (c.replace.ensures.before n.0 n.1) ∙ sym (row_of leaves c.in-Ok.key n.0 c.args.prefix c.requires.whole.chained.single n.1 n.2)

pub returns-in-Ok-clause-rows : goal.returns-in-Ok-clause-rows
returns-in-Ok-clause-rows g c =
    let leaves = c.args.leaves.now in
    let n = node_at leaves c.in-Ok.key c.args.prefix c.in-Ok.ensures.found in
    (joins_replaced leaves c.replace.new.leaves c.in-Ok.key n.0 c.args.prefix c.args.value c.requires.whole.chained n.1 n.2 (c.replace.ensures.updates n.0 n.1)).rows

pub returns-in-Err-clause-before : goal.returns-in-Err-clause-before
returns-in-Err-clause-before g c = sym (row_none c.args.leaves.now c.args.prefix c.in-Err.ensures.absent)
