use Rattle.std.proofs.Common.{not, ap, arith}
use Rattle.addr4.specs.Places.{key_of}
use Rattle.addr4.proofs.RankLemmas.{rank_before}
use Rattle.safe_table.proofs.Keeping.{dead_not, live_not, reaches_first, reaches_next, live_first, live_none, live_none_more}
use Rattle.safe_table.proofs.slots.first_live.Goals as goal

pub rows-init : goal.rows-init
rows-init g c = (reaches_first c.args.trie.now.rows (key_of c.args.after) c.in-Some.row.0 c.in-Some.ensures.prefix, c.in-Some.ensures.live)

pub rows-preserved : goal.rows-preserved
rows-preserved g c = (
  reaches_next c.args.trie.now.rows (key_of c.args.after) c.rows.row.0 c.in-Some-next_slot.next.0 c.rows.invariant.0 (λ h. dead_not c.rows.row.1 (ap not c.rows-test.true) (c.rows.invariant.1.1 h)) c.in-Some-next_slot.ensures.prefix,
  c.in-Some-next_slot.ensures.live,
)

pub rows-smaller : goal.rows-smaller
rows-smaller g c = omega (arith, c.known.ensures.fits, c.known.ensures.masked.0, rank_before c.rows.row.0 c.in-Some-next_slot.next.0 (omega (arith, c.known.ensures.masked.0)) c.in-Some-next_slot.ensures.prefix.0)

pub returns : goal.returns
returns g c = live_first c.args.trie.now.rows (key_of c.args.after) c.rows.row.0 c.rows.invariant.0 (c.rows.invariant.1.0 c.rows-test.false)

pub returns-in-None : goal.returns-in-None
returns-in-None g c = live_none c.args.trie.now.rows (key_of c.args.after) c.in-None.ensures.prefix

pub returns-in-None-next_slot : goal.returns-in-None-next_slot
returns-in-None-next_slot g c = live_none_more c.args.trie.now.rows (key_of c.args.after) c.rows.row.0 c.rows.invariant.0 (λ h. dead_not c.rows.row.1 (ap not c.rows-test.true) (c.rows.invariant.1.1 h)) c.in-None-next_slot.ensures.prefix
