use Rattle.std.proofs.Common.{IsTrue, ◌↔◌, ◌-◌, ◌*◌, ◌^◌}
use Rattle.addr4.specs.Places.{key_of, rank}
use Rattle.nibble_trie.specs.Contents.{HasKey}
use Rattle.safe_table.specs.Fields.{live_rows}
use Rattle.safe_table.proofs.Keeping.{Reaches}
use Rattle.safe_table.proofs.slots.first_live.Given as goal

abbrev pub invariant-rows : goal.invariant-rows
invariant-rows g l = Reaches l.trie.rows (key_of l.fn.after) l.row.0 × (IsTrue l.row.1 ↔ HasKey (live_rows l.trie.rows) l.row.0)

abbrev pub decreases-rows : goal.decreases-rows
decreases-rows g l = 2 ^ 128 * 256 - rank l.row.0
