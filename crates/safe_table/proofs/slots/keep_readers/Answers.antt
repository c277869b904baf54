use Rattle.std.proofs.Common.{sym, ◌∙◌}
use Rattle.safe_table.proofs.Putting.{readers_present}
use Rattle.safe_table.proofs.slots.keep_readers.Goals as goal

pub returns-then-readers-eq0-clause-stays : goal.returns-then-readers-eq0-clause-stays
returns-then-readers-eq0-clause-stays g c = λ s found nobody. readers_present c.args.trie.now.rows c.args.prefix s c.args.before.readers found (nobody ∙ sym c.if-readers-eq0.true ∙ c.readers-readers.ensures)
