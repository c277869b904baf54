use Rattle.std.proofs.Common.{◌∙◌}
use Rattle.safe_table.proofs.Maps.{remove-insert, remove_absent}
use Rattle.safe_table.proofs.slots.take.Goals as goal

pub returns-then-readers-eq0-clause-goes : goal.returns-then-readers-eq0-clause-goes
returns-then-readers-eq0-clause-goes g c = λ s found nobody. c.remove.ensures.rows ∙ remove-insert c.args.trie.now.rows c.args.prefix _

pub returns-then-alone-clause-absent : goal.returns-then-alone-clause-absent
returns-then-alone-clause-absent g c = λ none. c.take_slot.ensures.rows ∙ remove_absent c.args.trie.now.rows c.args.prefix none
