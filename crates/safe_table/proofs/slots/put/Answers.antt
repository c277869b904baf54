use Rattle.std.proofs.Common.{sym, ◌∙◌}
use Rattle.safe_table.proofs.Putting.{put_over, stands_put}
use Rattle.safe_table.proofs.slots.put.Goals as goal

pub keep_readers-requires : goal.keep_readers-requires
keep_readers-requires g c = stands_put c.args.trie.now.rows c.insert.new.self.rows c.args.prefix c.new.result c.in-Ok-Some.ensures.ok

pub returns-in-Ok-Some-clause-ok : goal.returns-in-Ok-Some-clause-ok
returns-in-Ok-Some-clause-ok g c = put_over c.args.trie.now.rows c.insert.new.self.rows c.keep_readers.new.trie.rows c.args.prefix c.args.value c.new.result c.in-Ok-Some.before c.new.ensures c.in-Ok-Some.ensures.ok (sym c.in-Ok-Some.field-0-is ∙ c.in-Ok-Some.ensures.before) c.keep_readers.ensures.stays
