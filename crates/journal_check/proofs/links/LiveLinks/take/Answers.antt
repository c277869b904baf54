use Rattle.std.proofs.Common.{sym, ◌∙◌}
use Rattle.link_change.proofs.MapLemmas.{read_in, map_removed}
use Rattle.journal_check.specs.Maps.{key_of}
use Rattle.journal_check.proofs.KeyLemmas.{keys_total, exact_keys}
use Rattle.journal_check.proofs.links.LiveLinks.take.Goals as goal

pub returns-clause-rows : goal.returns-clause-rows
returns-clause-rows c = rw c.key_of.ensures at c.remove.ensures.value ∙ sym (read_in keys_total c.self.inside.maps c.args.self.now (key_of c.args.link) c.self.view_is)

pub returns-clause-taken : goal.returns-clause-taken
returns-clause-taken c = map_removed keys_total exact_keys c.self.inside.maps c.remove.new.self c.args.self.now (key_of c.args.link) c.self.view_is (rw c.key_of.ensures at c.remove.ensures.updates.0)
