use Rattle.link_change.proofs.MapLemmas.{map_set}
use Rattle.journal_check.specs.Maps.{key_of}
use Rattle.journal_check.proofs.KeyLemmas.{keys_total, exact_keys}
use Rattle.journal_check.proofs.links.LiveLinks.put.Goals as goal

pub returns : goal.returns
returns c = map_set keys_total exact_keys c.self.inside.maps c.insert.new.self c.args.self.now (key_of c.args.link) c.args.rows c.self.view_is (rw c.key_of.ensures at c.in_ok-insert.ensures.updates.0)
