use Rattle.std.proofs.Common.{sym, ◌∙◌}
use Rattle.link_change.proofs.MapLemmas.{read_in}
use Rattle.journal_check.specs.Maps.{key_of}
use Rattle.journal_check.proofs.KeyLemmas.{keys_total}
use Rattle.journal_check.proofs.links.LiveLinks.get.Goals as goal

pub returns : goal.returns
returns c = rw c.key_of.ensures at c.get.ensures.value ∙ sym (read_in keys_total c.self.inside.maps c.args.self.now (key_of c.args.link) c.self.view_is)
