use Rattle.std.proofs.Common.{sym, ◌∙◌}
use Rattle.addr4.proofs.PrefixOrder.{prefixes_total}
use Rattle.link_change.proofs.MapLemmas.{read_in}
use Rattle.journal_check.proofs.rows.TextRows.get.Goals as goal

pub returns : goal.returns
returns c = c.get.ensures.value ∙ sym (read_in prefixes_total c.self.inside.texts c.args.self.now c.args.p c.self.view_is)
