use Rattle.addr4.proofs.PrefixOrder.{prefixes_total, exact_prefixes}
use Rattle.link_change.proofs.MapLemmas.{map_removed}
use Rattle.journal_check.proofs.rows.TextRows.take.Goals as goal

pub returns : goal.returns
returns c = map_removed prefixes_total exact_prefixes c.self.inside.texts c.remove.new.self c.args.self.now c.args.p c.self.view_is c.remove.ensures.updates.0
