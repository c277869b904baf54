use Rattle.addr4.proofs.PrefixOrder.{prefixes_total, exact_prefixes}
use Rattle.link_change.proofs.MapLemmas.{map_set}
use Rattle.journal_check.proofs.rows.TextRows.put.Goals as goal

pub returns : goal.returns
returns c = map_set prefixes_total exact_prefixes c.self.inside.texts c.insert.new.self c.args.self.now c.args.p c.args.text c.self.view_is c.in_ok-insert.ensures.updates.0
