use Rattle.std.proofs.Common.{refl}
use Rattle.addr4.proofs.PrefixOrder.{prefixes_total, exact_prefixes}
use Rattle.link_change.proofs.MapLemmas.{map_set, map_removed}
use Rattle.register_interest.specs.Search.{rows_in}
use Rattle.register_interest.proofs.register.set_row.Goals as goal

pub returns-in_ok-insert-in-Some-clause-ok : goal.returns-in_ok-insert-in-Some-clause-ok
returns-in_ok-insert-in-Some-clause-ok g c = rw c.in-Some.is (map_set prefixes_total exact_prefixes c.args.rows.now c.insert.new.self (rows_in c.args.rows.now) c.args.prefix c.in-Some.row refl c.in_ok-insert-in-Some.ensures.updates.0)

pub returns-in-None-clause-ok : goal.returns-in-None-clause-ok
returns-in-None-clause-ok g c = rw c.in-None.is (map_removed prefixes_total exact_prefixes c.args.rows.now c.remove.new.self (rows_in c.args.rows.now) c.args.prefix refl c.remove.ensures.updates.0)
