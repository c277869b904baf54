use Rattle.std.proofs.Common.{sym, subst, None, Option}
use Rattle.std.specs.FinMap as map
use Rattle.addr4.specs.Prefixes.{AddressPrefix}
use Rattle.link_change.specs.Rows.{IsNextCandidate, with_rows}
use Rattle.rib_tree.proofs.HeldLemmas.{none_at_all}
use Rattle.rib_tree.proofs.held.holds_up.Goals as goal

pub has-requires : goal.has-requires
has-requires g c = subst (λ (o : Option AddressPrefix). IsNextCandidate (with_rows (map.get c.args.deletion.now.rows)) None o) c.in-Some.is c.next_held.ensures

pub is_over_any-requires : goal.is_over_any-requires
is_over_any-requires g c = subst (λ (o : Option AddressPrefix). IsNextCandidate (with_rows (map.get c.args.deletion.now.rows)) None o) c.in-Some.is c.next_held.ensures

pub returns-in-None : goal.returns-in-None
returns-in-None g c = sym (none_at_all c.args.deletion.now.rows c.args.p c.args.addresses.now (subst (λ (o : Option AddressPrefix). IsNextCandidate (with_rows (map.get c.args.deletion.now.rows)) None o) c.in-None.is c.next_held.ensures))
