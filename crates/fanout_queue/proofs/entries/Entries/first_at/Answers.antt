use Rattle.fanout_queue.proofs.EntryLemmas.{change_found, rest_found}
use Rattle.fanout_queue.proofs.entries.Entries.first_at.Goals as goal

pub returns-in-Some : goal.returns-in-Some
returns-in-Some g c = change_found c.self.inside.first c.self.inside.kept.items c.self.inside.at_end c.self.inside.index c.self.inside.indexed c.args.self.now c.self.view_is c.self.invariant c.args.place c.requires c.args.prefix c.in-Some.number c.index.result.now c.index.ensures c.in-Some.ensures

pub returns-in-None : goal.returns-in-None
returns-in-None g c = rest_found c.self.inside.first c.self.inside.kept.items c.self.inside.at_end c.self.inside.index c.self.inside.indexed c.args.self.now c.self.view_is c.self.invariant c.args.place c.requires c.max.result c.max.ensures c.args.prefix _ c.in-None.ensures c.first_among.ensures
