use Rattle.std.proofs.Common.{rules, ◌≡◌, ◌≤◌, true, false}
use Rattle.addr4.specs.Places.{key_of}
use Rattle.fanout_queue.specs.Index.{is_reached}
use Rattle.fanout_queue.proofs.EntryLemmas.{numbers_fit, rest_within, rest_beside, none_beside_stops, other_beside, change_beside}
use Rattle.fanout_queue.proofs.entries.Entries.next_beside.Goals as goal

pub least_among-least-requires : goal.least_among-least-requires
least_among-least-requires g c = rest_within c.self.inside.first c.self.inside.kept.items c.self.inside.at_end c.self.inside.index c.self.inside.indexed c.args.self.now c.self.view_is c.self.invariant c.args.place c.requires c.max.result c.max.ensures

pub returns-then-self-place : goal.returns-then-self-place
returns-then-self-place g c =
    let past : c.self.inside.indexed ≤ c.args.place = search rules in
    rest_beside c.self.inside.first c.self.inside.kept.items c.self.inside.at_end c.self.inside.index c.self.inside.indexed c.args.self.now c.self.view_is c.self.invariant c.args.place c.requires c.max.result c.max.ensures (key_of c.args.after.now) c.args.other c.least_among-least.result c.least_among-least.ensures past

pub first_stop-requires : goal.first_stop-requires
first_stop-requires g c = numbers_fit c.self.inside.first c.self.inside.kept.items c.self.inside.at_end c.self.inside.index c.self.inside.indexed c.args.self.now c.self.view_is c.self.invariant c.args.place c.requires

pub returns-in-None : goal.returns-in-None
returns-in-None g c =
    none_beside_stops c.self.inside.first c.self.inside.kept.items c.self.inside.at_end c.self.inside.index c.self.inside.indexed c.args.self.now c.self.view_is c.self.invariant c.args.place c.requires c.max.result c.max.ensures (key_of c.args.after.now) c.args.other c.least_among-least.result c.least_among-least.ensures c.in-None.ensures

pub returns-then-is_reached : goal.returns-then-is_reached
returns-then-is_reached g c =
    let reached : is_reached c.least_among-least.result c.in-Some.key.0 ≡ true = search rules in
    other_beside c.self.inside.first c.self.inside.kept.items c.self.inside.at_end c.self.inside.index c.self.inside.indexed c.args.self.now c.self.view_is c.self.invariant c.args.place c.requires c.max.result c.max.ensures (key_of c.args.after.now) c.args.other c.least_among-least.result c.least_among-least.ensures c.in-Some.key c.in-Some.ensures reached

pub returns-else-is_reached : goal.returns-else-is_reached
returns-else-is_reached g c =
    let not_reached : is_reached c.least_among-least.result c.in-Some.key.0 ≡ false = search rules in
    change_beside c.self.inside.first c.self.inside.kept.items c.self.inside.at_end c.self.inside.index c.self.inside.indexed c.args.self.now c.self.view_is c.self.invariant c.args.place c.requires c.max.result c.max.ensures (key_of c.args.after.now) c.args.other c.least_among-least.result c.least_among-least.ensures c.in-Some.key c.in-Some.ensures not_reached
