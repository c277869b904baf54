use Rattle.std.proofs.Common.{rules, arith, ◌+◌, ◌-◌, ◌<◌, ◌≤◌, length}
use Rattle.fanout_queue.proofs.EntryLemmas.{kept_stays, same_changes, place_from, place_to, room_entry, enters_entry, enters_end}
use Rattle.fanout_queue.proofs.entries.Entries.enter.Goals as goal

pub invariant_of-self-in-Some : goal.invariant_of-self-in-Some
invariant_of-self-in-Some g c =
    kept_stays c.self.inside.first c.self.inside.kept.items _ c.self.inside.index c.self.inside.indexed
    (same_changes c.self.inside.kept.items (c.args.place - c.self.inside.first) (c.in-Some.entry.now.readers + 1) c.in-Some.entry.now c.in-Some.ensures.value)
    c.self.invariant

pub overflow_add-entry : goal.overflow_add-entry
overflow_add-entry g c =
    let within : c.args.place - c.self.inside.first < length c.self.inside.kept.items = search rules in
    let room = room_entry c.self.inside.first c.self.inside.kept.items c.self.inside.at_end c.args.self.now c.self.view_is c.args.place c.in-Some.entry.now within c.in-Some.ensures.value c.requires.fits in
    omega arith

pub returns-in-None : goal.returns-in-None
returns-in-None g c =
    let from = place_from c.self.inside.first c.self.inside.kept.items c.self.inside.at_end c.args.self.now c.self.view_is c.args.place c.requires.place in
    let to = place_to c.self.inside.first c.self.inside.kept.items c.self.inside.at_end c.args.self.now c.self.view_is c.args.place c.requires.place in
    let past : length c.self.inside.kept.items ≤ c.args.place - c.self.inside.first = search rules in
    enters_end c.self.inside.first c.self.inside.kept.items c.self.inside.at_end c.args.self.now c.self.view_is c.args.place from (omega arith)

pub returns-in-Some : goal.returns-in-Some
returns-in-Some g c =
    let from = place_from c.self.inside.first c.self.inside.kept.items c.self.inside.at_end c.args.self.now c.self.view_is c.args.place c.requires.place in
    let within : c.args.place - c.self.inside.first < length c.self.inside.kept.items = search rules in
    enters_entry c.self.inside.first c.self.inside.kept.items c.self.inside.at_end c.args.self.now c.self.view_is c.args.place c.in-Some.entry.now from within c.in-Some.ensures.value
