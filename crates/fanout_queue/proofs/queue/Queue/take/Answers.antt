use Rattle.std.proofs.Common.{ℕ, List, Option, None, IsSome, slice_index_or, sym, subst, Some, arith, ◌+◌, ◌<◌, length, refl, ap, ◌∙◌}
use Rattle.std.proofs.Math.ListN.{drop_of_length-le}
use Rattle.fanout_queue.proofs.QueueLemmas.{live_place, at_place, has_unread, stands_there, few_there, passed_sound, passed_takes}
use Rattle.fanout_queue.proofs.LeadLemmas.{take_keeps_readers}
use Rattle.fanout_queue.proofs.queue.Queue.take.Goals as goal

pub place_of-place-requires : goal.place_of-place-requires
place_of-place-requires g c =
    subst (λ (places : List (Option ℕ)). IsSome (slice_index_or places c.reader.inside.number None)) (sym c.as_slice.ensures.value)
    (live_place c.self.inside.entries c.self.inside.places.items c.args.self.now c.self.view_is c.reader.inside.number c.args.reader.now c.reader.view_is c.requires)

pub returns-then-place-end-clause-ok : goal.returns-then-place-end-clause-ok
returns-then-place-end-clause-ok g c =
    let at = at_place c.as_slice.result.now c.self.inside.places.items c.reader.inside.number c.place_of-place.result c.as_slice.ensures.value c.place_of-place.ensures.at in
    let end = c.end.ensures in let same = c.if-place-end.true in
    (has_unread c.self.inside.entries c.self.inside.places.items c.args.self.now c.self.view_is c.reader.inside.number c.args.reader.now c.reader.view_is c.place_of-place.result at ∙ ap Some (drop_of_length-le c.self.inside.entries.changes (omega arith)), refl)

pub pass-requires-clause-fits : goal.pass-requires-clause-fits
pass-requires-clause-fits g c =
    let at = at_place c.as_slice.result.now c.self.inside.places.items c.reader.inside.number c.place_of-place.result c.as_slice.ensures.value c.place_of-place.ensures.at in
    let few : length c.self.inside.places.items < 9223372036854775808 = subst (λ (places : List (Option ℕ)). length places < 9223372036854775808) c.as_slice.ensures.value c.place_of-place.ensures.few in
    let place = stands_there c.self.inside.entries c.self.inside.places.items c.reader.inside.number c.place_of-place.result c.self.invariant at in
    let from = place.from in
    few_there c.self.inside.entries c.self.inside.places.items (c.place_of-place.result + 1) c.self.invariant (omega arith) few

pub invariant_of-self-2 : goal.invariant_of-self-2
invariant_of-self-2 g c =
    let at = at_place c.as_slice.result.now c.self.inside.places.items c.reader.inside.number c.place_of-place.result c.as_slice.ensures.value c.place_of-place.ensures.at in
    let place = stands_there c.self.inside.entries c.self.inside.places.items c.reader.inside.number c.place_of-place.result c.self.invariant at in
    let to = place.to in
    let end = c.end.ensures in let apart = c.if-place-end.false in
    let within : c.place_of-place.result < c.self.inside.entries.first + length c.self.inside.entries.changes = omega arith in
    passed_sound c.self.inside.entries c.pass.new.self c.self.inside.places.items c.set_place.new.places.items c.reader.inside.number c.place_of-place.result c.in_ok-change.change at within c.set_place.ensures c.in_ok-change.ensures.ok c.self.invariant

pub returns-clause-ok : goal.returns-clause-ok
returns-clause-ok g c =
    let at = at_place c.as_slice.result.now c.self.inside.places.items c.reader.inside.number c.place_of-place.result c.as_slice.ensures.value c.place_of-place.ensures.at in
    let place = stands_there c.self.inside.entries c.self.inside.places.items c.reader.inside.number c.place_of-place.result c.self.invariant at in
    let to = place.to in
    let end = c.end.ensures in let apart = c.if-place-end.false in
    let within : c.place_of-place.result < c.self.inside.entries.first + length c.self.inside.entries.changes = omega arith in
    passed_takes c.self.inside.entries c.pass.new.self c.self.inside.places.items c.set_place.new.places.items c.reader.inside.number c.place_of-place.result c.in_ok-change.change at within c.set_place.ensures c.in_ok-change.ensures.ok c.self.invariant c.args.self.now c.args.reader.now c.self.view_is c.reader.view_is

pub returns-then-place-end-clause-stay : goal.returns-then-place-end-clause-stay
returns-then-place-end-clause-stay g c = take_keeps_readers _ _ c.args.reader.now None (returns-then-place-end-clause-ok g c)

pub returns-clause-stay : goal.returns-clause-stay
returns-clause-stay g c = take_keeps_readers _ _ c.args.reader.now (Some c.in_ok-change.change) (returns-clause-ok g c)
