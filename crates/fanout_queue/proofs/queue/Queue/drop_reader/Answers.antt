use Rattle.std.proofs.Common.{ℕ, List, Option, None, IsSome, slice_index_or, sym, subst}
use Rattle.fanout_queue.proofs.QueueLemmas.{live_place, at_place, left, left_sound}
use Rattle.fanout_queue.proofs.queue.Queue.drop_reader.Goals as goal

pub place_of-place-requires : goal.place_of-place-requires
place_of-place-requires g c =
    subst (λ (places : List (Option ℕ)). IsSome (slice_index_or places c.reader.inside.number None)) (sym c.as_slice.ensures.value)
    (live_place c.self.inside.entries c.self.inside.places.items c.args.self.now c.self.view_is c.reader.inside.number c.args.reader c.reader.view_is c.requires)

pub invariant_of-self : goal.invariant_of-self
invariant_of-self g c =
    let at = at_place c.as_slice.result.now c.self.inside.places.items c.reader.inside.number c.place_of-place.result c.as_slice.ensures.value c.place_of-place.ensures.at in
    left_sound c.self.inside.entries c.leave.new.self c.trim.new.self c.self.inside.places.items c.set_place.new.places.items c.reader.inside.number c.place_of-place.result at c.set_place.ensures c.leave.ensures c.trim.ensures c.self.invariant

pub returns : goal.returns
returns g c =
    let at = at_place c.as_slice.result.now c.self.inside.places.items c.reader.inside.number c.place_of-place.result c.as_slice.ensures.value c.place_of-place.ensures.at in
    left c.self.inside.entries c.leave.new.self c.trim.new.self c.self.inside.places.items c.set_place.new.places.items c.reader.inside.number c.place_of-place.result at c.set_place.ensures c.leave.ensures c.trim.ensures c.self.invariant c.args.self.now c.args.reader c.self.view_is c.reader.view_is
