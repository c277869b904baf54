use Rattle.std.proofs.Common.{ℕ, List, Option, None, IsSome, slice_index_or, sym, subst}
use Rattle.std.specs.Option.{option_copied}
use Rattle.fanout_queue.proofs.QueueLemmas.{live_place, at_place, told_first}
use Rattle.fanout_queue.proofs.queue.Queue.first_unread.Goals as goal

pub place_of-place-requires : goal.place_of-place-requires
place_of-place-requires g c =
    subst (λ (places : List (Option ℕ)). IsSome (slice_index_or places c.reader.inside.number None)) (sym c.as_slice.ensures.value)
    (live_place c.self.inside.entries c.self.inside.places.items c.args.self.now c.self.view_is c.reader.inside.number c.args.reader.now c.reader.view_is c.requires)

pub returns : goal.returns
returns g c =
    let at = at_place c.as_slice.result.now c.self.inside.places.items c.reader.inside.number c.place_of-place.result c.as_slice.ensures.value c.place_of-place.ensures.at in
    told_first c.self.inside.entries c.self.inside.places.items c.args.self.now c.reader.inside.number c.args.reader.now c.place_of-place.result c.self.view_is c.reader.view_is at c.args.prefix
    (option_copied c.first_at.result) c.first_at.ensures
