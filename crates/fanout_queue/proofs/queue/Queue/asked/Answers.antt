use Rattle.std.proofs.Common.{ℕ, List, Option, None, IsSome, slice_index_or, sym, subst, Some}
use Rattle.fanout_queue.proofs.QueueLemmas.{live_place, at_place, asked_unread}
use Rattle.fanout_queue.proofs.queue.Queue.asked.Goals as goal

pub place_of-place-requires : goal.place_of-place-requires
place_of-place-requires g c =
    subst (λ (places : List (Option ℕ)). IsSome (slice_index_or places c.reader.inside.number None)) (sym c.as_slice.ensures.value)
    (live_place c.self.inside.entries c.self.inside.places.items c.args.self.now c.self.view_is c.reader.inside.number c.args.reader.now c.reader.view_is c.requires)

pub returns-in-None : goal.returns-in-None
returns-in-None g c =
    let at = at_place c.as_slice.result.now c.self.inside.places.items c.reader.inside.number c.place_of-place.result c.as_slice.ensures.value c.place_of-place.ensures.at in
    asked_unread c.self.inside.entries c.self.inside.places.items c.args.self.now c.reader.inside.number c.args.reader.now c.place_of-place.result c.self.view_is c.reader.view_is at (g.U.Upstream.rows c.args.best.now) c.args.prefix None c.asked.result c.in-None.ensures c.asked.ensures

pub returns-in-Some : goal.returns-in-Some
returns-in-Some g c =
    let at = at_place c.as_slice.result.now c.self.inside.places.items c.reader.inside.number c.place_of-place.result c.as_slice.ensures.value c.place_of-place.ensures.at in
    asked_unread c.self.inside.entries c.self.inside.places.items c.args.self.now c.reader.inside.number c.args.reader.now c.place_of-place.result c.self.view_is c.reader.view_is at (g.U.Upstream.rows c.args.best.now) c.args.prefix (Some c.in-Some.change.now.before) c.copy_row.result c.in-Some.ensures c.copy_row.ensures
