use Rattle.std.proofs.Common.{ℕ, List, Option, None, IsSome, slice_index_or, sym, subst}
use Rattle.fanout_queue.specs.Entries.{unread_at}
use Rattle.fanout_queue.proofs.Cases.{if_some}
use Rattle.link_change.proofs.InOrderLemmas.{before_is_covered}
use Rattle.fanout_queue.proofs.QueueLemmas.{live_place, at_place, has_unread}
use Rattle.fanout_queue.proofs.queue.Queue.next_candidate.Goals as goal

pub place_of-place-requires : goal.place_of-place-requires
place_of-place-requires g c =
    subst (λ (places : List (Option ℕ)). IsSome (slice_index_or places c.reader.inside.number None)) (sym c.as_slice.ensures.value)
    (live_place c.self.inside.entries c.self.inside.places.items c.args.self.now c.self.view_is c.reader.inside.number c.args.reader.now c.reader.view_is c.requires)

pub returns-clause-next : goal.returns-clause-next
returns-clause-next g c =
    let at = at_place c.as_slice.result.now c.self.inside.places.items c.reader.inside.number c.place_of-place.result c.as_slice.ensures.value c.place_of-place.ensures.at in
    if_some _ _ (unread_at c.self.inside.entries c.place_of-place.result) (has_unread c.self.inside.entries c.self.inside.places.items c.args.self.now c.self.view_is c.reader.inside.number c.args.reader.now c.reader.view_is c.place_of-place.result at)
    (c.next_beside.ensures (g.U.Upstream.candidates c.args.best.now) c.next_candidate-other.ensures.next)

pub returns-clause-covers : goal.returns-clause-covers
returns-clause-covers g c =
    let at = at_place c.as_slice.result.now c.self.inside.places.items c.reader.inside.number c.place_of-place.result c.as_slice.ensures.value c.place_of-place.ensures.at in
    if_some _ _ (unread_at c.self.inside.entries c.place_of-place.result) (has_unread c.self.inside.entries c.self.inside.places.items c.args.self.now c.self.view_is c.reader.inside.number c.args.reader.now c.reader.view_is c.place_of-place.result at)
    (before_is_covered (g.U.Upstream.candidates c.args.best.now) (g.U.Upstream.rows c.args.best.now) (unread_at c.self.inside.entries c.place_of-place.result) c.next_candidate-other.ensures.covers)
