use Rattle.fanout_queue.specs.Places.{AllBelowPlaced}
use Rattle.fanout_queue.proofs.places.first_free.Given as goal

abbrev pub invariant-places : goal.invariant-places
invariant-places l = AllBelowPlaced l.places l.i
