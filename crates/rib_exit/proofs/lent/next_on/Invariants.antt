use Rattle.std.proofs.Common.{◌+◌, ◌-◌, ◌^◌, Option}
use Rattle.addr4.specs.Prefixes.{AddressPrefix}
use Rattle.addr4.specs.Places.{key_of, beyond}
use Rattle.link_change.specs.Rows.{IsNextCandidate}
use Rattle.rib_exit.proofs.LentLemmas.{IsPlaced, Own}
use Rattle.rib_exit.proofs.lent.next_on.Given as goal

-- the next row from here is the next one from the place where the walk began
abbrev pub invariant-routes : goal.invariant-routes
invariant-routes g l = record {
  placed : IsPlaced (key_of l.place);
  leads : (result : Option AddressPrefix) → IsNextCandidate (Own (g.B.Reading.rows l.best) l.link) (key_of l.place) result
      → IsNextCandidate (Own (g.B.Reading.rows l.best) l.link) (key_of l.fn.after) result;
}

abbrev pub decreases-routes : goal.decreases-routes
decreases-routes g l = 2 ^ 136 + 1 - beyond (key_of l.place)
