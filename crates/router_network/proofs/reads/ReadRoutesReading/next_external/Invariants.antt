use Rattle.router_moments.proofs.Common.{◌+◌, ◌-◌, key_of, AddressPrefix, IsNextCandidate, best_rows}
use Rattle.std.proofs.Common.{◌^◌, Option}
use Rattle.addr4.specs.Places.{beyond}
use Rattle.rib_exit.proofs.LentLemmas.{IsPlaced}
use Rattle.std.specs.Option.{option_copied}
use Rattle.router_moments.specs.Moments.{read_rows_by}
use Rattle.router_network.proofs.ReadRows.{needed}
use Rattle.router_network.proofs.reads.ReadRoutesReading.next_external.Given as goal

-- the next row from here is the next one from the place where the walk began
abbrev pub invariant-routes : goal.invariant-routes
invariant-routes g l = record {
  placed : IsPlaced (key_of l.place);
  leads : (result : Option AddressPrefix) → IsNextCandidate (needed (read_rows_by l.self.exits.now.queue (option_copied l.self.reader) (best_rows (g.B.Branches.rows l.self.best.now.all.now)))) (key_of l.place) result → IsNextCandidate (needed (read_rows_by l.self.exits.now.queue (option_copied l.self.reader) (best_rows (g.B.Branches.rows l.self.best.now.all.now)))) (key_of l.after) result;
}

abbrev pub decreases-routes : goal.decreases-routes
decreases-routes g l = 2 ^ 136 + 1 - beyond (key_of l.place)
