use Rattle.router_moments.proofs.Common.{◌+◌, ◌-◌, key_of, router_links}
use Rattle.std.proofs.Common.{◌^◌}
use Rattle.addr4.specs.Places.{beyond}
use Rattle.rib_exit.proofs.LentLemmas.{IsPlaced}
use Rattle.router_network.proofs.ShownRows.{IsCounted}
use Rattle.router_network.proofs.network.Network.count_rows.Given as goal

abbrev pub invariant-rows : goal.invariant-rows
invariant-rows g l = record {
  placed : IsPlaced (key_of l.place);
  shown : IsCounted (router_links l.self l.link) (key_of l.place) l.count;
}

abbrev pub decreases-rows : goal.decreases-rows
decreases-rows g l = 2 ^ 136 + 1 - beyond (key_of l.place)
