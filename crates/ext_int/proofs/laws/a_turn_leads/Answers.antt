use Rattle.nexthop_resolver.specs.Kept.{external_hop, over, way_of}
use Rattle.ext_int.proofs.FibLemmas.{turn_leads}
use Rattle.ext_int.proofs.laws.a_turn_leads.Goals as goal

pub returns : goal.returns
returns c int candidates ext was is old new turn taken =
    turn_leads int _ _ taken.inner turn (c.a_turn_leads.ensures external_hop over candidates ext way_of was is old new taken.inner taken.resolves) taken.follows
