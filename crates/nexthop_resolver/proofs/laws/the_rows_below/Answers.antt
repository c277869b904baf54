use Rattle.nexthop_resolver.proofs.RowLemmas.{no_rows_at_first, invalidating_keeps_rows}
use Rattle.nexthop_resolver.proofs.laws.the_rows_below.Goals as goal

pub returns : goal.returns
returns g c = record {
  first = λ hop made client. no_rows_at_first hop made client;
  stale = λ hop made upper s old new is. invalidating_keeps_rows hop made upper s old new is;
}
