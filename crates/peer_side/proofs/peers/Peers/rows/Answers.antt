use Rattle.std.proofs.Common.{◌≡◌, ◌∙◌, ap}
use Rattle.std.proofs.lemmas.Result.{IfOk-weaker}
use Rattle.std.specs.List.{sum_by}
use Rattle.std.specs.Cmp.{nat_cmp_total}
use Rattle.std.specs.BTreeMap.{values}
use Rattle.link_change.proofs.MapLemmas.{values_in}
use Rattle.in_chain.specs.Chains.{row_count}
use Rattle.peer_side.specs.Peers.{rows_in}
use Rattle.peer_side.proofs.peers.Peers.rows.Goals as goal

pub returns : goal.returns
returns g c =
    IfOk-weaker c.count_rows.result (λ rows. rows ≡ sum_by row_count (values c.self.inside.chains)) (λ rows. rows ≡ rows_in c.args.self.now)
    (λ rows is. is ∙ ap (sum_by row_count) (values_in nat_cmp_total c.self.inside.chains c.args.self.now c.count_rows.ensures.ordered c.self.view_is)) c.count_rows.ensures.sum
