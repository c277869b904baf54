use Rattle.rib_merge.proofs.MergeLemmas.{merges_on}
use Rattle.rib_merge.proofs.merge.take_in_beside.Goals as goal

pub returns : goal.returns
returns g c =
    merges_on g.R.Ranked.distance c.args.side c.args.change c.args.other _ _ c.between.result
    c.beside-before.ensures c.beside-after.ensures c.between.ensures
