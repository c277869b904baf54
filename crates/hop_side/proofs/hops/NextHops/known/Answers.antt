use Rattle.std.proofs.Common.{◌≡◌, ◌∙◌, ap}
use Rattle.std.proofs.lemmas.Result.{IfOk-weaker}
use Rattle.std.specs.List.{sum_by}
use Rattle.std.specs.Map.{values_of}
use Rattle.std.specs.Cmp.{nat_cmp_total}
use Rattle.std.specs.BTreeMap.{values}
use Rattle.link_change.proofs.MapLemmas.{entries_in}
use Rattle.hop_side.specs.Resolvers.{known_of, known_in}
use Rattle.hop_side.proofs.hops.NextHops.known.Goals as goal

pub returns : goal.returns
returns g c =
    IfOk-weaker c.count_known.result (λ known. known ≡ sum_by known_of (values c.self.inside.resolvers)) (λ known. known ≡ known_in c.args.self.now)
    (λ known is. is ∙ ap (λ es. sum_by known_of (values_of es)) (entries_in nat_cmp_total c.self.inside.resolvers c.args.self.now c.count_known.ensures.ordered c.self.view_is)) c.count_known.ensures.sum
