use Rattle.std.specs.BTreeSet.{IsFromIterResult}
use Rattle.std.proofs.lemmas.Iterator.{YieldsList-from_slice}
use Rattle.std.proofs.lemmas.Iterator.Adapters.{fact_from_collect}
use Rattle.std.proofs.lemmas.Iterator.Consumers.{YieldsList-at, YieldsList-from_copied}
use Rattle.std.proofs.lemmas.Result.{IfOk-weaker}
use Rattle.addr4.specs.Prefixes.{prefix_cmp}
use Rattle.bgp_wire.proofs.SetLaws.{set_has}
use Rattle.bgp_wire.proofs.update.set_of.Goals as goal

pub returns : goal.returns
returns g c =
    let made = fact_from_collect (IsFromIterResult prefix_cmp) c.collect.result c.collect.ensures.ran (YieldsList-from_copied (YieldsList-at c.copied.ensures.source (YieldsList-from_slice c.args.prefixes.now (cc)))) in
    IfOk-weaker c.collect.result (IsFromIterResult prefix_cmp c.args.prefixes.now) _ (λ s is q. set_has c.args.prefixes.now s q is) made
