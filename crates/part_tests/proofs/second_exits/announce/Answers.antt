use Rattle.std.proofs.Common.{sym, subst}
use Rattle.std.specs.FinMap as tables
use Rattle.std.specs.FinMap.{FinMap}
use Rattle.addr4.specs.Prefixes.{prefix_cmp}
use Rattle.bgp_attr.specs.Routes.{Route}
use Rattle.out_chain.specs.Chains.{RowsMayBeHeard}
use Rattle.part_tests.specs.declared.second_family.TheConstants.{PROFILE}
use Rattle.part_tests.proofs.ExitLemmas.{none_heard}
use Rattle.part_tests.proofs.second_exits.announce.Goals as goal

pub decide-requires-clause-stand : goal.decide-requires-clause-stand
decide-requires-clause-stand c =
    c.in_ok-begin-2.ensures.stand (tables.get c.args.best.now) (subst (λ (m : FinMap prefix_cmp Route). RowsMayBeHeard PROFILE (tables.get m)) (sym c.requires.none) (none_heard PROFILE))
