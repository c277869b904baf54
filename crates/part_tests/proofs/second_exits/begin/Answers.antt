use Rattle.std.proofs.Common.{sym, subst}
use Rattle.bgp_attr.specs.declared.speaker.Profile.{Profile}
use Rattle.out_chain.specs.Chains.{RowsMayBeHeard}
use Rattle.part_tests.proofs.second_exits.begin.Goals as goal

pub returns-clause-stand : goal.returns-clause-stand
returns-clause-stand c rows heard =
    c.in_ok-begin.ensures.2.stand rows (subst (λ (p : Profile). RowsMayBeHeard p rows) (sym c.requires.profile) heard) (c.requires.stand rows heard)
