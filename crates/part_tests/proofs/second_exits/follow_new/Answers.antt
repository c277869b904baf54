use Rattle.std.proofs.Common.{sym, subst}
use Rattle.exit_side.specs.Exits.{AllStand}
use Rattle.part_tests.specs.declared.second_family.TheConstants.{PROFILE}
use Rattle.part_tests.proofs.second_exits.follow_new.Goals as goal

pub follow-followed-requires-clause-stand : goal.follow-followed-requires-clause-stand
follow-followed-requires-clause-stand c rows heard = subst (AllStand rows) (sym c.new-exits.ensures) ((c.nothing_at_first.ensures PROFILE).stand rows)
