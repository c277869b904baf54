use Rattle.std.specs.FinMap as tables
use Rattle.part_tests.specs.declared.second_family.TheConstants.{PROFILE}
use Rattle.part_tests.proofs.ExitLemmas.{turn_ready}
use Rattle.part_tests.proofs.second_exits.turn.Goals as goal

pub returns-clause-stand : goal.returns-clause-stand
returns-clause-stand c =
    (turn_ready PROFILE c.args.number _ (tables.get c.args.best.now) c.args.exits.now c.turn.new.self _ _ c.in_ok-turn.turn c.in_ok-turn.ensures
    (record { sound = c.requires.sound; stand = c.requires.stand; profile = c.requires.profile })).stand
