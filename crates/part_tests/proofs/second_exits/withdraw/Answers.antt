use Rattle.std.specs.FinMap as tables
use Rattle.part_tests.proofs.second_exits.withdraw.Goals as goal

pub returns-clause-stand : goal.returns-clause-stand
returns-clause-stand c = c.in_ok-end.ensures.2.stand (tables.get c.decide.new.best) c.in_ok-internal.ensures.stand
