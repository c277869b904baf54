use Rattle.replay.specs.Output.{IsRefusedOutput, IsOutputOfFront}
use Rattle.replay.specs.Totals.{IsTotalledOutput, IsFrontOfTotalled}
use Rattle.replay.proofs.GeneratedLemmas.{of_told, first_lines}
use Rattle.replay.proofs.generated.run_source.Goals as goal

pub returns-in-ReadFault-clause-memory : goal.returns-in-ReadFault-clause-memory
returns-in-ReadFault-clause-memory g c = λ is. first_lines c.args.quiet c.args.source.now.left c.run_events.new.source.left _ _ (c.run_events.ensures.so_far c.in-ReadFault.is)

pub returns-in_default-clause-ok : goal.returns-in_default-clause-ok
returns-in_default-clause-ok g c = λ is. of_told _ _ _ (IsTotalledOutput c.args.quiet) (c.run_events.ensures.ok is)

pub returns-in_default-clause-refused : goal.returns-in_default-clause-refused
returns-in_default-clause-refused g c = λ is. of_told _ _ _ (IsRefusedOutput c.args.quiet) (c.run_events.ensures.refused is)

pub returns-in_default-clause-memory : goal.returns-in_default-clause-memory
returns-in_default-clause-memory g c = λ is. of_told _ _ _ (IsOutputOfFront c.args.quiet) (c.run_events.ensures.memory is)

pub returns-in_default-clause-front : goal.returns-in_default-clause-front
returns-in_default-clause-front g c = λ is. of_told _ _ _ (IsFrontOfTotalled c.args.quiet) (c.run_events.ensures.front is)
