use Rattle.std.proofs.Common.{option_map}
use Rattle.check_run.proofs.Cuts.{cut_first, first_is_part}
use Rattle.check_run.proofs.lines.first_line.Goals as goal

pub returns-clause-whole : goal.returns-clause-whole
returns-clause-whole c = cut_first c.args.text.now c.first_part.result.0.now (option_map (λ r. r.now) c.first_part.result.1) c.first_part.ensures

pub returns-clause-part : goal.returns-clause-part
returns-clause-part c = first_is_part c.args.text.now c.first_part.result.0.now _ c.first_part.ensures
