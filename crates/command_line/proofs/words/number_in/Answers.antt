use Rattle.command_line.proofs.NumberLemmas.{number_read, number_not_read}
use Rattle.command_line.proofs.words.number_in.Goals as goal

pub returns-in-Ok-clause-value : goal.returns-in-Ok-clause-value
returns-in-Ok-clause-value c = number_read c.args.most c.in-Ok.number c.args.text.now c.parse.result c.parse.ensures.value.0 c.in-Ok.is c.if-number-most.true

pub returns-in_default-2-clause-value : goal.returns-in_default-2-clause-value
returns-in_default-2-clause-value c = number_not_read c.args.most c.args.text.now c.parse.result c.parse.ensures.value.0 (λ n is. absurd (cc))
