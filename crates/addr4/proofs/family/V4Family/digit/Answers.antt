use Rattle.addr4.proofs.FrontLemmas.{front_digit, front_no_digit}
use Rattle.addr4.proofs.family.V4Family.digit.Goals as goal

pub returns-then-level-lt24-clause-digit : goal.returns-then-level-lt24-clause-digit
returns-then-level-lt24-clause-digit c = front_no_digit c.args.self.0 c.args.level c.if-level-lt24.true

pub returns-clause-digit : goal.returns-clause-digit
returns-clause-digit c = front_digit c.args.self.0 c.args.level c.if-level-lt24.false
