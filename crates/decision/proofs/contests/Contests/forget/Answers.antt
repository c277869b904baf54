use Rattle.decision.proofs.Kept.{gone_known, gone_marked}
use Rattle.decision.proofs.contests.Contests.forget.Goals as goal

pub invariant_of-self : goal.invariant_of-self
invariant_of-self g c = gone_marked c.self.inside.marks.rows c.remove-2.new.self.rows c.self.inside.lines.rows c.remove.new.self.rows c.args.prefix c.remove-2.ensures.rows c.remove.ensures.rows c.self.invariant

pub returns : goal.returns
returns g c = gone_known c.args.self.now c.self.inside.marks.rows c.remove-2.new.self.rows c.self.inside.lines.rows c.remove.new.self.rows c.args.prefix c.self.view_is c.remove-2.ensures.rows c.remove.ensures.rows
