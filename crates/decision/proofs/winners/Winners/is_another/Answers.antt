use Rattle.std.proofs.Common.{sym, ◌∙◌}
use Rattle.decision.proofs.LineupLemmas.{same_winner, other_winner}
use Rattle.decision.proofs.winners.Winners.is_another.Goals as goal

pub returns-then-eq : goal.returns-then-eq
returns-then-eq c = λ is. (same_winner c.args.self.former c.args.self.latter c.if-eq.ensures, other_winner c.args.self.latter c.args.branch (sym is ∙ c.ne.ensures))
