use Rattle.std.proofs.Common.{◌∙◌, sym, ap}
use Rattle.std.specs.FinMap as tables
use Rattle.std.specs.FinMap.{FinMap}
use Rattle.std.specs.Option.{option_copied}
use Rattle.addr4.specs.Prefixes.{prefix_cmp}
use Rattle.decision.specs.Contests.{Contest, winner_in}
use Rattle.decision.proofs.Kept.{nothing_known, known_of}
use Rattle.decision.proofs.contests.Contests.winner.Goals as goal

pub returns-in-None : goal.returns-in-None
returns-in-None g c =
    sym (ap winner_in (ap (λ (m : FinMap prefix_cmp Contest). tables.get m c.args.prefix.now) (sym c.self.view_is)
    ∙ nothing_known c.self.inside.marks.rows c.self.inside.lines.rows c.args.prefix.now (sym c.get.ensures ∙ ap option_copied c.in-None.is)))

pub returns-in-Some : goal.returns-in-Some
returns-in-Some g c =
    sym (ap winner_in (ap (λ (m : FinMap prefix_cmp Contest). tables.get m c.args.prefix.now) (sym c.self.view_is)
    ∙ known_of c.self.inside.marks.rows c.self.inside.lines.rows c.args.prefix.now c.in-Some.mark.now (sym c.get.ensures ∙ ap option_copied c.in-Some.is)))
