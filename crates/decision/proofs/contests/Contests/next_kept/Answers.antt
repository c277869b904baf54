use Rattle.std.proofs.Common.{subst, None, Some, option_map}
use Rattle.std.specs.FinMap as tables
use Rattle.std.specs.FinMap.{FinMap}
use Rattle.addr4.specs.Prefixes.{prefix_cmp}
use Rattle.addr4.specs.Places.{IsNextRow, key_of}
use Rattle.decision.specs.Contests.{Contest}
use Rattle.decision.proofs.Kept.{next_known}
use Rattle.decision.proofs.contests.Contests.next_kept.Goals as goal

pub returns-in-None : goal.returns-in-None
returns-in-None g c =
    subst (λ (m : FinMap prefix_cmp Contest). IsNextRow (tables.get m) (key_of c.args.after.now) None) c.self.view_is
    (next_known c.self.inside.marks.rows c.self.inside.lines.rows (key_of c.args.after.now) None
    (subst (λ o. IsNextRow (tables.get c.self.inside.marks.rows) (key_of c.args.after.now) (option_map (λ row. row.0) o)) c.in-None.is c.next_row.ensures.prefix))

pub returns-in-Some : goal.returns-in-Some
returns-in-Some g c =
    subst (λ (m : FinMap prefix_cmp Contest). IsNextRow (tables.get m) (key_of c.args.after.now) (Some c.in-Some.row.0)) c.self.view_is
    (next_known c.self.inside.marks.rows c.self.inside.lines.rows (key_of c.args.after.now) (Some c.in-Some.row.0)
    (subst (λ o. IsNextRow (tables.get c.self.inside.marks.rows) (key_of c.args.after.now) (option_map (λ row. row.0) o)) c.in-Some.is c.next_row.ensures.prefix))
