use Rattle.std.proofs.Common.{◌≡◌, ap, sym, ◌∙◌, rules}
use Rattle.std.specs.FinMap as map
use Rattle.link_change.proofs.RowLemmas.{empty_of_rows}
use Rattle.loss_chain.proofs.CoverLemmas.{deletes}
use Rattle.loss_chain.proofs.deletion.Deletion.unit.Goals as goal

pub returns-in-None-clause-none : goal.returns-in-None-clause-none
returns-in-None-clause-none g c = empty_of_rows c.args.self.now.rows (λ q. ap (λ d. map.get d.rows q) (sym c.self.view_is) ∙ c.in-None.ensures.first q tt)

pub returns-clause-law : goal.returns-clause-law
returns-clause-law g c upper apart =
    let at = ap (λ d. map.get d.rows c.in-Some.least.0) (sym c.self.view_is) ∙ c.in-Some.ensures.row in
    let new_is : c.pop_first.new.self.rows ≡ map.remove c.args.self.now.rows c.in-Some.least.0 = search rules in
    deletes c.args.self.now.rows c.pop_first.new.self.rows upper c.in-Some.least.0 c.in-Some.least.1 at new_is apart
