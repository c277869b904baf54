use Rattle.std.proofs.Common.{◌≡◌, Some, ap, sym, ◌∙◌, rules}
use Rattle.std.specs.FinMap as map
use Rattle.link_change.proofs.ChangeLemmas.{sent_after}
use Rattle.loss_chain.proofs.CoverLemmas.{passes, replaces, apart_after}
use Rattle.loss_chain.proofs.deletion.Deletion.take_in.Goals as goal

pub returns-in-None-clause-law : goal.returns-in-None-clause-law
returns-in-None-clause-law g c upper now p sent =
    let new_is : c.remove.new.self.rows ≡ map.remove c.args.self.now.rows c.args.change.prefix = search rules in
    let none = sym (c.in-None.ensures.before ∙ ap (λ d. map.get d.rows c.args.change.prefix) c.self.view_is) in
    passes c.args.self.now.rows c.remove.new.self.rows upper now p c.args.change new_is none sent

pub returns-in-None-clause-apart : goal.returns-in-None-clause-apart
returns-in-None-clause-apart g c upper now p sent apart =
    let new_is : c.remove.new.self.rows ≡ map.remove c.args.self.now.rows c.args.change.prefix = search rules in
    apart_after c.args.self.now.rows c.remove.new.self.rows upper now p c.args.change new_is sent apart

pub returns-clause-law : goal.returns-clause-law
returns-clause-law g c upper now p sent =
    let new_is : c.remove.new.self.rows ≡ map.remove c.args.self.now.rows c.args.change.prefix = search rules in
    let at = sym (c.in-Some.ensures.before ∙ ap (λ d. map.get d.rows c.args.change.prefix) c.self.view_is) in
    replaces c.args.self.now.rows c.remove.new.self.rows upper now p c.args.change c.in-Some.held c.between.result new_is at c.between.ensures sent

pub returns-clause-apart : goal.returns-clause-apart
returns-clause-apart g c upper now p sent apart =
    let new_is : c.remove.new.self.rows ≡ map.remove c.args.self.now.rows c.args.change.prefix = search rules in
    apart_after c.args.self.now.rows c.remove.new.self.rows upper now p c.args.change new_is sent apart

pub returns-clause-after : goal.returns-clause-after
returns-clause-after g c = sent_after c.args.change.prefix (Some c.in-Some.held) c.args.change.after c.between.result c.between.ensures
