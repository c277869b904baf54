use Rattle.std.proofs.Common.{◌≡◌, Some, IsNone, ◌↔◌, ap, subst, ◌∙◌, rules}
use Rattle.std.specs.FinMap as map
use Rattle.link_change.proofs.ChangeLemmas.{sends_insert, none_if_same, sent_after}
use Rattle.loss_chain.proofs.live.Live.set.Goals as goal

pub returns-clause-sent : goal.returns-clause-sent
returns-clause-sent g c =
    let p = c.args.prefix in
    let new_is : c.insert.new.self.rows ≡ map.insert c.args.self.now p c.args.row = search rules in
    sends_insert c.args.self.now c.insert.new.self.rows p c.in_ok-before.before c.args.row c.between.result new_is
    (c.in_ok-before.ensures.before ∙ ap (λ m. map.get m p) c.self.view_is) c.between.ensures

pub returns-clause-silent : goal.returns-clause-silent
returns-clause-silent g c =
    let p = c.args.prefix in
    subst (λ before. IsNone c.between.result ↔ (before ≡ Some c.args.row))
    (c.in_ok-before.ensures.before ∙ ap (λ m. map.get m p) c.self.view_is)
    (none_if_same p c.in_ok-before.before (Some c.args.row) c.between.result c.between.ensures)

pub returns-clause-after : goal.returns-clause-after
returns-clause-after g c = sent_after c.args.prefix c.in_ok-before.before (Some c.args.row) c.between.result c.between.ensures
