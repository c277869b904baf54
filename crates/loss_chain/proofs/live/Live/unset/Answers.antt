use Rattle.std.proofs.Common.{◌≡◌, None, IsNone, ◌↔◌, ap, subst, ◌∙◌, rules}
use Rattle.std.specs.FinMap as map
use Rattle.link_change.proofs.ChangeLemmas.{sends_remove, none_if_same, sent_after}
use Rattle.loss_chain.proofs.live.Live.unset.Goals as goal

pub returns-clause-sent : goal.returns-clause-sent
returns-clause-sent g c =
    let p = c.args.prefix in
    let new_is : c.remove-before.new.self.rows ≡ map.remove c.args.self.now p = search rules in
    sends_remove c.args.self.now c.remove-before.new.self.rows p c.remove-before.result c.between.result new_is
    (c.remove-before.ensures.before ∙ ap (λ m. map.get m p) c.self.view_is) c.between.ensures

pub returns-clause-silent : goal.returns-clause-silent
returns-clause-silent g c =
    let p = c.args.prefix in
    subst (λ before. IsNone c.between.result ↔ (before ≡ None))
    (c.remove-before.ensures.before ∙ ap (λ m. map.get m p) c.self.view_is)
    (none_if_same p c.remove-before.result None c.between.result c.between.ensures)

pub returns-clause-after : goal.returns-clause-after
returns-clause-after g c = sent_after c.args.prefix c.remove-before.result None c.between.result c.between.ensures
