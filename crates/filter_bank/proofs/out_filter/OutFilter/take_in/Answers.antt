use Rattle.std.proofs.Common.{true, false, not, is_some, List, Option, None, Some, ◌≡◌, ◌∙◌, refl, sym, ap}
use Rattle.policy_rules.specs.Rules.{Rule}
use Rattle.pass_core.specs.Passed.{Passed, function_at}
use Rattle.pass_core.specs.Turns.{passed}
use Rattle.link_change.proofs.ChangeLemmas.{computes_on}
use Rattle.filter_bank.specs.Outgoing.{outgoing}
use Rattle.filter_bank.proofs.OutLemmas.{nothing_by_none}
use Rattle.filter_bank.proofs.out_filter.OutFilter.take_in.Goals as goal

none_of : {A : Type 0} (o : Option A) → is_some o ≡ false → o ≡ None
none_of None is = refl
none_of (Some a) is = absurd (let e : true ≡ false = is in cc)

pub returns-then-is_none : goal.returns-then-is_none
returns-then-is_none g c =
    let form = g.S.Sent.form c.args.form.now in
    let peer = c.args.peer.now in
    let p = c.args.change.prefix in
    let pass = c.args.self.now in
    let rules : c.at-rules.result.now ≡ function_at pass p = c.at-rules.ensures ∙ ap (λ (s : Passed (Option (List Rule))). function_at s p) c.self.view_is in
    let none : None ≡ function_at pass p = sym (none_of c.at-rules.result.now (c.is_none.ensures ∙ ap not c.if-is_none.true)) ∙ rules in
    let before : None ≡ passed (outgoing form peer) pass p c.args.change.before =
    sym (nothing_by_none form peer p c.args.change.before) ∙ ap (λ (f : Option (List Rule)). outgoing form peer f p c.args.change.before) none in
    let after : None ≡ passed (outgoing form peer) pass p c.args.change.after =
    sym (nothing_by_none form peer p c.args.change.after) ∙ ap (λ (f : Option (List Rule)). outgoing form peer f p c.args.change.after) none in
    computes_on (passed (outgoing form peer) pass) c.args.change None None None before after refl

pub returns : goal.returns
returns g c =
    let form = g.S.Sent.form c.args.form.now in
    let peer = c.args.peer.now in
    let p = c.args.change.prefix in
    let pass = c.args.self.now in
    let rules : c.at-rules.result.now ≡ function_at pass p = c.at-rules.ensures ∙ ap (λ (s : Passed (Option (List Rule))). function_at s p) c.self.view_is in
    let before : c.in_ok-before.before ≡ passed (outgoing form peer) pass p c.args.change.before =
    c.in_ok-before.ensures ∙ ap (λ (f : Option (List Rule)). outgoing form peer f p c.args.change.before) rules in
    let after : c.in_ok-after.after ≡ passed (outgoing form peer) pass p c.args.change.after =
    c.in_ok-after.ensures ∙ ap (λ (f : Option (List Rule)). outgoing form peer f p c.args.change.after) rules in
    computes_on (passed (outgoing form peer) pass) c.args.change c.in_ok-before.before c.in_ok-after.after c.between.result before after c.between.ensures
