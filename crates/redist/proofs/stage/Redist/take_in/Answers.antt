use Rattle.std.proofs.Common.{◌≡◌, ◌∙◌, refl, sym, ap, Option, None}
use Rattle.std.proofs.lemmas.Result.{IfOk-weaker}
use Rattle.redist.specs.declared.protos.Protos.{Protos}
use Rattle.redist.specs.Protocols.{no_protos}
use Rattle.bgp_attr.specs.Routes.{Route}
use Rattle.rib_route.specs.Rows.{Interior}
use Rattle.pass_core.specs.Passed.{Passed, function_at}
use Rattle.pass_core.specs.Turns.{passed, IsPassedOn}
use Rattle.link_change.specs.Changes.{IsChangeOf}
use Rattle.link_change.proofs.ChangeLemmas.{computes_on}
use Rattle.redist.specs.Local.{redistributed}
use Rattle.redist.proofs.LawLemmas.{none_where_none_is_on}
use Rattle.redist.proofs.stage.Redist.take_in.Goals as goal

pub returns-then-is_empty-clause-sent : goal.returns-then-is_empty-clause-sent
returns-then-is_empty-clause-sent g c =
    let me = c.args.me.now in
    let p = c.args.change.now.prefix in
    let pass = c.args.self.now in
    let on : c.at-on.result.now ≡ function_at pass p = c.at-on.ensures ∙ ap (λ (s : Passed Protos). function_at s p) c.self.view_is in
    let none : no_protos ≡ function_at pass p = sym (c.is_empty.ensures.0 c.if-is_empty.true) ∙ on in
    let nothing : (row : Option Interior) → None ≡ passed (redistributed me) pass p row =
    λ row. sym (none_where_none_is_on me p row) ∙ ap (λ (f : Protos). redistributed me f p row) none in
    computes_on (passed (redistributed me) pass) c.args.change.now None None None (nothing c.args.change.now.before) (nothing c.args.change.now.after) refl

pub returns-clause-sent : goal.returns-clause-sent
returns-clause-sent g c =
    let me = c.args.me.now in
    let p = c.args.change.now.prefix in
    let pass = c.args.self.now in
    let on : c.at-on.result.now ≡ function_at pass p = c.at-on.ensures ∙ ap (λ (s : Passed Protos). function_at s p) c.self.view_is in
    let made : Option Interior → Option Route = redistributed me c.at-on.result.now p in
    let by_on : (row : Option Interior) → made row ≡ passed (redistributed me) pass p row = λ row. ap (λ (f : Protos). redistributed me f p row) on in
    let change = c.args.change.now in
    IfOk-weaker c.made.result (IsChangeOf p (made change.before) (made change.after)) (IsPassedOn (redistributed me) pass change)
    (λ sent is. computes_on (passed (redistributed me) pass) change (made change.before) (made change.after) sent (by_on change.before) (by_on change.after) is)
    c.made.ensures.made
