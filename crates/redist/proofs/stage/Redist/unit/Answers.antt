use Rattle.std.proofs.Common.{true, is_some, ◌≡◌, ◌∙◌, ap, subst, rules}
use Rattle.addr4.specs.Places.{key_of}
use Rattle.redist.specs.declared.protos.Protos.{Protos}
use Rattle.pass_core.specs.Passed.{Passed, function_at}
use Rattle.pass_core.specs.Turns.{IsWalked}
use Rattle.pass_core.proofs.TurnLemmas.{goes_on, coming_at}
use Rattle.link_change.specs.Turns.{taken_turn}
use Rattle.redist.specs.Local.{redistributed}
use Rattle.redist.proofs.LawLemmas.{makes_none}
use Rattle.redist.proofs.stage.Redist.unit.Goals as goal

pub returns-clause-taken : goal.returns-clause-taken
returns-clause-taken g c =
    let me = c.args.me.now in
    let candidates = g.U.Upstream.candidates c.args.upper.now in
    let upper = g.U.Upstream.rows c.args.upper.now in
    let old = c.self.inside.pass in
    let new = c.step_to.new.self in
    let p = c.in-Some.prefix in
    let busy : is_some old.walk ≡ true = search rules in
    let row : c.in_ok-row.row ≡ upper p = c.in_ok-row.ensures in
    let before : c.in_ok-before.before ≡ redistributed me (function_at old p) p (upper p) =
    c.in_ok-before.ensures ∙ ap (λ (f : Protos). redistributed me f p c.in_ok-row.row) c.at-in_force.ensures
    ∙ ap (redistributed me (function_at old p) p) row in
    let coming : c.coming-coming.result.now ≡ function_at new p = coming_at old new p c.coming-coming.result.now busy c.coming-coming.ensures c.step_to.ensures in
    let after : c.in_ok-after.after ≡ redistributed me (function_at new p) p (upper p) =
    c.in_ok-after.ensures ∙ ap (λ (f : Protos). redistributed me f p c.in_ok-row.row) coming
    ∙ ap (redistributed me (function_at new p) p) row in
    rw c.taken.ensures
    (subst (λ (s : Passed Protos). IsWalked (redistributed me) candidates upper s new (taken_turn c.between.result)) c.self.view_is
    (goes_on (redistributed me) (makes_none me) candidates upper c.in-Some.ensures.covers old new (key_of c.place.result) p
    c.in_ok-before.before c.in_ok-after.after c.between.result busy c.place.ensures c.step_to.ensures c.in-Some.ensures.next
    before after c.between.ensures))
