use Rattle.std.proofs.Common.{List, true, is_some, ◌≡◌, ◌∙◌, ap, subst, rules}
use Rattle.addr4.specs.Places.{key_of}
use Rattle.policy_rules.specs.Rules.{Rule}
use Rattle.pass_core.specs.Passed.{Passed, function_at}
use Rattle.pass_core.proofs.TurnLemmas.{goes_on, ends_here}
use Rattle.link_change.specs.Turns.{taken_turn}
use Rattle.link_change.specs.declared.turn.Turn.TheVariants.{Quiet}
use Rattle.filter_bank.specs.Filtered.{filtered}
use Rattle.filter_bank.specs.Walks.{IsWalked}
use Rattle.filter_bank.proofs.LawLemmas.{makes_none}
use Rattle.filter_bank.proofs.filter.FilterBank.unit.Goals as goal

pub returns-clause-taken : goal.returns-clause-taken
returns-clause-taken g c =
    let me = c.args.me.now in
    let peer = c.args.peer.now in
    let candidates = g.U.Upstream.candidates c.args.upper.now in
    let upper = g.U.Upstream.rows c.args.upper.now in
    let old = c.self.inside.pass in
    let new = c.step_to.new.self in
    let p = c.in-Some.prefix in
    let busy : is_some old.walk ≡ true = search rules in
    let row : c.in_ok-row.row ≡ upper p = c.in_ok-row.ensures in
    let again : c.in_ok-again.again ≡ upper p = c.in_ok-again.ensures ∙ row in
    let before : c.filtered-before.result ≡ filtered me peer (function_at old p) p (upper p) =
    c.filtered-before.ensures ∙ ap (λ (f : List Rule). filtered me peer f p c.in_ok-row.row) c.at.ensures
    ∙ ap (filtered me peer (function_at old p) p) row in
    let after : c.filtered-after.result ≡ filtered me peer (function_at new p) p (upper p) =
    c.filtered-after.ensures ∙ ap (λ (f : List Rule). filtered me peer f p c.in_ok-again.again) c.at-2.ensures
    ∙ ap (filtered me peer (function_at new p) p) again in
    rw c.taken.ensures
    (subst (λ (s : Passed (List Rule)). IsWalked me peer candidates upper s new (taken_turn c.between.result)) c.self.view_is
    (goes_on (filtered me peer) (makes_none me peer) candidates upper c.in-Some.ensures.covers old new (key_of c.place.result) p
    c.filtered-before.result c.filtered-after.result c.between.result busy c.place.ensures c.step_to.ensures c.in-Some.ensures.next
    before after c.between.ensures))

pub returns-in_default-clause-taken : goal.returns-in_default-clause-taken
returns-in_default-clause-taken g c =
    let me = c.args.me.now in
    let peer = c.args.peer.now in
    let candidates = g.U.Upstream.candidates c.args.upper.now in
    let upper = g.U.Upstream.rows c.args.upper.now in
    let old = c.self.inside.pass in
    let new = c.finish.new.self in
    let busy : is_some old.walk ≡ true = search rules in
    subst (λ (s : Passed (List Rule)). IsWalked me peer candidates upper s new Quiet) c.self.view_is
    (ends_here (filtered me peer) (makes_none me peer) candidates upper c.in_default.ensures.covers old new (key_of c.place.result) busy
    c.place.ensures c.finish.ensures c.in_default.ensures.next)
