use Rattle.std.proofs.Common.{List, Option, true, is_some, ◌≡◌, ◌∙◌, ap, subst, rules}
use Rattle.addr4.specs.Places.{key_of}
use Rattle.policy_rules.specs.Rules.{Rule}
use Rattle.pass_core.specs.Passed.{Passed, function_at}
use Rattle.pass_core.specs.Turns.{IsWalked}
use Rattle.pass_core.proofs.TurnLemmas.{goes_on, coming_at}
use Rattle.link_change.specs.Turns.{taken_turn}
use Rattle.filter_bank.specs.Outgoing.{outgoing, IsRowFor}
use Rattle.filter_bank.proofs.OutLemmas.{makes_none_out, row_for}
use Rattle.filter_bank.proofs.out_filter.OutFilter.unit.Goals as goal

pub returns-clause-taken : goal.returns-clause-taken
returns-clause-taken g c =
    let form = g.S.Sent.form c.args.form.now in
    let peer = c.args.peer.now in
    let candidates = g.U.Upstream.candidates c.args.upper.now in
    let upper = g.U.Upstream.rows c.args.upper.now in
    let old = c.self.inside.pass in
    let new = c.step_to.new.self in
    let p = c.in-Some.prefix in
    let busy : is_some old.walk ≡ true = search rules in
    let row : IsRowFor peer.number (upper p) c.in_ok-row.row = c.in_ok-row.ensures in
    let before : outgoing form peer c.at-former.result.now p c.in_ok-row.row ≡ outgoing form peer (function_at old p) p (upper p) =
    ap (λ (f : Option (List Rule)). outgoing form peer f p c.in_ok-row.row) c.at-former.ensures
    ∙ row_for form peer (function_at old p) p (upper p) c.in_ok-row.row row in
    let coming : c.coming-latter.result.now ≡ function_at new p = coming_at old new p c.coming-latter.result.now busy c.coming-latter.ensures c.step_to.ensures in
    let after : outgoing form peer c.coming-latter.result.now p c.in_ok-row.row ≡ outgoing form peer (function_at new p) p (upper p) =
    ap (λ (f : Option (List Rule)). outgoing form peer f p c.in_ok-row.row) coming
    ∙ row_for form peer (function_at new p) p (upper p) c.in_ok-row.row row in
    rw c.taken.ensures
    (subst (λ (s : Passed (Option (List Rule))). IsWalked (outgoing form peer) candidates upper s new (taken_turn c.in_ok-sent.sent)) c.self.view_is
    (goes_on (outgoing form peer) (makes_none_out form peer) candidates upper c.in-Some.ensures.covers old new (key_of c.place.result) p
    (outgoing form peer c.at-former.result.now p c.in_ok-row.row) (outgoing form peer c.coming-latter.result.now p c.in_ok-row.row) c.in_ok-sent.sent
    busy c.place.ensures c.step_to.ensures c.in-Some.ensures.next before after c.in_ok-sent.ensures))
