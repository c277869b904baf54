-- What the filter makes of a route that may be heard may be said to the peer.
use Rattle.std.proofs.Common.{◌≡◌, ◌≢◌, List, Option, Some, None, refl, sym, ap, subst, ◌∙◌}
use Rattle.std.specs.Option.{ForSome}
use Rattle.addr4.specs.Prefixes.{AddressPrefix}
use Rattle.bgp_attr.specs.Attributes.{Attrs}
use Rattle.bgp_attr.specs.Routes.{Route}
use Rattle.bgp_attr.specs.declared.speaker.Neighbour.{Neighbour}
use Rattle.link_change.specs.Rows.{Rows, Candidates, with_row, no_rows}
use Rattle.link_change.specs.Changes.{ComputesOn, IsSent}
use Rattle.link_change.specs.Changes.{Change}
use Rattle.link_change.proofs.RowLemmas.{with_row_here}
use Rattle.policy_rules.specs.Rules.{Rule}
use Rattle.pass_core.specs.Passed.{Passed, function_at}
use Rattle.pass_core.specs.Turns.{passed_rows, IsSentAt, Walks}
use Rattle.filter_bank.specs.Outgoing.{outgoing}
use Rattle.filter_bank.proofs.OutLemmas.{only_forms_of_rows}
use Rattle.peer_out.specs.Forms.{Exit}
use Rattle.peer_out.specs.Changes.{MayBeHeard, IsSender, IsSentOf}
use Rattle.out_chain.specs.Chains.{OutChained, form_of, made_by, RowsMayBeHeard}

-- ---- so it may be said
sayable : (exit : Exit) (peer : Neighbour) (rules : Option (List Rule)) (p : AddressPrefix) (row : Option Route) → IsSender exit.profile exit.me → ForSome row (λ r. MayBeHeard exit.profile r.attrs)
    → ForSome (outgoing (form_of exit) peer rules p row) (IsSentOf exit.profile exit.external p)
sayable exit peer rules p None sender heard a e = absurd (let clash : ◌≡◌ {A = Option Attrs} None (Some a) = e in cc)
sayable exit peer rules p (Some row) sender heard a e =
    let of = only_forms_of_rows (form_of exit) peer rules p row a e in
    record { me = exit.me; row = of.0; sender = sender; heard = subst (MayBeHeard exit.profile) (sym of.2) (heard row refl); sent = of.1 }

-- ---- of a change that the reader took
passed_after : {A B : Type 0} (f : AddressPrefix → Option A → Option B) (change : Change A) (sent : Change B) → change.after ≢ change.before → ComputesOn f change (Some sent)
    → (sent.prefix ≡ change.prefix) × (sent.after ≡ f change.prefix change.after)
passed_after {A} {B} f change sent differs computes =
    let p = change.prefix in
    let upper : Rows A = with_row no_rows p change.before in
    let now : Rows A = with_row upper p change.after in
    let is = computes upper now p (refl, (with_row_here no_rows p change.before, differs), refl) in
    let at : sent.prefix ≡ p = is.0 in
    let before : Rows B = λ q. f q (upper q) in
    let made : f p (now p) ≡ with_row before sent.prefix sent.after p = ap (λ (r : Rows B). r p) is.2 in
    let set : with_row before sent.prefix sent.after p ≡ sent.after = ap (λ q. with_row before q sent.after p) at ∙ with_row_here before p sent.after in
    (at, sym set ∙ sym made ∙ ap (f p) (with_row_here upper p change.after))

pub passed_sayable : (c : OutChained) (change : Change Route) (sent : Change Attrs) → IsSender c.exit.profile c.exit.me → change.after ≢ change.before → ForSome change.after (λ r. MayBeHeard c.exit.profile r.attrs)
    → ComputesOn (λ q row. made_by c (function_at c.filter q) q row) change (Some sent) → ForSome sent.after (IsSentOf c.exit.profile c.exit.external sent.prefix)
passed_sayable c change sent sender differs heard computes =
    let is = passed_after (λ q row. made_by c (function_at c.filter q) q row) change sent differs computes in
    let said = sayable c.exit c.peer (function_at c.filter change.prefix) change.prefix change.after sender heard in
    subst (λ p. ForSome sent.after (IsSentOf c.exit.profile c.exit.external p)) (sym is.0)
    (subst (λ o. ForSome o (IsSentOf c.exit.profile c.exit.external change.prefix)) (sym is.1) said)

-- ---- of a turn of the walk
walked_at : (c : OutChained) (f : Passed (Option (List Rule))) (upper : Rows Route) (next : Option AddressPrefix) (sent : Change Attrs)
    → IsSentAt next (passed_rows (made_by c) c.filter upper) (passed_rows (made_by c) f upper) (Some sent) → sent.after ≡ made_by c (function_at f sent.prefix) sent.prefix (upper sent.prefix)
walked_at c f upper None sent is = absurd (let e = is.0 in cc)
walked_at c f upper (Some p) sent is =
    sym (ap (λ (r : Rows Attrs). r sent.prefix) is.2 ∙ with_row_here (passed_rows (made_by c) c.filter upper) sent.prefix sent.after)

pub walked_sayable : (c : OutChained) (f : Passed (Option (List Rule))) (candidates : Candidates) (upper : Rows Route) (sent : Change Attrs) → IsSender c.exit.profile c.exit.me → RowsMayBeHeard c.exit.profile upper
    → Walks (made_by c) candidates upper c.filter f (Some sent) → ForSome sent.after (IsSentOf c.exit.profile c.exit.external sent.prefix)
walked_sayable c f candidates upper sent sender heard walks =
    let p = sent.prefix in
    let is = walked_at c f upper walks.next sent walks.changes in
    subst (λ o. ForSome o (IsSentOf c.exit.profile c.exit.external p)) (sym is)
    (sayable c.exit c.peer (function_at f p) p (upper p) sender (heard p))

-- ---- of the rows below, where a change leads on those above
pub row_sayable_after : (c : OutChained) (below : Rows Attrs) (upper now : Rows Route) (change : Change Route) (sent : Change Attrs) → IsSender c.exit.profile c.exit.me → ForSome change.after (λ r. MayBeHeard c.exit.profile r.attrs)
    → IsSent upper now change.prefix (Some change) → IsSent below (passed_rows (made_by c) c.filter now) change.prefix (Some sent) → ForSome sent.after (IsSentOf c.exit.profile c.exit.external sent.prefix)
row_sayable_after c below upper now change sent sender heard reads filters =
    let p = change.prefix in
    let at : sent.prefix ≡ p = filters.0 in
    let row : now p ≡ change.after = ap (λ (r : Rows Route). r p) reads.2 ∙ with_row_here upper p change.after in
    let set : with_row below sent.prefix sent.after p ≡ sent.after = ap (λ q. with_row below q sent.after p) at ∙ with_row_here below p sent.after in
    let after : sent.after ≡ made_by c (function_at c.filter p) p (now p) = sym set ∙ sym (ap (λ (r : Rows Attrs). r p) filters.2) in
    let said = sayable c.exit c.peer (function_at c.filter p) p (now p) sender (subst (λ o. ForSome o (λ (r : Route). MayBeHeard c.exit.profile r.attrs)) (sym row) heard) in
    subst (λ q. ForSome sent.after (IsSentOf c.exit.profile c.exit.external q)) (sym at)
    (subst (λ o. ForSome o (IsSentOf c.exit.profile c.exit.external p)) (sym after) said)
