-- The laws of outgoing filters.
use Rattle.std.proofs.Common.{◌≡◌, ◌≢◌, ◌⊎◌, inl, inr, nat_eq, not, ◌&&◌, ◌||◌, Bool, true, false, cond, List, Option, Some, None, IfSome, refl, sym, ap, ◌∙◌, arith}
use Rattle.std.proofs.lemmas.Bool.Decides.{nat_tests}
use Rattle.addr4.specs.Prefixes.{AddressPrefix}
use Rattle.addr4.specs.Hosts.{is_host_prefix}
use Rattle.bgp_attr.specs.Attributes.{Attrs}
use Rattle.bgp_attr.specs.Routes.{Route}
use Rattle.bgp_attr.specs.declared.speaker.Neighbour.{Neighbour}
use Rattle.link_change.proofs.RowLemmas.{same_function}
use Rattle.pass_core.specs.Split.{MakesNone}
use Rattle.policy_rules.specs.Rules.{Rule}
use Rattle.policy_rules.specs.Judged.{KeepsSource}
use Rattle.policy_rules.specs.Verdicts.{judged_by}
use Rattle.policy_rules.proofs.KeptLemmas.{judged_keeps}
use Rattle.policy_rules.proofs.VerdictLemmas.{answer_is_judged}
use Rattle.filter_bank.specs.Outgoing.{Form, is_reflected, is_kept_from, may_go, first_out, let_by, formed, outgoing, ComesFrom, IsRowFor}
use Rattle.filter_bank.specs.OutLaws.{NothingAtFirst, OnlyWhatMayGo, IsFormOf, OnlyFormsOfRows}

pub makes_none_out : {R : Type 0} (form : Form R) (peer : Neighbour) (rules : Option (List Rule)) → MakesNone (outgoing form peer rules)
makes_none_out form peer rules q = refl

bare : {R : Type 0} (form : Form R) (p : AddressPrefix) (may : Bool) → formed form p (cond may None None) ≡ None
bare form p true = refl
bare form p false = refl

pub nothing_by_none : {R : Type 0} (form : Form R) (peer : Neighbour) (p : AddressPrefix) (row : Option Route) → outgoing form peer None p row ≡ None
nothing_by_none form peer p None = refl
nothing_by_none form peer p (Some r) = bare form p (may_go form.v6 peer p r)

pub nothing_at_first : NothingAtFirst
nothing_at_first form peer rules upper = same_function _ _ (λ q. nothing_by_none form peer q (upper q))

-- ---- what may go
both : (x y : Bool) → (not x && y) ≡ true → (x ≡ false) × (y ≡ true)
both true y h = absurd (let e : false ≡ true = h in cc)
both false y h = (refl, h)

reflected : (x y z r : Bool) → (x || (y && z && not r)) ≡ false → (x ≡ false) × (z ≡ true → y ≡ true → r ≡ true)
reflected true y z r h = absurd (let e : true ≡ false = h in cc)
reflected false true true true h = (refl, λ _ _. refl)
reflected false true true false h = absurd (let e : true ≡ false = h in cc)
reflected false true false r h = (refl, λ e _. absurd (let f : false ≡ true = e in cc))
reflected false false z r h = (refl, λ _ e. absurd (let f : false ≡ true = e in cc))

not_kept : (peer : Neighbour) (o : Option Neighbour) (from : Neighbour) → is_kept_from peer o ≡ false → o ≡ Some from
    → (from.number ≢ peer.number) × (peer.internal ≡ true → from.internal ≡ true → is_reflected from peer ≡ true)
not_kept peer o from free is =
    let apart = reflected (nat_eq from.number peer.number) from.internal peer.internal (is_reflected from peer) (sym (ap (is_kept_from peer) is) ∙ free) in
    (λ same. let other = apart.0 in grind (arith, nat_tests), apart.1)

went : (form : Form Attrs) (p : AddressPrefix) (may : Bool) (later : Option Route) (a : Attrs) → formed form p (cond may later None) ≡ Some a → may ≡ true
went form p true later a e = refl
went form p false later a e = absurd (let f : None ≡ Some a = e in cc)

pub only_what_may_go : OnlyWhatMayGo
only_what_may_go form peer rules p r a e =
    let may = both (is_kept_from peer r.from) (is_host_prefix form.v6 p) (went form p (may_go form.v6 peer p r) (let_by rules p (first_out peer r)) a e) in
    record {
      not_back = λ from is. (not_kept peer r.from from may.0 is).0;
      reflected_inside = λ from is. (not_kept peer r.from from may.0 is).1;
      of_hosts = may.1;
    }

-- ---- of what a peer gets the form
none_is : {A : Type 0} {x : A} → ◌≡◌ {A = Option A} None (Some x) → ⊥
none_is e = cc

first_keeps : (peer : Neighbour) (row : Route) → KeepsSource row (first_out peer row)
first_keeps peer row =
    elim peer.internal as (λ b. KeepsSource row (cond b row (record row { med = None }))) [
      | true ↦ record { attrs = refl; igp = refl; from = refl }
      | false ↦ record { attrs = refl; igp = refl; from = refl }
    ]

module _ (form : Form Attrs) (p : AddressPrefix) (row : Route) (sent : Attrs) where
  of_judged : (first : Route) (judged : Option Route) → KeepsSource row first → IfSome judged (KeepsSource first) → formed form p judged ≡ Some sent → IsFormOf form p row sent
  of_judged first None keeps judged e = absurd (none_is e)
  of_judged first (Some r) keeps judged e = (r, e, judged.attrs ∙ keeps.attrs, judged.from ∙ keeps.from)

  of_rules : (first : Route) (rules : Option (List Rule)) → KeepsSource row first → formed form p (let_by rules p first) ≡ Some sent → IsFormOf form p row sent
  of_rules first None keeps e = absurd (none_is e)
  of_rules first (Some rules) keeps e =
      of_judged first (judged_by rules p first) keeps (judged_keeps p rules first (judged_by rules p first) (answer_is_judged rules p first)) e

  of_let : (may : Bool) (later : Option Route) → (formed form p later ≡ Some sent → IsFormOf form p row sent) → formed form p (cond may later None) ≡ Some sent → IsFormOf form p row sent
  of_let true later by e = by e
  of_let false later by e = absurd (none_is e)

pub only_forms_of_rows : OnlyFormsOfRows
only_forms_of_rows form peer rules p row sent e =
    let first = first_out peer row in
    of_let form p row sent (may_go form.v6 peer p row) (let_by rules p first) (of_rules form p row sent first rules (first_keeps peer row)) e

-- ---- what doesn't go back
own_kept : (peer from : Neighbour) → from.number ≡ peer.number → is_kept_from peer (Some from) ≡ true
own_kept peer from same =
    let is : nat_eq from.number peer.number ≡ true = grind (arith, nat_tests) in
    ap (λ b. b || (from.internal && peer.internal && not (is_reflected from peer))) is

kept_back : {R : Type 0} (form : Form R) (p : AddressPrefix) (kept host : Bool) (later : Option Route) → kept ≡ true → formed form p (cond (not kept && host) later None) ≡ None
kept_back form p true host later is = refl
kept_back form p false host later is = absurd (let e : false ≡ true = is in cc)

pub no_row_goes_back : {R : Type 0} (form : Form R) (peer : Neighbour) (rules : Option (List Rule)) (p : AddressPrefix) (row : Option Route)
    → ComesFrom peer.number row → outgoing form peer rules p row ≡ None
no_row_goes_back form peer rules p None from = refl
no_row_goes_back form peer rules p (Some r) from =
    let source = from r refl in
    kept_back form p (is_kept_from peer r.from) (is_host_prefix form.v6 p) (let_by rules p (first_out peer r))
    (ap (is_kept_from peer) source.1 ∙ own_kept peer source.0 source.2)

-- what the peer is sent of what was asked for it is what it is sent of the row
pub row_for : {R : Type 0} (form : Form R) (peer : Neighbour) (rules : Option (List Rule)) (p : AddressPrefix) (row asked : Option Route)
    → IsRowFor peer.number row asked → outgoing form peer rules p asked ≡ outgoing form peer rules p row
row_for form peer rules p row asked (inl same) = ap (outgoing form peer rules p) same
row_for form peer rules p row asked (inr own) = ap (outgoing form peer rules p) own.0 ∙ sym (no_row_goes_back form peer rules p row own.1)
