-- What the kept MP_REACH_NLRI and MP_UNREACH_NLRI say is there, and is one alone.
use Rattle.std.proofs.Common.{◌≡◌, ℕ, Bool, true, false, cond, eqb, ◌||◌, ◌&&◌, List, [], ◌∷◌, Option, Some, None, Result, Ok, Err, refl, sym, ap, subst, ◌∙◌}
use Rattle.std.specs.Prelude.{option_and_then}
use Rattle.std.specs.Result.{result_ok}
use Rattle.addr4.specs.Prefixes.{AddressPrefix}
use Rattle.bgp_attr.specs.declared.speaker.Profile.{Profile}
use Rattle.bgp_wire.specs.declared.attributes.Verdict.{Verdict}
use Rattle.bgp_wire.specs.declared.multiprotocol.Reach.{Reach}
use Rattle.bgp_wire.specs.declared.notice.Notice.{Notice}
use Rattle.bgp_wire.specs.Faults.{err_of}
use Rattle.bgp_wire.specs.Prefixes.{prefixes_at}
use Rattle.bgp_wire.specs.Multiprotocol.{IsReach, IsUnreach, bad_value, if_ipv6, reach_behind, reach_at, unreach_at}
use Rattle.bgp_wire.specs.Attributes.{Attribute, AreAttributes, kept_by, value_fault}
use Rattle.bgp_wire.specs.Routes.{kept_of, multiprotocol_of, Says}
use Rattle.bgp_wire.specs.Updates.{reach_in, unreach_in}
use Rattle.bgp_wire.proofs.MultiprotocolLaws.{ReadsBehind, says_takes, says_same, reach_back, unreach_back}
use Rattle.bgp_wire.proofs.RouteLaws.{kept_are, good_of}
use Rattle.bgp_wire.proofs.TypeLaws.{rule_spoken}

-- what stands behind the families, as one of both is read
abbrev Reader : Type 0 → Type 0
Reader A = Notice → List ℕ → Result A Notice

abbrev read_by : {A : Type 0} → Reader A → Attribute → Result (Option A) Notice
read_by read a = if_ipv6 (bad_value a.octets) (read (bad_value a.octets)) a.value

abbrev said_by : {A : Type 0} → Reader A → Attribute → Option A
said_by read a = option_and_then (λ x. x) (result_ok (read_by read a))

-- a kept one has no fault
abbrev IsRead : {A : Type 0} → Bool → Option Attribute → Reader A → Type 0
IsRead {A = A} v6 o read = (a : Attribute) → v6 ≡ true → o ≡ Some a → (x : Option A) × (read_by read a ≡ Ok x)

says_made : {A : Type 0} (v6 : Bool) (o : Option Attribute) (read : Reader A) (Is : List ℕ → A → Type 0) → ((bad : Notice) → ReadsBehind (read bad) Is) → IsRead v6 o read → Says Is (cond v6 o None) (option_and_then (said_by read) (cond v6 o None))
says_made false o read Is back is = refl
says_made true None read Is back is = refl
says_made true (Some a) read Is back is =
    let x = is a refl refl in
    let bad = bad_value a.octets in
    subst (Says Is (Some a)) (sym (ap (λ r. option_and_then (λ x. x) (result_ok r)) x.1)) (says_takes bad (read bad) Is (back bad) a x.0 x.1)

says_only : {A : Type 0} (v6 : Bool) (o : Option Attribute) (read : Reader A) (Is : List ℕ → A → Type 0) → ((bad : Notice) → ReadsBehind (read bad) Is) → IsRead v6 o read → (x : Option A) → Says Is (cond v6 o None) x → option_and_then (said_by read) (cond v6 o None) ≡ x
says_only false o read Is back is x says = sym says
says_only true None read Is back is x says = sym says
says_only true (Some a) read Is back is x says =
    let y = is a refl refl in
    let bad = bad_value a.octets in
    ap (λ r. option_and_then (λ x. x) (result_ok r)) y.1 ∙ says_same bad (read bad) Is (back bad) a y.0 x y.1 says

no_fault : {A : Type 0} (r : Result A Notice) → err_of r ≡ None → (x : A) × (r ≡ Ok x)
no_fault (Ok x) e = (x, refl)
no_fault (Err n) e = absurd (cc)

spoken : (v6 b : Bool) → v6 ≡ true → b ≡ true → (v6 && b) ≡ true
spoken v6 b e f = λ i. e i && f i

module _ (p : Profile) (external : Bool) (bytes : List ℕ) (steps : List (Attribute × Verdict)) (runs : Bool) (are : AreAttributes p external [] bytes steps runs) where
  no_value_fault : (kind : ℕ) → (eqb kind 14 || eqb kind 15) ≡ true → (a : Attribute) → p.v6 ≡ true → kept_of kind (kept_by steps runs).0 ≡ Some a → value_fault p.as4 (record a { kind = kind }) ≡ None
  no_value_fault kind two a v6 found =
      let k = kept_are p external [] bytes steps runs are kind a found in
      let at = ap (λ n. eqb n 14 || eqb n 15) k.is ∙ two in
      let good = good_of p external a _ k.kept (rule_spoken p external a.kind (spoken p.v6 (eqb a.kind 14 || eqb a.kind 15) v6 at)) in
      sym (ap (λ n. value_fault p.as4 (record a { kind = n })) k.is) ∙ good.value

  reach_read : IsRead p.v6 (kept_of 14 (kept_by steps runs).0) reach_behind
  unfolding value_fault
  reach_read a v6 found = no_fault (reach_at (bad_value a.octets) a.value) (no_value_fault 14 refl a v6 found)

  unreach_read : IsRead p.v6 (kept_of 15 (kept_by steps runs).0) (prefixes_at true)
  unfolding value_fault
  unreach_read a v6 found = no_fault (unreach_at (bad_value a.octets) a.value) (no_value_fault 15 refl a v6 found)

  pub says_reach : Says IsReach (multiprotocol_of p 14 (kept_by steps runs).0) (reach_in p (kept_by steps runs).0)
  says_reach = says_made p.v6 (kept_of 14 (kept_by steps runs).0) reach_behind IsReach reach_back reach_read

  pub says_unreach : Says IsUnreach (multiprotocol_of p 15 (kept_by steps runs).0) (unreach_in p (kept_by steps runs).0)
  says_unreach = says_made p.v6 (kept_of 15 (kept_by steps runs).0) (prefixes_at true) IsUnreach unreach_back unreach_read

  pub one_reach : (r : Option Reach) → Says IsReach (multiprotocol_of p 14 (kept_by steps runs).0) r → reach_in p (kept_by steps runs).0 ≡ r
  one_reach r says = says_only p.v6 (kept_of 14 (kept_by steps runs).0) reach_behind IsReach reach_back reach_read r says

  pub one_unreach : (ps : Option (List AddressPrefix)) → Says IsUnreach (multiprotocol_of p 15 (kept_by steps runs).0) ps → unreach_in p (kept_by steps runs).0 ≡ ps
  one_unreach ps says = says_only p.v6 (kept_of 15 (kept_by steps runs).0) (prefixes_at true) IsUnreach unreach_back unreach_read ps says
