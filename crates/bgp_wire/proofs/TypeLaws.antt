-- The types that are recognized, and the others.
use Rattle.std.proofs.Common.{◌≡◌, ℕ, zero, suc, ◌<◌, Bool, true, false, cond, eqb, ltb, not, ◌||◌, ◌&&◌, Option, Some, None, Ok, Err, refl, sym, ap, ◌∙◌, arith}
use Rattle.std.proofs.lemmas.Bool.{ltb-true, ltb-false, lt-ltb, le-ltb, eqb-true, eqb-false}
use Rattle.bgp_attr.specs.declared.speaker.Profile.{Profile}
use Rattle.bgp_attr.specs.declared.unrecognized.Unrecognized.{Unrecognized}
use Rattle.bgp_wire.specs.declared.attributes.Size.TheVariants.{Any, Fixed, Fours}
use Rattle.bgp_wire.specs.declared.attributes.Verdict.TheVariants.{Keep, Discard}
use Rattle.bgp_wire.specs.Faults.{notice}
use Rattle.bgp_wire.specs.Attributes.{Attribute, is_optional, is_transitive, is_old_form, is_reflection, is_multiprotocol, rule, reflection_rule, rule_of, judge_unrecognized}
use Rattle.bgp_wire.specs.Routes.{is_unrecognized}
use Rattle.bgp_wire.proofs.TestLemmas.{unequal, not_both, or_false_left, or_false_right, not_true, or_true, and_true, and_right}

-- a type that is kept as it came
abbrev pub GoodType : Profile → Unrecognized → Type 0
GoodType p u = (is_unrecognized p u.kind ≡ true) × (is_old_form p u.kind ≡ false)

-- an unrecognized type is none of the recognized ones
pub other_type : (p : Profile) (kind k : ℕ) → is_unrecognized p kind ≡ true → is_unrecognized p k ≡ false → eqb kind k ≡ false
other_type p kind k is known = unequal kind k (λ e. not_both (is_unrecognized p k) (ap (is_unrecognized p) (sym e) ∙ is) known)

-- the types that only some speakers recognize: a route reflector's, and those of IPv6
abbrev pub is_special : Profile → ℕ → Bool
is_special p kind = is_reflection p kind || is_multiprotocol p kind

-- and none of these
no_special : (p : Profile) (kind : ℕ) → is_unrecognized p kind ≡ true → is_special p kind ≡ false
no_special p kind is = by_zero (eqb kind 0) refl is
  where
    at_zero : (a b : Bool) → ((a && false) || (b && false)) ≡ false
    at_zero true true = refl
    at_zero true false = refl
    at_zero false true = refl
    at_zero false false = refl

    by_zero : (b : Bool) → eqb kind 0 ≡ b → (b || (ltb 7 kind && not (is_special p kind))) ≡ true → is_special p kind ≡ false
    by_zero true e is = ap (is_special p) (eqb-true _ _ e) ∙ at_zero p.reflect p.v6
    by_zero false e is = not_true (is_special p kind) (and_right (ltb 7 kind) (not (is_special p kind)) is)

pub no_reflection : (p : Profile) (kind : ℕ) → is_unrecognized p kind ≡ true → is_reflection p kind ≡ false
no_reflection p kind is = or_false_left (is_reflection p kind) (is_multiprotocol p kind) (no_special p kind is)

pub no_multiprotocol : (p : Profile) (kind : ℕ) → is_unrecognized p kind ≡ true → is_multiprotocol p kind ≡ false
no_multiprotocol p kind is = or_false_right (is_reflection p kind) (is_multiprotocol p kind) (no_special p kind is)

-- the others are 1 to 7, and those
pub recognized_kind : (p : Profile) (kind : ℕ) → is_unrecognized p kind ≡ false → ((ltb 0 kind && ltb kind 8) || is_special p kind) ≡ true
recognized_kind p kind known = by_test (is_special p kind) (or_false_right (eqb kind 0) (ltb 7 kind && not (is_special p kind)) known)
  where
    some : 0 < kind
    some = omega (arith, eqb-false _ _ (or_false_left (eqb kind 0) (ltb 7 kind && not (is_special p kind)) known))

    by_test : (r : Bool) → (ltb 7 kind && not r) ≡ false → ((ltb 0 kind && ltb kind 8) || r) ≡ true
    by_test true e = or_true (ltb 0 kind && ltb kind 8)
    by_test false e = λ i. (lt-ltb 0 kind some i && lt-ltb kind 8 (omega (arith, ltb-false 7 kind (and_true (ltb 7 kind) e))) i) || false

reflection_above : (p : Profile) (kind : ℕ) → is_reflection p kind ≡ true → 8 < kind
reflection_above p kind is = by_test (eqb kind 9) refl (and_right p.reflect (eqb kind 9 || eqb kind 10) is)
  where
    by_test : (b : Bool) → eqb kind 9 ≡ b → (b || eqb kind 10) ≡ true → 8 < kind
    by_test true e is = omega (arith, eqb-true _ _ e)
    by_test false e is = omega (arith, eqb-true _ _ is)

multiprotocol_above : (p : Profile) (kind : ℕ) → is_multiprotocol p kind ≡ true → 13 < kind
multiprotocol_above p kind is = by_test (eqb kind 14) refl (and_right p.v6 (eqb kind 14 || eqb kind 15) is)
  where
    by_test : (b : Bool) → eqb kind 14 ≡ b → (b || eqb kind 15) ≡ true → 13 < kind
    by_test true e is = omega (arith, eqb-true _ _ e)
    by_test false e is = omega (arith, eqb-true _ _ is)

reflection_below : (p : Profile) (kind : ℕ) → is_reflection p kind ≡ true → kind < 11
reflection_below p kind is = by_test (eqb kind 9) refl (and_right p.reflect (eqb kind 9 || eqb kind 10) is)
  where
    by_test : (b : Bool) → eqb kind 9 ≡ b → (b || eqb kind 10) ≡ true → kind < 11
    by_test true e is = omega (arith, eqb-true _ _ e)
    by_test false e is = omega (arith, eqb-true _ _ is)

-- no type is of both
reflection_alone : (p : Profile) (kind : ℕ) → is_reflection p kind ≡ true → is_multiprotocol p kind ≡ false
reflection_alone p kind is = by_test (is_multiprotocol p kind) refl
  where
    by_test : (b : Bool) → is_multiprotocol p kind ≡ b → is_multiprotocol p kind ≡ false
    by_test true e = absurd (omega (arith, multiprotocol_above p kind e, reflection_below p kind is))
    by_test false e = e

behind_seven : (p : Profile) (external : Bool) (kind : ℕ) → ((k : ℕ) → 0 < k → k < 8 → eqb kind k ≡ false) → rule_of p external kind ≡ cond (is_multiprotocol p kind) (rule true false Any) (reflection_rule p external kind)
unfolding rule_of
behind_seven p external kind apart =
    rw (apart 1 (omega arith) (omega arith), apart 2 (omega arith) (omega arith), apart 3 (omega arith) (omega arith), apart 4 (omega arith) (omega arith), apart 5 (omega arith) (omega arith), apart 6 (omega arith) (omega arith), apart 7 (omega arith) (omega arith)) refl

known_below : (p : Profile) (k : ℕ) → 0 < k → k < 8 → is_unrecognized p k ≡ false
known_below p k some most = λ i. eqb_zero i || (below i && not (is_special p k))
  where
    eqb_zero : eqb k 0 ≡ false
    eqb_zero = unequal k 0 (λ e. absurd (omega arith))

    below : ltb 7 k ≡ false
    below = le-ltb 7 k (omega arith)

pub no_rule : (p : Profile) (external : Bool) (kind : ℕ) → is_unrecognized p kind ≡ true → rule_of p external kind ≡ None
no_rule p external kind is =
    behind_seven p external kind (λ k some most. other_type p kind k is (known_below p k some most))
    ∙ ap (λ b. cond b (rule true false Any) (reflection_rule p external kind)) (no_multiprotocol p kind is)
    ∙ ap (λ b. cond (not b || external) None (cond (eqb kind 9) (rule true false (Fixed 4)) (rule true false Fours))) (no_reflection p kind is)

-- from an external peer a route reflector's types are unrecognized
pub no_rule_outside : (p : Profile) (kind : ℕ) → is_reflection p kind ≡ true → rule_of p true kind ≡ None
no_rule_outside p kind is =
    let above = reflection_above p kind is in
    behind_seven p true kind (λ k some most. unequal kind k (λ e. absurd (omega arith)))
    ∙ ap (λ b. cond b (rule true false Any) (reflection_rule p true kind)) (reflection_alone p kind is)
    ∙ ap (λ b. cond (not b || true) None (cond (eqb kind 9) (rule true false (Fixed 4)) (rule true false Fours))) is

some_or_none : {A : Type 0} (o : Option A) (x : A) → o ≡ Some x → o ≡ None → ⊥
some_or_none None x e f = absurd (cc)
some_or_none (Some y) x e f = absurd (cc)

rule_there : (p : Profile) (external : Bool) (kind : ℕ) → 0 < kind → kind < 8 → rule_of p external kind ≡ None → ⊥
unfolding rule_of
rule_there p external zero some most e = absurd (omega arith)
rule_there p external (suc zero) some most e = absurd (some_or_none (rule_of p external 1) _ refl e)
rule_there p external (suc (suc zero)) some most e = absurd (some_or_none (rule_of p external 2) _ refl e)
rule_there p external (suc (suc (suc zero))) some most e = absurd (some_or_none (rule_of p external 3) _ refl e)
rule_there p external (suc (suc (suc (suc zero)))) some most e = absurd (some_or_none (rule_of p external 4) _ refl e)
rule_there p external (suc (suc (suc (suc (suc zero))))) some most e = absurd (some_or_none (rule_of p external 5) _ refl e)
rule_there p external (suc (suc (suc (suc (suc (suc zero)))))) some most e = absurd (some_or_none (rule_of p external 6) _ refl e)
rule_there p external (suc (suc (suc (suc (suc (suc (suc zero))))))) some most e = absurd (some_or_none (rule_of p external 7) _ refl e)
rule_there p external (suc (suc (suc (suc (suc (suc (suc (suc n)))))))) some most e = absurd (omega arith)

-- MP_REACH_NLRI and MP_UNREACH_NLRI, where they are recognized
pub rule_spoken : (p : Profile) (external : Bool) (kind : ℕ) → is_multiprotocol p kind ≡ true → rule_of p external kind ≡ rule true false Any
rule_spoken p external kind is =
    let above = multiprotocol_above p kind is in
    behind_seven p external kind (λ k some most. unequal kind k (λ e. absurd (omega arith)))
    ∙ ap (λ b. cond b (rule true false Any) (reflection_rule p external kind)) is

-- an unrecognized attribute that is kept
pub kept_unrecognized : (p : Profile) (a : Attribute) → judge_unrecognized p a ≡ Ok Keep → (is_old_form p a.kind ≡ false) × (is_reflection p a.kind ≡ false)
kept_unrecognized p a judged = by_tests (is_optional a) (is_transitive a) (is_old_form p a.kind) (is_reflection p a.kind) judged
  where
    by_tests : (o t old r : Bool) → cond (not o) (Err (notice 3 2 a.octets)) (cond (t && not (old || r)) (Ok Keep) (Ok Discard)) ≡ Ok Keep → (old ≡ false) × (r ≡ false)
    by_tests true true false false e = (refl, refl)
    by_tests true true true r e = absurd (cc)
    by_tests true true false true e = absurd (cc)
    by_tests true false old r e = absurd (cc)
    by_tests false t old r e = absurd (cc)

pub kept_type : (p : Profile) (external : Bool) (a : Attribute) → rule_of p external a.kind ≡ None → judge_unrecognized p a ≡ Ok Keep → is_unrecognized p a.kind ≡ true
kept_type p external a none judged = by_type (is_unrecognized p a.kind) refl
  where
    among : (b c r : Bool) → ((b && c) || r) ≡ true → r ≡ false → (b ≡ true) × (c ≡ true)
    among true true r e f = (refl, refl)
    among true false r e f = absurd (not_both r e f)
    among false c r e f = absurd (not_both r e f)

    spoken : (b : Bool) → is_multiprotocol p a.kind ≡ b → is_multiprotocol p a.kind ≡ false
    spoken true e = absurd (some_or_none (rule_of p external a.kind) _ (rule_spoken p external a.kind e) none)
    spoken false e = e

    by_type : (b : Bool) → is_unrecognized p a.kind ≡ b → is_unrecognized p a.kind ≡ true
    by_type true is = is
    by_type false is =
        let neither : is_special p a.kind ≡ false = λ i. (kept_unrecognized p a judged).1 i || spoken (is_multiprotocol p a.kind) refl i in
        let t = among (ltb 0 a.kind) (ltb a.kind 8) (is_special p a.kind) (recognized_kind p a.kind is) neither in
        absurd (rule_there p external a.kind (ltb-true _ _ t.0) (ltb-true _ _ t.1) none)
