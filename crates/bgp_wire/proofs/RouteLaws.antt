-- What the kept attributes say of a route is there, and is one alone.
use Rattle.std.proofs.Common.{◌≡◌, ℕ, zero, suc, ◌+◌, ◌≤◌, ◌<◌, Bool, true, false, cond, eqb, ltb, not, ◌||◌, ◌&&◌, List, [], ◌∷◌, ◌++◌, length, get_or, Option, Some, None, Result, Ok, Err, refl, sym, ap, subst, ◌∙◌, inl, inr, arith}
use Rattle.std.specs.Prelude.{is_some, option_map, IsSomeAnd, insert, position, unwrap_or}
use Rattle.std.specs.List.{list_any, position_or_len}
use Rattle.std.proofs.lemmas.Bool.{ltb-false, ltb-true, eqb-true, eqb-false, eq-eqb, cases_lt}
use Rattle.std.proofs.lemmas.List.Sums.{prefix_len-le-length}
use Rattle.byteorder.specs.Endian.{big_number}
use Rattle.bgp_attr.specs.Attributes.{Attrs}
use Rattle.bgp_attr.specs.declared.attrs.Origin.{Origin}
use Rattle.bgp_attr.specs.declared.attrs.Origin.TheVariants.{Igp, Egp, Incomplete}
use Rattle.bgp_attr.specs.declared.path.Segment.{Segment}
use Rattle.bgp_attr.specs.declared.speaker.Profile.{Profile}
use Rattle.bgp_attr.specs.declared.unrecognized.Unrecognized.{Unrecognized}
use Rattle.bgp_wire.specs.declared.attributes.Size.TheVariants.{Any, Fixed}
use Rattle.bgp_wire.specs.declared.attributes.TypeRule.{TypeRule}
use Rattle.bgp_wire.specs.declared.attributes.Verdict.{Verdict}
use Rattle.bgp_wire.specs.declared.attributes.Verdict.TheVariants.{Keep, Discard, Withdraw}
use Rattle.bgp_wire.specs.declared.notice.Notice.{Notice}
use Rattle.bgp_wire.specs.Faults.{notice, err_of}
use Rattle.bgp_wire.specs.Paths.{width_of, IsPath, path_at}
use Rattle.bgp_wire.specs.Attributes.{Attribute, rule_of, has_wrong_flags, has_wrong_size, milder, value_fault, judge_value, judge_recognized, judge_by, judgement, is_revised, AreAttributes, kept_by}
use Rattle.bgp_wire.specs.Routes.{kept_of, number_of, code_of_origin, aggregator_of, clusters_of, is_unrecognized, AscendsFrom, value_of, AreUnrecognized, AreAttrs}
use Rattle.bgp_wire.specs.Found.{placed}
use Rattle.bgp_wire.proofs.TestLemmas.{or_false_left, or_false_right, unequal}
use Rattle.bgp_wire.proofs.ResultLemmas.{same_ok, not_both}
use Rattle.bgp_wire.proofs.PathLaws.{path_takes, path_again}

pub some_same : {A : Type 0} (x y : A) → ◌≡◌ {A = Option A} (Some x) (Some y) → x ≡ y
some_same x y e = cc

not_some : {A : Type 0} (x : A) → ◌≡◌ {A = Option A} None (Some x) → ⊥
not_some x e = absurd (cc)

-- ---- unrecognized attributes

-- nothing stands under a type below the first
pub value_below : (n kind : ℕ) (us : List Unrecognized) → AscendsFrom n us → kind < n → value_of kind us ≡ None
value_below n kind [] order lt = refl
value_below n kind (u ∷ us) order lt =
    let apart : eqb u.kind kind ≡ false = unequal u.kind kind (λ e. absurd (omega (arith, order.0))) in
    ap (λ b. cond b (Some u.value) (value_of kind us)) apart ∙ value_below (suc u.kind) kind us order.1 (omega (arith, order.0))

at_first : (u : Unrecognized) (us : List Unrecognized) → value_of u.kind (u ∷ us) ≡ Some u.value
at_first u us = ap (λ b. cond b (Some u.value) (value_of u.kind us)) (eq-eqb u.kind u.kind refl)

pub past_first : (kind : ℕ) (u : Unrecognized) (us : List Unrecognized) → eqb u.kind kind ≡ false → value_of kind (u ∷ us) ≡ value_of kind us
past_first kind u us apart = ap (λ b. cond b (Some u.value) (value_of kind us)) apart

-- ascending attributes with the same values are the same
pub one_order : (n m : ℕ) (us vs : List Unrecognized) → AscendsFrom n us → AscendsFrom m vs → ((kind : ℕ) → value_of kind us ≡ value_of kind vs) → us ≡ vs
one_order n m [] [] a b same = refl
one_order n m [] (v ∷ vs) a b same = absurd (not_some v.value (same v.kind ∙ at_first v vs))
one_order n m (u ∷ us) [] a b same = absurd (not_some u.value (sym (same u.kind) ∙ at_first u us))
one_order n m (u ∷ us) (v ∷ vs) a b same = elim (cases_lt u.kind v.kind) [
  | inl less ↦ absurd (not_some u.value (sym (value_below v.kind u.kind (v ∷ vs) (omega arith, b.1) less) ∙ sym (same u.kind) ∙ at_first u us))
  | inr le ↦ elim (cases_lt v.kind u.kind) [
    | inl less ↦ absurd (not_some v.value (sym (value_below u.kind v.kind (u ∷ us) (omega arith, a.1) less) ∙ same v.kind ∙ at_first v vs))
    | inr ge ↦
        let kinds : u.kind ≡ v.kind = omega arith in
        let values : u.value ≡ v.value = some_same u.value v.value (sym (at_first u us) ∙ same u.kind ∙ ap (λ k. value_of k (v ∷ vs)) kinds ∙ at_first v vs) in
        let later = one_order (suc u.kind) (suc v.kind) us vs a.1 b.1 (tails kinds) in
        λ i. record { kind = kinds i; value = values i } ∷ later i
  ]
]
  where
    tails : u.kind ≡ v.kind → (kind : ℕ) → value_of kind us ≡ value_of kind vs
    tails kinds kind = elim (eqb u.kind kind) as (λ t. eqb u.kind kind ≡ t → value_of kind us ≡ value_of kind vs) [
      | true ↦ λ is.
          let at : u.kind ≡ kind = eqb-true _ _ is in
          value_below (suc u.kind) kind us a.1 (omega arith) ∙ sym (value_below (suc v.kind) kind vs b.1 (omega (arith, at, kinds)))
      | false ↦ λ is. sym (past_first kind u us is) ∙ same kind ∙ past_first kind v vs (ap (λ k. eqb k kind) (sym kinds) ∙ is)
    ] refl

-- the place of the first above it, or the end
placed_above : (u : Unrecognized) (us : List Unrecognized) → insert us (position_or_len (λ v. ltb u.kind v.kind) us) u ≡ placed u us
placed_above u [] = refl
placed_above u (v ∷ vs) = by_test (ltb u.kind v.kind) refl (placed_above u vs)
  where
    by_test : (b : Bool) → ltb u.kind v.kind ≡ b → insert vs (position_or_len (λ v. ltb u.kind v.kind) vs) u ≡ placed u vs → insert (v ∷ vs) (cond (not (ltb u.kind v.kind)) (1 + position_or_len (λ v. ltb u.kind v.kind) vs) 0) u ≡ cond (ltb u.kind v.kind) (u ∷ v ∷ vs) (v ∷ placed u vs)
    by_test true is later = ap (λ b. insert (v ∷ vs) (cond (not b) (1 + position_or_len (λ v. ltb u.kind v.kind) vs) 0) u) is ∙ sym (ap (λ b. cond b (u ∷ v ∷ vs) (v ∷ placed u vs)) is)
    by_test false is later =
        let next : 1 + position_or_len (λ v. ltb u.kind v.kind) vs ≡ suc (position_or_len (λ v. ltb u.kind v.kind) vs) = omega arith in
        ap (λ b. insert (v ∷ vs) (cond (not b) (1 + position_or_len (λ v. ltb u.kind v.kind) vs) 0) u) is ∙ ap (λ n. insert (v ∷ vs) n u) next ∙ ap (λ ws. v ∷ ws) later ∙ sym (ap (λ b. cond b (u ∷ v ∷ vs) (v ∷ placed u vs)) is)

pub placed_at : (u : Unrecognized) (us : List Unrecognized) → insert us (unwrap_or (position (λ v. ltb u.kind v.kind) us) (length us)) u ≡ placed u us
placed_at u us = by_test (ltb at (length us)) refl
  where
    at : ℕ
    at = position_or_len (λ v. ltb u.kind v.kind) us

    by_test : (b : Bool) → ltb at (length us) ≡ b → insert us (unwrap_or (cond b (Some at) None) (length us)) u ≡ placed u us
    by_test true is = placed_above u us
    by_test false is = let same : length us ≡ at = omega (arith, ltb-false _ _ is, prefix_len-le-length (λ v. not (ltb u.kind v.kind)) us) in ap (λ n. insert us n u) same ∙ placed_above u us

pub placed_ascends : (n : ℕ) (u : Unrecognized) (us : List Unrecognized) → AscendsFrom n us → n ≤ u.kind → value_of u.kind us ≡ None → AscendsFrom n (placed u us)
placed_ascends n u [] order le new = (le, tt)
placed_ascends n u (v ∷ vs) order le new = elim (ltb u.kind v.kind) as (λ b. ltb u.kind v.kind ≡ b → AscendsFrom n (cond b (u ∷ v ∷ vs) (v ∷ placed u vs))) [
  | true ↦ λ less. (le, (omega (arith, ltb-true _ _ less), order.1))
  | false ↦ λ more.
      let apart : v.kind ≡ u.kind → ⊥ = λ e. not_some v.value (sym new ∙ ap (λ b. cond b (Some v.value) (value_of u.kind vs)) (eq-eqb _ _ e)) in
      let t = unequal v.kind u.kind apart in
      let above : suc v.kind ≤ u.kind = omega (arith, ltb-false _ _ more, eqb-false _ _ t) in
      (order.0, placed_ascends (suc v.kind) u vs order.1 above (sym (past_first u.kind v vs t) ∙ new))
] refl

pub placed_value : (kind : ℕ) (u : Unrecognized) (us : List Unrecognized) → value_of u.kind us ≡ None → value_of kind (placed u us) ≡ cond (eqb u.kind kind) (Some u.value) (value_of kind us)
placed_value kind u [] new = refl
placed_value kind u (v ∷ vs) new = elim (ltb u.kind v.kind) as (λ b. value_of kind (cond b (u ∷ v ∷ vs) (v ∷ placed u vs)) ≡ cond (eqb u.kind kind) (Some u.value) (value_of kind (v ∷ vs))) [
  | true ↦ refl
  | false ↦
      let apart : v.kind ≡ u.kind → ⊥ = λ e. not_some v.value (sym new ∙ ap (λ b. cond b (Some v.value) (value_of u.kind vs)) (eq-eqb _ _ e)) in
      let t = unequal v.kind u.kind apart in
      let rest = placed_value kind u vs (sym (past_first u.kind v vs t) ∙ new) in
      elim (eqb v.kind kind) as (λ b. eqb v.kind kind ≡ b → cond b (Some v.value) (value_of kind (placed u vs)) ≡ cond (eqb u.kind kind) (Some u.value) (cond b (Some v.value) (value_of kind vs))) [
        | true ↦ λ is. sym (ap (λ b. cond b (Some u.value) (Some v.value)) (unequal u.kind kind (λ e. apart (eqb-true _ _ is ∙ sym e))))
        | false ↦ λ is. rest
      ] refl
]

-- kept attributes, and one more of another type
abbrev pub HasOneMore : Attribute → List Attribute → List Attribute → Type 0
HasOneMore a kept more = (kind : ℕ) → kept_of kind more ≡ cond (eqb a.kind kind) (Some a) (kept_of kind kept)

pub nothing_kept : (p : Profile) → AreUnrecognized p [] []
nothing_kept p = record { order = tt; values = λ kind. by_test (is_unrecognized p kind) }
  where
    by_test : (b : Bool) → None ≡ cond b (option_map (λ (a : Attribute). a.value) None) None
    by_test true = refl
    by_test false = refl

pub recognized_more : (p : Profile) (a : Attribute) (kept more : List Attribute) (us : List Unrecognized) → is_unrecognized p a.kind ≡ false → HasOneMore a kept more → AreUnrecognized p kept us → AreUnrecognized p more us
recognized_more p a kept more us known adds are = record { order = are.order; values = λ kind. at kind (eqb a.kind kind) refl }
  where
    at : (kind : ℕ) (b : Bool) → eqb a.kind kind ≡ b → value_of kind us ≡ cond (is_unrecognized p kind) (option_map (λ a. a.value) (kept_of kind more)) None
    at kind true is =
        let none : is_unrecognized p kind ≡ false = ap (is_unrecognized p) (sym (eqb-true _ _ is)) ∙ known in
        are.values kind ∙ ap (λ b. cond b (option_map (λ a. a.value) (kept_of kind kept)) None) none ∙ sym (ap (λ b. cond b (option_map (λ a. a.value) (kept_of kind more)) None) none)
    at kind false is = are.values kind ∙ ap (λ o. cond (is_unrecognized p kind) (option_map (λ a. a.value) o) None) (sym (adds kind ∙ ap (λ b. cond b (Some a) (kept_of kind kept)) is))

pub unrecognized_more : (p : Profile) (a : Attribute) (kept more : List Attribute) (us : List Unrecognized) → is_unrecognized p a.kind ≡ true → kept_of a.kind kept ≡ None → HasOneMore a kept more → AreUnrecognized p kept us
    → AreUnrecognized p more (placed (record { kind = a.kind; value = a.value }) us)
unrecognized_more p a kept more us unknown new adds are = record {
  order = placed_ascends 0 u us are.order (omega arith) none;
  values = λ kind. placed_value kind u us none ∙ at kind (eqb a.kind kind) refl;
}
  where
    u : Unrecognized
    u = record { kind = a.kind; value = a.value }

    none : value_of a.kind us ≡ None
    none = are.values a.kind ∙ ap (λ b. cond b (option_map (λ a. a.value) (kept_of a.kind kept)) None) unknown ∙ ap (option_map (λ a. a.value)) new

    at : (kind : ℕ) (b : Bool) → eqb a.kind kind ≡ b → cond (eqb a.kind kind) (Some a.value) (value_of kind us) ≡ cond (is_unrecognized p kind) (option_map (λ a. a.value) (kept_of kind more)) None
    at kind true is =
        let here : kept_of kind more ≡ Some a = adds kind ∙ ap (λ b. cond b (Some a) (kept_of kind kept)) is in
        let unrecognized : is_unrecognized p kind ≡ true = ap (is_unrecognized p) (sym (eqb-true _ _ is)) ∙ unknown in
        ap (λ b. cond b (Some a.value) (value_of kind us)) is
        ∙ sym (ap (λ b. cond b (option_map (λ a. a.value) (kept_of kind more)) None) unrecognized ∙ ap (option_map (λ a. a.value)) here)
    at kind false is =
        ap (λ b. cond b (Some a.value) (value_of kind us)) is ∙ are.values kind
        ∙ ap (λ o. cond (is_unrecognized p kind) (option_map (λ a. a.value) o) None) (sym (adds kind ∙ ap (λ b. cond b (Some a) (kept_of kind kept)) is))

-- ---- what is known of an attribute that is kept
abbrev pub IsKept : Profile → Bool → Attribute → Type 0
IsKept p external a = judge_by p external a (rule_of p external a.kind) ≡ Ok Keep

not_keep : (revised : Bool) (mild : Verdict) (n : Notice) → (mild ≡ Keep → ⊥) → milder revised mild n ≡ Ok Keep → ⊥
not_keep true mild n other e = other (same_ok mild Keep e)
not_keep false mild n other e = absurd (not_both n Keep e)

discard_not_keep : Discard ≡ Keep → ⊥
discard_not_keep e = absurd (cc)

withdraw_not_keep : Withdraw ≡ Keep → ⊥
withdraw_not_keep e = absurd (cc)

mild_not_keep : (b : Bool) → cond b Discard Withdraw ≡ Keep → ⊥
mild_not_keep true e = discard_not_keep e
mild_not_keep false e = withdraw_not_keep e

passes : (b : Bool) (r s : Result Verdict Notice) → (r ≡ Ok Keep → ⊥) → cond b r s ≡ Ok Keep → (b ≡ false) × (s ≡ Ok Keep)
passes true r s never e = absurd (never e)
passes false r s never e = (refl, e)

pub record IsGood (as4 : Bool) (r : TypeRule) (a : Attribute) : Type 0 where
  pub flags : has_wrong_flags r a ≡ false
  pub size : has_wrong_size r.size a.value ≡ false
  pub value : value_fault as4 a ≡ None

pub recognized_is_good : (p : Profile) (external : Bool) (a : Attribute) (r : TypeRule) → judge_recognized p external a r ≡ Ok Keep → IsGood p.as4 r a
recognized_is_good p external a r e =
    let revised = is_revised p a.kind in
    let r3 = judge_value revised (value_fault p.as4 a) in
    let r2 = cond (has_wrong_size r.size a.value) (milder revised (cond (eqb a.kind 6 || eqb a.kind 7) Discard Withdraw) (notice 3 5 a.octets)) r3 in
    let r1 = cond (has_wrong_flags r a) (milder revised Withdraw (notice 3 4 a.octets)) r2 in
    let x = passes (p.revised && (external && eqb a.kind 5)) (Ok Discard) r1 (λ d. discard_not_keep (same_ok Discard Keep d)) e in
    let y = passes (has_wrong_flags r a) (milder revised Withdraw (notice 3 4 a.octets)) r2 (not_keep revised Withdraw (notice 3 4 a.octets) withdraw_not_keep) x.1 in
    let z = passes (has_wrong_size r.size a.value) (milder revised (cond (eqb a.kind 6 || eqb a.kind 7) Discard Withdraw) (notice 3 5 a.octets)) r3 (not_keep revised (cond (eqb a.kind 6 || eqb a.kind 7) Discard Withdraw) (notice 3 5 a.octets) (mild_not_keep (eqb a.kind 6 || eqb a.kind 7))) y.1 in
    record { flags = y.0; size = z.0; value = by_fault (value_fault p.as4 a) z.1 }
  where
    by_fault : (o : Option Notice) → judge_value (is_revised p a.kind) o ≡ Ok Keep → o ≡ None
    by_fault None e = refl
    by_fault (Some n) e = absurd (not_keep (is_revised p a.kind) Withdraw n withdraw_not_keep e)

-- an attribute that is kept is of a type that hasn't come, and judged by its own
judged_kept : (p : Profile) (external : Bool) (seen : List ℕ) (a : Attribute) → judgement p external seen a ≡ Ok Keep → (list_any (λ kind. eqb kind a.kind) seen ≡ false) × IsKept p external a
unfolding judgement
judged_kept p external seen a e = passes (list_any (λ kind. eqb kind a.kind) seen) (milder (is_revised p a.kind) Discard (notice 3 1 [])) (judge_by p external a (rule_of p external a.kind)) (not_keep (is_revised p a.kind) Discard (notice 3 1 []) discard_not_keep) e

any_before : (xs ys : List ℕ) (kind : ℕ) → list_any (λ k. eqb k kind) (xs ++ ys) ≡ false → list_any (λ k. eqb k kind) xs ≡ false
any_before [] ys kind e = refl
any_before (x ∷ xs) ys kind e =
    let here = or_false_left (eqb x kind) _ e in
    ap (λ b. b || list_any (λ k. eqb k kind) xs) here ∙ any_before xs ys kind (or_false_right (eqb x kind) _ e)

any_last : (xs : List ℕ) (y kind : ℕ) → list_any (λ k. eqb k kind) (xs ++ y ∷ []) ≡ false → eqb y kind ≡ false
any_last [] y kind e = or_false_left (eqb y kind) false e
any_last (x ∷ xs) y kind e = any_last xs y kind (or_false_right (eqb x kind) _ e)

pub record IsKeptOf (p : Profile) (external : Bool) (seen : List ℕ) (kind : ℕ) (a : Attribute) : Type 0 where
  pub is : a.kind ≡ kind
  pub new : list_any (λ k. eqb k kind) seen ≡ false
  pub kept : IsKept p external a

pub kept_are : (p : Profile) (external : Bool) (seen bytes : List ℕ) (steps : List (Attribute × Verdict)) (runs : Bool) → AreAttributes p external seen bytes steps runs
    → (kind : ℕ) (a : Attribute) → kept_of kind (kept_by steps runs).0 ≡ Some a → IsKeptOf p external seen kind a
kept_are p external seen bytes [] runs are kind a found = absurd (not_some a found)
kept_are p external seen bytes ((b, Discard) ∷ steps) runs are kind a found =
    let k = kept_are p external (seen ++ b.kind ∷ []) are.0 steps runs are.4 kind a found in
    record { is = k.is; new = any_before seen (b.kind ∷ []) kind k.new; kept = k.kept }
kept_are p external seen bytes ((b, Withdraw) ∷ steps) runs are kind a found =
    let k = kept_are p external (seen ++ b.kind ∷ []) are.0 steps runs are.4 kind a found in
    record { is = k.is; new = any_before seen (b.kind ∷ []) kind k.new; kept = k.kept }
kept_are p external seen bytes ((b, Keep) ∷ steps) runs are kind a found =
    by_test (eqb b.kind kind) refl found
    (λ e. let k = kept_are p external (seen ++ b.kind ∷ []) are.0 steps runs are.4 kind a e in
    record { is = k.is; new = any_before seen (b.kind ∷ []) kind k.new; kept = k.kept })
  where
    by_test : (t : Bool) → eqb b.kind kind ≡ t → cond t (Some b) (kept_of kind (kept_by steps runs).0) ≡ Some a → (kept_of kind (kept_by steps runs).0 ≡ Some a → IsKeptOf p external seen kind a) → IsKeptOf p external seen kind a
    by_test true is e later =
        let same : b ≡ a = some_same b a e in
        let at : b.kind ≡ kind = eqb-true _ _ is in
        let j = judged_kept p external seen b are.3 in
        subst (IsKeptOf p external seen kind) same (record { is = at; new = ap (λ k. list_any (λ n. eqb n k) seen) (sym at) ∙ j.0; kept = j.1 })
    by_test false is e later = later e

-- no later one is of the same type
pub kept_later : (p : Profile) (external : Bool) (seen bytes : List ℕ) (kind : ℕ) (steps : List (Attribute × Verdict)) (runs : Bool) → AreAttributes p external (seen ++ kind ∷ []) bytes steps runs → kept_of kind (kept_by steps runs).0 ≡ None
kept_later p external seen bytes kind steps runs are = by_found (kept_of kind (kept_by steps runs).0) refl
  where
    never : (b : Bool) → b ≡ true → b ≡ false → ⊥
    never true e f = absurd (cc)
    never false e f = absurd (cc)

    by_found : (o : Option Attribute) → kept_of kind (kept_by steps runs).0 ≡ o → kept_of kind (kept_by steps runs).0 ≡ None
    by_found None e = e
    by_found (Some a) e =
        let k = kept_are p external (seen ++ kind ∷ []) bytes steps runs are kind a e in
        absurd (never (eqb kind kind) (eq-eqb kind kind refl) (any_last seen kind kind k.new))

pub unrecognized_made : (p : Profile) (external : Bool) (seen bytes : List ℕ) (steps : List (Attribute × Verdict)) (runs : Bool) → AreAttributes p external seen bytes steps runs → (us : List Unrecognized) × AreUnrecognized p (kept_by steps runs).0 us
unrecognized_made p external seen bytes [] runs are = ([], nothing_kept p)
unrecognized_made p external seen bytes ((b, Discard) ∷ steps) runs are = unrecognized_made p external (seen ++ b.kind ∷ []) are.0 steps runs are.4
unrecognized_made p external seen bytes ((b, Withdraw) ∷ steps) runs are = unrecognized_made p external (seen ++ b.kind ∷ []) are.0 steps runs are.4
unrecognized_made p external seen bytes ((b, Keep) ∷ steps) runs are =
    let later = unrecognized_made p external (seen ++ b.kind ∷ []) are.0 steps runs are.4 in
    by_test (is_unrecognized p b.kind) refl later (kept_later p external seen are.0 b.kind steps runs are.4)
  where
    by_test : (t : Bool) → is_unrecognized p b.kind ≡ t → (us : List Unrecognized) × AreUnrecognized p (kept_by steps runs).0 us → kept_of b.kind (kept_by steps runs).0 ≡ None → (us : List Unrecognized) × AreUnrecognized p (b ∷ (kept_by steps runs).0) us
    by_test true is (us, later) new = (placed (record { kind = b.kind; value = b.value }) us, unrecognized_more p b (kept_by steps runs).0 (b ∷ (kept_by steps runs).0) us is new (λ kind. refl) later)
    by_test false is (us, later) new = (us, recognized_more p b (kept_by steps runs).0 (b ∷ (kept_by steps runs).0) us is (λ kind. refl) later)

-- ---- the attributes of a route
value_faults : (as4 : Bool) (a : Attribute) (kind : ℕ) → a.kind ≡ kind → value_fault as4 a ≡ value_fault as4 (record a { kind = kind })
value_faults as4 a kind is = ap (λ k. value_fault as4 (record a { kind = k })) is

pub origin_below : (a : Attribute) (as4 : Bool) → a.kind ≡ 1 → value_fault as4 a ≡ None → get_or a.value 0 0 ≤ 2
unfolding value_fault
origin_below a as4 is none = by_test (ltb 2 (get_or a.value 0 0)) refl (sym (value_faults as4 a 1 is) ∙ none)
  where
    by_test : (b : Bool) → ltb 2 (get_or a.value 0 0) ≡ b → cond b (Some (notice 3 6 a.octets)) None ≡ None → get_or a.value 0 0 ≤ 2
    by_test true t e = absurd (not_some (notice 3 6 a.octets) (sym e))
    by_test false t e = omega (arith, ltb-false _ _ t)

origin_at : (n : ℕ) → n ≤ 2 → (o : Origin) × (n ≡ code_of_origin o)
origin_at zero le = (Igp, refl)
origin_at (suc zero) le = (Egp, refl)
origin_at (suc (suc zero)) le = (Incomplete, refl)
origin_at (suc (suc (suc n))) le = absurd (omega arith)

pub path_good : (a : Attribute) (as4 : Bool) → a.kind ≡ 2 → value_fault as4 a ≡ None → (path : List Segment) × (path_at (width_of as4) a.value ≡ Ok path)
unfolding value_fault
path_good a as4 is none = by_path (path_at (width_of as4) a.value) refl (sym (value_faults as4 a 2 is) ∙ none)
  where
    by_path : (r : Result (List Segment) Notice) → path_at (width_of as4) a.value ≡ r → err_of r ≡ None → (path : List Segment) × (path_at (width_of as4) a.value ≡ Ok path)
    by_path (Ok path) e none = (path, e)
    by_path (Err n) e none = absurd (not_some n (sym none))

-- a recognized type that is kept is good
pub good_of : (p : Profile) (external : Bool) (a : Attribute) (r : TypeRule) → IsKept p external a → rule_of p external a.kind ≡ Some r → IsGood p.as4 r a
good_of p external a r kept e = recognized_is_good p external a r (ap (judge_by p external a) (sym e) ∙ kept)

pub rule_at_1 : (p : Profile) (external : Bool) (kind : ℕ) → kind ≡ 1 → rule_of p external kind ≡ Some (record { optional = false; transitive = true; size = Fixed 1 })
unfolding rule_of
rule_at_1 p external kind e = ap (rule_of p external) e

pub rule_at_2 : (p : Profile) (external : Bool) (kind : ℕ) → kind ≡ 2 → rule_of p external kind ≡ Some (record { optional = false; transitive = true; size = Any })
unfolding rule_of
rule_at_2 p external kind e = ap (rule_of p external) e

pub has_kept : (kind : ℕ) (kept : List Attribute) → list_any (λ a. eqb a.kind kind) kept ≡ true → (a : Attribute) × (kept_of kind kept ≡ Some a)
has_kept kind [] e = absurd (cc)
has_kept kind (a ∷ kept) e = by_test (eqb a.kind kind) refl e (λ e. has_kept kind kept e)
  where
    by_test : (b : Bool) → eqb a.kind kind ≡ b → (b || list_any (λ a. eqb a.kind kind) kept) ≡ true → (list_any (λ a. eqb a.kind kind) kept ≡ true → (x : Attribute) × (kept_of kind kept ≡ Some x))
        → (x : Attribute) × (kept_of kind (a ∷ kept) ≡ Some x)
    by_test true is e later = (a, ap (λ b. cond b (Some a) (kept_of kind kept)) is)
    by_test false is e later = let l = later e in (l.0, ap (λ b. cond b (Some a) (kept_of kind kept)) is ∙ l.1)

pub some_and : (o : Option Attribute) (a : Attribute) (P : Attribute → Type 0) → o ≡ Some a → P a → IsSomeAnd o P
some_and o a P e h = subst (λ o. IsSomeAnd o P) (sym e) h

-- ORIGIN and AS_PATH are kept
pub record HasAll (kept : List Attribute) : Type 0 where
  pub origin : list_any (λ a. eqb a.kind 1) kept ≡ true
  pub path : list_any (λ a. eqb a.kind 2) kept ≡ true

pub attrs_made : (p : Profile) (external : Bool) (bytes : List ℕ) (steps : List (Attribute × Verdict)) (runs : Bool) → AreAttributes p external [] bytes steps runs → HasAll (kept_by steps runs).0 → (hop : Option ℕ) (n : ℕ) → hop ≡ Some n → (attrs : Attrs) × AreAttrs p external (kept_by steps runs).0 hop attrs
attrs_made p external bytes steps runs are has hop n hop_is =
    let kept = (kept_by steps runs).0 in
    let o = has_kept 1 kept has.origin in
    let s = has_kept 2 kept has.path in
    let ok = kept_are p external [] bytes steps runs are 1 o.0 o.1 in
    let sk = kept_are p external [] bytes steps runs are 2 s.0 s.1 in
    let og = good_of p external o.0 _ ok.kept (rule_at_1 p external o.0.kind ok.is) in
    let sg = good_of p external s.0 _ sk.kept (rule_at_2 p external s.0.kind sk.is) in
    let origin = origin_at (get_or o.0.value 0 0) (origin_below o.0 p.as4 ok.is og.value) in
    let path = path_good s.0 p.as4 sk.is sg.value in
    let us = unrecognized_made p external [] bytes steps runs are in (
      record {
        origin = origin.0;
        path = path.0;
        next_hop = n;
        med = number_of 4 kept;
        local_pref = cond external None (number_of 5 kept);
        atomic = is_some (kept_of 6 kept);
        aggregator = option_map (aggregator_of p.as4) (kept_of 7 kept);
        reflection = record { originator = cond p.reflect (number_of 9 kept) None; clusters = cond p.reflect (clusters_of (kept_of 10 kept)) [] };
        unrecognized = us.0;
      },
      record {
        origin = ap (option_map (λ (a : Attribute). get_or a.value 0 0)) o.1 ∙ ap (λ n. Some n) origin.1;
        path = some_and (kept_of 2 kept) s.0 (λ a. IsPath (width_of p.as4) a.value path.0) s.1 (path_takes (width_of p.as4) s.0.value path.0 path.1);
        next_hop = hop_is;
        med = refl;
        local_pref = refl;
        atomic = refl;
        aggregator = refl;
        originator = refl;
        clusters = refl;
        unrecognized = us.1;
      },
    )

one_origin : (a b : Origin) → code_of_origin a ≡ code_of_origin b → a ≡ b
one_origin Igp Igp e = refl
one_origin Egp Egp e = refl
one_origin Incomplete Incomplete e = refl
one_origin Igp Egp e = absurd (cc)
one_origin Igp Incomplete e = absurd (cc)
one_origin Egp Igp e = absurd (cc)
one_origin Egp Incomplete e = absurd (cc)
one_origin Incomplete Igp e = absurd (cc)
one_origin Incomplete Egp e = absurd (cc)

one_path : (width : ℕ) (o : Option Attribute) (a b : List Segment) → IsSomeAnd o (λ x. IsPath width x.value a) → IsSomeAnd o (λ x. IsPath width x.value b) → a ≡ b
one_path width None a b f g = absurd f
one_path width (Some x) a b f g = same_ok a b (sym (path_again width x.value a f) ∙ path_again width x.value b g)

pub one_attrs : (p : Profile) (external : Bool) (kept : List Attribute) (hop : Option ℕ) (a b : Attrs) → AreAttrs p external kept hop a → AreAttrs p external kept hop b → a ≡ b
one_attrs p external kept hop a b f g =
    let origin = one_origin a.origin b.origin (some_same _ _ (sym f.origin ∙ g.origin)) in
    let path = one_path (width_of p.as4) (kept_of 2 kept) a.path b.path f.path g.path in
    let next_hop = some_same a.next_hop b.next_hop (sym f.next_hop ∙ g.next_hop) in
    let unrecognized = one_order 0 0 a.unrecognized b.unrecognized f.unrecognized.order g.unrecognized.order (λ kind. f.unrecognized.values kind ∙ sym (g.unrecognized.values kind)) in
    λ i. record {
      origin = origin i;
      path = path i;
      next_hop = next_hop i;
      med = (f.med ∙ sym g.med) i;
      local_pref = (f.local_pref ∙ sym g.local_pref) i;
      atomic = (f.atomic ∙ sym g.atomic) i;
      aggregator = (f.aggregator ∙ sym g.aggregator) i;
      reflection = record { originator = (f.originator ∙ sym g.originator) i; clusters = (f.clusters ∙ sym g.clusters) i };
      unrecognized = unrecognized i;
    }
