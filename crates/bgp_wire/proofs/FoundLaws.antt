-- What is gathered is what the kept attributes say.
use Rattle.std.proofs.Common.{◌≡◌, ℕ, zero, suc, ◌≤◌, Bool, true, false, cond, eqb, ltb, ◌||◌, ◌&&◌, List, [], ◌∷◌, ◌++◌, length, get_or, Option, Some, None, Ok, Err, refl, sym, ap, subst, ◌∙◌, arith}
use Rattle.std.specs.Prelude.{replicate, is_some, option_map, option_and_then, IsTrue}
use Rattle.std.specs.List.{list_any}
use Rattle.std.specs.Option.{option_or}
use Rattle.std.specs.Result.{result_ok}
use Rattle.std.proofs.lemmas.Bool.{eqb-true}
use Rattle.std.proofs.lemmas.List.Folds.{find-append}
use Rattle.byteorder.specs.Endian.{big_number}
use Rattle.addr4.specs.Families.{in_front}
use Rattle.bgp_attr.specs.declared.speaker.Profile.{Profile}
use Rattle.bgp_wire.specs.declared.attributes.Size.TheVariants.{Fixed}
use Rattle.bgp_wire.specs.declared.attributes.TypeRule.{TypeRule}
use Rattle.bgp_wire.specs.declared.attributes.Verdict.{Verdict}
use Rattle.bgp_wire.specs.declared.attributes.Verdict.TheVariants.{Keep, Discard, Withdraw}
use Rattle.bgp_wire.specs.declared.found.Found.{Found}
use Rattle.bgp_wire.specs.declared.gathered.Gathered.{Gathered}
use Rattle.bgp_wire.specs.Faults.{notice}
use Rattle.bgp_wire.specs.Paths.{width_of, path_at}
use Rattle.bgp_wire.specs.Attributes.{Attribute, Kept, is_reflection, rule_of, has_wrong_size, is_revised, is_multiprotocol, hop_at, milder, judge_unrecognized, judge_by, judgement}
use Rattle.bgp_wire.specs.Updates.{reach_of, unreach_of}
use Rattle.bgp_wire.specs.Routes.{kept_of, number_of, aggregator_of, clusters_of, is_unrecognized, AreUnrecognized}
use Rattle.bgp_wire.specs.Found.{placed, origin_of, found_with, after, is_withdraw, Gathers, has_type, IsGathered, added}
use Rattle.bgp_wire.proofs.TestLemmas.{not_false, or_false_left, or_false_right}
use Rattle.bgp_wire.proofs.RouteLaws.{some_same, HasOneMore, recognized_more, unrecognized_more}
use Rattle.bgp_wire.proofs.TypeLaws.{other_type, no_reflection, no_multiprotocol, recognized_kind, no_rule, kept_type}

pub none_has : (n kind : ℕ) → get_or (replicate n false) kind false ≡ false
none_has zero kind = refl
none_has (suc n) zero = refl
none_has (suc n) (suc kind) = none_has n kind

-- one more at the end
one_more : (a : Attribute) (kept : List Attribute) → kept_of a.kind kept ≡ None → HasOneMore a kept (kept ++ a ∷ [])
one_more a kept new kind = find-append (λ b. eqb b.kind kind) kept (a ∷ []) ∙ by_test (eqb a.kind kind) refl
  where
    or_none : (o : Option Attribute) → option_or o None ≡ o
    or_none None = refl
    or_none (Some x) = refl

    by_test : (b : Bool) → eqb a.kind kind ≡ b → option_or (kept_of kind kept) (cond (eqb a.kind kind) (Some a) None) ≡ cond (eqb a.kind kind) (Some a) (kept_of kind kept)
    by_test true is =
        let none : kept_of kind kept ≡ None = ap (λ k. kept_of k kept) (sym (eqb-true _ _ is)) ∙ new in
        ap (λ o. option_or o (cond (eqb a.kind kind) (Some a) None)) none ∙ ap (λ b. cond b (Some a) None) is ∙ sym (ap (λ b. cond b (Some a) (kept_of kind kept)) is)
    by_test false is = ap (λ b. option_or (kept_of kind kept) (cond b (Some a) None)) is ∙ or_none (kept_of kind kept) ∙ sym (ap (λ b. cond b (Some a) (kept_of kind kept)) is)

-- a field of what is found, with one more attribute
field_more : {B : Type 0} (f : Option Attribute → B) (b : Bool) (a : Attribute) (old new : Option Attribute) (x : B) → new ≡ cond b (Some a) old → x ≡ f old → cond b (f (Some a)) x ≡ f new
field_more f true a old new x adds is = ap f (sym adds)
field_more f false a old new x adds is = is ∙ ap f (sym adds)

-- and one that only a route reflector fills
reflected_more : {B : Type 0} (f : Option Attribute → B) (reflect b : Bool) (a : Attribute) (old new : Option Attribute) (x none : B) → new ≡ cond b (Some a) old → x ≡ cond reflect (f old) none → cond (reflect && b) (f (Some a)) x ≡ cond reflect (f new) none
reflected_more f true b a old new x none adds is = field_more f b a old new x adds is
reflected_more f false b a old new x none adds is = is

-- and one that is there only where IPv6 is spoken
spoken_more : {B : Type 0} (f : Option Attribute → Option B) (v6 b : Bool) (a : Attribute) (old new : Option Attribute) (x : Option B) → new ≡ cond b (Some a) old → x ≡ f (cond v6 old None) → cond (v6 && b) (f (Some a)) x ≡ f (cond v6 new None)
spoken_more f true b a old new x adds is = field_more f b a old new x adds is
spoken_more f false b a old new x adds is = is

-- one more attribute is found
gathers_more : (p : Profile) (a : Attribute) (kept more : List Attribute) (found : Found) → kept_of a.kind kept ≡ None → HasOneMore a kept more → Gathers p kept found → Gathers p more (found_with p a found)
unfolding found_with
gathers_more p a kept more found new adds g = record {
  origin = field_more (option_map (λ (a : Attribute). origin_of (get_or a.value 0 0))) (eqb a.kind 1) a (kept_of 1 kept) (kept_of 1 more) found.origin (adds 1) g.origin;
  path = field_more (option_and_then (λ (a : Attribute). result_ok (path_at (width_of p.as4) a.value))) (eqb a.kind 2) a (kept_of 2 kept) (kept_of 2 more) found.path (adds 2) g.path;
  next_hop = field_more (option_map (λ (a : Attribute). hop_at a.value)) (eqb a.kind 3) a (kept_of 3 kept) (kept_of 3 more) found.next_hop (adds 3) g.next_hop;
  med = number 4 found.med g.med;
  local_pref = number 5 found.local_pref g.local_pref;
  atomic = field_more is_some (eqb a.kind 6) a (kept_of 6 kept) (kept_of 6 more) found.atomic (adds 6) g.atomic;
  aggregator = field_more (option_map (aggregator_of p.as4)) (eqb a.kind 7) a (kept_of 7 kept) (kept_of 7 more) found.aggregator (adds 7) g.aggregator;
  originator = reflected_more (option_map (λ (a : Attribute). big_number 4 a.value)) p.reflect (eqb a.kind 9) a (kept_of 9 kept) (kept_of 9 more) found.originator None (adds 9) g.originator;
  clusters = reflected_more clusters_of p.reflect (eqb a.kind 10) a (kept_of 10 kept) (kept_of 10 more) found.clusters [] (adds 10) g.clusters;
  reach = spoken_more (option_and_then reach_of) p.v6 (eqb a.kind 14) a (kept_of 14 kept) (kept_of 14 more) found.reach (adds 14) g.reach;
  unreach = spoken_more (option_and_then unreach_of) p.v6 (eqb a.kind 15) a (kept_of 15 kept) (kept_of 15 more) found.unreach (adds 15) g.unreach;
  unrecognized = by_type (is_unrecognized p a.kind) refl;
}
  where
    number : (k : ℕ) (x : Option ℕ) → x ≡ number_of k kept → cond (eqb a.kind k) (Some (big_number 4 a.value)) x ≡ number_of k more
    number k x is = field_more (option_map (λ (a : Attribute). big_number 4 a.value)) (eqb a.kind k) a (kept_of k kept) (kept_of k more) x (adds k) is

    by_type : (b : Bool) → is_unrecognized p a.kind ≡ b → AreUnrecognized p more (cond b (placed (record { kind = a.kind; value = a.value }) found.unrecognized) found.unrecognized)
    by_type true is = unrecognized_more p a kept more found.unrecognized is new adds g.unrecognized
    by_type false is = recognized_more p a kept more found.unrecognized is adds g.unrecognized

-- the last attribute, whose type hasn't come
pub gathers_next : (p : Profile) (a : Attribute) (kept : List Attribute) (found : Found) → kept_of a.kind kept ≡ None → Gathers p kept found → Gathers p (kept ++ a ∷ []) (found_with p a found)
gathers_next p a kept found new g = gathers_more p a kept (kept ++ a ∷ []) found new (one_more a kept new) g

-- ---- types that came
any_push : (xs : List ℕ) (y kind : ℕ) → list_any (λ k. eqb k kind) (xs ++ y ∷ []) ≡ (list_any (λ k. eqb k kind) xs || eqb y kind)
any_push [] y kind = by_test (eqb y kind)
  where
    by_test : (b : Bool) → (b || false) ≡ (false || b)
    by_test true = refl
    by_test false = refl
any_push (x ∷ xs) y kind = ap (λ b. eqb x kind || b) (any_push xs y kind) ∙ by_test (eqb x kind)
  where
    by_test : (b : Bool) → (b || (list_any (λ k. eqb k kind) xs || eqb y kind)) ≡ ((b || list_any (λ k. eqb k kind) xs) || eqb y kind)
    by_test true = refl
    by_test false = refl

kept_new : (p : Profile) (verdict : Verdict) (a : Attribute) (kept : Kept) (found : Found) → kept_of a.kind kept.0 ≡ None → Gathers p kept.0 found → Gathers p (added verdict a kept).0 (after verdict (found_with p a found) found)
kept_new p Keep a kept found new g = gathers_next p a kept.0 found new g
kept_new p Discard a kept found new g = g
kept_new p Withdraw a kept found new g = g

withdraw_new : (verdict : Verdict) (a : Attribute) (kept : Kept) → (kept.1 || is_withdraw verdict) ≡ (added verdict a kept).1
withdraw_new Keep a kept = by_test kept.1
  where
    by_test : (b : Bool) → (b || false) ≡ b
    by_test true = refl
    by_test false = refl
withdraw_new Discard a kept = by_test kept.1
  where
    by_test : (b : Bool) → (b || false) ≡ b
    by_test true = refl
    by_test false = refl
withdraw_new Withdraw a kept = by_test kept.1
  where
    by_test : (b : Bool) → (b || true) ≡ true
    by_test true = refl
    by_test false = refl

-- no other type is kept
still_new : (verdict : Verdict) (a : Attribute) (kept : Kept) (kind : ℕ) → kept_of a.kind kept.0 ≡ None → eqb a.kind kind ≡ false → kept_of kind kept.0 ≡ None → kept_of kind (added verdict a kept).0 ≡ None
still_new Keep a kept kind new apart none = one_more a kept.0 new kind ∙ ap (λ b. cond b (Some a) (kept_of kind kept.0)) apart ∙ none
still_new Discard a kept kind new apart none = none
still_new Withdraw a kept kind new apart none = none

-- one more of a type that has come
pub gathered_again : (p : Profile) (external : Bool) (seen : List ℕ) (kept : Kept) (a : Attribute) (g : Gathered) (verdict : Verdict) → IsGathered p seen kept g → has_type g.seen a.kind ≡ true → milder (is_revised p a.kind) Discard (notice 3 1 []) ≡ Ok verdict
    → (v : Verdict) × (judgement p external seen a ≡ Ok v) × IsGathered p (seen ++ a.kind ∷ []) (added v a kept) g
unfolding judgement
gathered_again p external seen kept a g verdict is came judged = (
  Discard,
  ap (λ b. cond b (milder (is_revised p a.kind) Discard (notice 3 1 [])) (judge_by p external a (rule_of p external a.kind))) some ∙ by_manner (is_revised p a.kind) judged,
  record {
    types = λ kind. is.types kind ∙ by_kind kind (eqb a.kind kind) refl ∙ sym (any_push seen a.kind kind);
    new = λ kind e. is.new kind (or_false_left (list_any (λ k. eqb k kind) seen) _ (sym (any_push seen a.kind kind) ∙ e));
    found = is.found;
    withdraw = is.withdraw;
  },
)
  where
    some : list_any (λ k. eqb k a.kind) seen ≡ true
    some = sym (is.types a.kind) ∙ came

    by_manner : (b : Bool) → cond b (Ok Discard) (Err (notice 3 1 [])) ≡ Ok verdict → cond b (Ok Discard) (Err (notice 3 1 [])) ≡ Ok Discard
    by_manner true e = refl
    by_manner false e = absurd (cc)

    or_false : (b : Bool) → b ≡ (b || false)
    or_false true = refl
    or_false false = refl

    by_kind : (kind : ℕ) (b : Bool) → eqb a.kind kind ≡ b → list_any (λ k. eqb k kind) seen ≡ (list_any (λ k. eqb k kind) seen || eqb a.kind kind)
    by_kind kind true e =
        let there : list_any (λ k. eqb k kind) seen ≡ true = ap (λ n. list_any (λ k. eqb k n) seen) (sym (eqb-true _ _ e)) ∙ some in
        there ∙ sym (ap (λ b. b || eqb a.kind kind) there)
    by_kind kind false e = or_false (list_any (λ k. eqb k kind) seen) ∙ ap (λ b. list_any (λ k. eqb k kind) seen || b) (sym e)

pub gathered_one : (p : Profile) (external : Bool) (seen : List ℕ) (kept : Kept) (a : Attribute) (old new : Gathered) (verdict : Verdict) → IsGathered p seen kept old → has_type old.seen a.kind ≡ false
    → judge_by p external a (rule_of p external a.kind) ≡ Ok verdict → new.found ≡ after verdict (found_with p a old.found) old.found
    → ((kind : ℕ) → has_type new.seen kind ≡ (has_type old.seen kind || eqb a.kind kind)) → new.withdraw ≡ (old.withdraw || is_withdraw verdict)
    → (judgement p external seen a ≡ Ok verdict) × IsGathered p (seen ++ a.kind ∷ []) (added verdict a kept) new
unfolding judgement
gathered_one p external seen kept a old new verdict is fresh judged found types withdraw =
    let none : list_any (λ k. eqb k a.kind) seen ≡ false = sym (is.types a.kind) ∙ fresh in
    let free = is.new a.kind none in (
      ap (λ b. cond b (milder (is_revised p a.kind) Discard (notice 3 1 [])) (judge_by p external a (rule_of p external a.kind))) none ∙ judged,
      record {
        types = λ kind. types kind ∙ ap (λ b. b || eqb a.kind kind) (is.types kind) ∙ sym (any_push seen a.kind kind);
        new = λ kind e.
            let both = sym (any_push seen a.kind kind) ∙ e in
            still_new verdict a kept kind free (or_false_right (list_any (λ k. eqb k kind) seen) _ both) (is.new kind (or_false_left (list_any (λ k. eqb k kind) seen) _ both));
        found = subst (Gathers p (added verdict a kept).0) (sym found) (kept_new p verdict a kept old.found free is.found);
        withdraw = withdraw ∙ ap (λ b. b || is_withdraw verdict) is.withdraw ∙ withdraw_new verdict a kept;
      },
    )

-- ---- what a rule tells
some_or_none : {A : Type 0} (o : Option A) (x : A) → o ≡ Some x → o ≡ None → ⊥
some_or_none None x e f = absurd (cc)
some_or_none (Some y) x e f = absurd (cc)

pub rule_within : (p : Profile) (external : Bool) (kind : ℕ) (r : TypeRule) → rule_of p external kind ≡ Some r → IsTrue ((ltb 0 kind && ltb kind 8) || (is_reflection p kind || is_multiprotocol p kind))
rule_within p external kind r e = by_type (is_unrecognized p kind) refl
  where
    by_type : (b : Bool) → is_unrecognized p kind ≡ b → ((ltb 0 kind && ltb kind 8) || (is_reflection p kind || is_multiprotocol p kind)) ≡ true
    by_type true is = absurd (some_or_none (rule_of p external kind) r e (no_rule p external kind is))
    by_type false is = recognized_kind p kind is

pub aggregator_fits : (p : Profile) (external : Bool) (kind : ℕ) (r : TypeRule) (value : List ℕ) → rule_of p external kind ≡ Some r → has_wrong_size r.size value ≡ false → kind ≡ 7 → width_of p.as4 ≤ length value
unfolding rule_of
aggregator_fits p external kind r value e fits is =
    let at : Some (record { optional = true; transitive = true; size = Fixed (cond p.as4 8 6) }) ≡ Some r = ap (rule_of p external) (sym is) ∙ e in
    let size : Fixed (cond p.as4 8 6) ≡ r.size = ap (λ (r : TypeRule). r.size) (some_same _ r at) in
    by_width p.as4 (eqb-true _ _ (not_false _ (ap (λ s. has_wrong_size s value) size ∙ fits)))
  where
    by_width : (b : Bool) → length value ≡ cond b 8 6 → width_of b ≤ length value
    by_width true e = omega (arith, e)
    by_width false e = omega (arith, e)

pub found_other : (p : Profile) (external : Bool) (a : Attribute) (found : Found) → rule_of p external a.kind ≡ None → judge_unrecognized p a ≡ Ok Keep → found_with p a found ≡ record found { unrecognized = placed (record { kind = a.kind; value = a.value }) found.unrecognized }
unfolding found_with
found_other p external a found none keep =
    let is : is_unrecognized p a.kind ≡ true = kept_type p external a none keep in
    let other : (k : ℕ) → is_unrecognized p k ≡ false → eqb a.kind k ≡ false = λ k known. other_type p a.kind k is known in
    let no = neither p.reflect (eqb a.kind 9) (eqb a.kind 10) (no_reflection p a.kind is) in
    let nor = neither p.v6 (eqb a.kind 14) (eqb a.kind 15) (no_multiprotocol p a.kind is) in
    rw (other 1 refl, other 2 refl, other 3 refl, other 4 refl, other 5 refl, other 6 refl, other 7 refl, no.0, no.1, nor.0, nor.1, is) refl
  where
    neither : (r a b : Bool) → (r && (a || b)) ≡ false → ((r && a) ≡ false) × ((r && b) ≡ false)
    neither true a b e = (or_false_left a b e, or_false_right a b e)
    neither false a b e = (refl, refl)
