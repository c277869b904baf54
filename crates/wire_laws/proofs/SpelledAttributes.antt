-- What is written of attributes is judged good, and stands by ascending type.
use Rattle.std.proofs.Common.{◌≡◌, ◌⊎◌, ℕ, suc, ◌+◌, ◌*◌, ◌/◌, ◌%◌, ◌^◌, ◌≤◌, ◌<◌, Bool, true, false, cond, eqb, ltb, not, ◌||◌, ◌&&◌, List, [], ◌∷◌, ◌++◌, length, map, Option, Some, None, Ok, Err, refl, sym, ap, subst, ◌∙◌, inl, inr, arith}
use Rattle.std.specs.Prelude.{All, filter}
use Rattle.std.specs.List.{list_any, flat_map}
use Rattle.std.proofs.lemmas.List.{length-append, append-nil}
use Rattle.std.proofs.lemmas.Bool.{ltb-true, ltb-false, eqb-true, eqb-false, eq-eqb}
use Rattle.byteorder.specs.Endian.{big_bytes, big_number}
use Rattle.byteorder.specs.Numbers.{length-bytes_high_first, big_number-reads_back}
use Rattle.addr4.proofs.FrontLemmas.{front_below, front_again}
use Rattle.addr4.specs.Families.{in_front, IsAddress}
use Rattle.addr4.specs.Hosts.{is_host}
use Rattle.addr4.specs.Prefixes.{AddressPrefix}
use Rattle.bgp_attr.specs.declared.attrs.Aggregator.{Aggregator}
use Rattle.bgp_attr.specs.Attributes.{Attrs}
use Rattle.bgp_attr.specs.declared.attrs.Origin.{Origin}
use Rattle.bgp_attr.specs.declared.attrs.Origin.TheVariants.{Igp, Egp, Incomplete}
use Rattle.bgp_attr.specs.declared.path.Segment.{Segment}
use Rattle.bgp_attr.specs.declared.speaker.Profile.{Profile}
use Rattle.bgp_attr.specs.declared.unrecognized.Unrecognized.{Unrecognized}
use Rattle.bgp_attr.specs.Reflections.{Reflected}
use Rattle.bgp_wire.proofs.JudgedTypes.{TypeRule, Verdict, keep, discard, withdraw, any, fixed, fours, Place, first, middle, inner, last}
use Rattle.bgp_wire.specs.Faults.{notice, err_of}
use Rattle.bgp_wire.specs.Paths.{width_of}
use Rattle.bgp_wire.specs.Attributes.{Attribute, is_extended, IsAttribute, is_reflection, is_revised, hop_at, rule, reflection_rule, rule_of, milder, is_old_form, value_fault, judge_value, has_wrong_size, has_wrong_flags, judge_by, judgement, AreAttributes, kept_by}
use Rattle.bgp_wire.specs.Routes.{code_of_origin, is_unrecognized, AscendsFrom}
use Rattle.bgp_wire.specs.Spelling.{path_octets, is_long, spelled_octets, spelled, optional, aggregator_value, aggregator_flags, stands_in, unrecognized_attribute, unrecognized_attributes, mandatory_attributes, further_attributes, clusters_attributes, reflection_attributes, hop_attributes, reach_value, reach_attributes, unreach_value, sent_attributes, prefixes_octets, octets_of}
use Rattle.bgp_wire.specs.Readable.{IsReadableSegment, IsHost, reads_reflection, IsReadable, Speaks}
use Rattle.bgp_wire.specs.Prefixes.{ArePrefixes, prefixes_at}
use Rattle.bgp_wire.specs.Multiprotocol.{IsReach, IsUnreach, bad_value, reach_behind}
use Rattle.bgp_wire.proofs.MultiprotocolLaws.{reads_again, reach_back, unreach_back}
use Rattle.bgp_wire.proofs.TestLemmas.{unequal, and_left, and_right, not_both, not_true, or_false_left, or_false_right}
use Rattle.bgp_wire.proofs.PathLaws.{path_again}
use Rattle.bgp_wire.proofs.RouteLaws.{IsKept, IsGood}
use Rattle.wire_laws.proofs.SpelledNumbers.{all_first, all_later, all_cons, spelled_path}
use Rattle.bgp_wire.proofs.TypeLaws.{GoodType, is_special, no_reflection, no_multiprotocol, no_rule, rule_spoken}
use Rattle.bgp_wire.proofs.SpelledLengths.{length-numbers, length-reach-value, few_octets}

-- ---- one attribute

-- two octets of a length
length_octets : (n : ℕ) → n < 65536 → n / 256 % 256 * 256 + n % 256 ≡ n
length_octets n lt = omega arith

by_length : (flags kind : ℕ) (value : List ℕ) (long : Bool) → is_extended flags ≡ false → is_extended (flags + 16) ≡ true → length value < 65536
    → IsAttribute (record { flags = cond long (flags + 16) flags; kind = kind; value = value; octets = spelled_octets long flags kind value })
by_length flags kind value false short long fits = inl (record { flag = short; spelled = refl })
by_length flags kind value true short long fits = inr (record {
  high = length value / 256 % 256;
  low = length value % 256;
  flag = long;
  size = length_octets (length value) fits;
  spelled = refl;
})

spelled_is : (flags kind : ℕ) (value : List ℕ) → is_extended flags ≡ false → is_extended (flags + 16) ≡ true → length value < 65536 → IsAttribute (spelled flags kind value)
spelled_is flags kind value short long fits = by_length flags kind value (is_long value) short long fits

-- a recognized one
good_is_kept : (p : Profile) (external : Bool) (a : Attribute) (r : TypeRule) → rule_of p external a.kind ≡ Some r → (p.revised && (external && eqb a.kind 5)) ≡ false → IsGood p.as4 r a → IsKept p external a
good_is_kept p external a r ruled plain good =
    ap (judge_by p external a) ruled
    ∙ ap (λ b. cond b (Ok discard) (cond (has_wrong_flags r a) (milder (is_revised p a.kind) withdraw (notice 3 4 a.octets)) (cond (has_wrong_size r.size a.value) (milder (is_revised p a.kind) (cond (eqb a.kind 6 || eqb a.kind 7) discard withdraw) (notice 3 5 a.octets)) (judge_value (is_revised p a.kind) (value_fault p.as4 a))))) plain
    ∙ ap (λ b. cond b (milder (is_revised p a.kind) withdraw (notice 3 4 a.octets)) (cond (has_wrong_size r.size a.value) (milder (is_revised p a.kind) (cond (eqb a.kind 6 || eqb a.kind 7) discard withdraw) (notice 3 5 a.octets)) (judge_value (is_revised p a.kind) (value_fault p.as4 a)))) good.flags
    ∙ ap (λ b. cond b (milder (is_revised p a.kind) (cond (eqb a.kind 6 || eqb a.kind 7) discard withdraw) (notice 3 5 a.octets)) (judge_value (is_revised p a.kind) (value_fault p.as4 a))) good.size
    ∙ ap (judge_value (is_revised p a.kind)) good.value

flags_right : (flags kind : ℕ) (value octets : List ℕ) (long : Bool) (r : TypeRule)
    → has_wrong_flags r (record { flags = flags; kind = kind; value = value; octets = octets }) ≡ false
    → has_wrong_flags r (record { flags = flags + 16; kind = kind; value = value; octets = octets }) ≡ false
    → has_wrong_flags r (record { flags = cond long (flags + 16) flags; kind = kind; value = value; octets = octets }) ≡ false
flags_right flags kind value octets true r short long = long
flags_right flags kind value octets false r short long = short

not_five : (a b c : Bool) → c ≡ false → (a && (b && c)) ≡ false
not_five true true c e = e
not_five true false c e = refl
not_five false b c e = refl

-- what is known of each that is sent: it is an attribute, and it is kept
pub record IsSound (p : Profile) (external : Bool) (a : Attribute) : Type 0 where
  pub is : IsAttribute a
  pub kept : IsKept p external a

-- NEXT_HOP as it was
pub hop_back : (n : ℕ) → IsAddress false n → hop_at (big_bytes 4 (n / 2 ^ 96)) ≡ n
hop_back n is = ap in_front (big_number-reads_back 4 (n / 2 ^ 96) [] (front_below n is.0)) ∙ front_again n is.1

abbrev pub Fits16 : List ℕ → Type 0
Fits16 value = length value < 65536

sound_origin : (p : Profile) (external : Bool) (o : Origin) → IsSound p external (spelled 64 1 (code_of_origin o ∷ []))
unfolding rule_of value_fault
sound_origin p external o = record {
  is = spelled_is 64 1 (code_of_origin o ∷ []) refl refl (omega arith);
  kept = good_is_kept p external (spelled 64 1 (code_of_origin o ∷ [])) (record { optional = false; transitive = true; size = fixed 1 }) refl (not_five p.revised external false refl) (record { flags = refl; size = refl; value = by_code o });
}
  where
    by_code : (o : Origin) → value_fault p.as4 (spelled 64 1 (code_of_origin o ∷ [])) ≡ None
    by_code Igp = refl
    by_code Egp = refl
    by_code Incomplete = refl

sound_path : (p : Profile) (external : Bool) (path : List Segment) → All (IsReadableSegment p.as4) path → Fits16 (path_octets (width_of p.as4) path) → IsSound p external (spelled 64 2 (path_octets (width_of p.as4) path))
unfolding rule_of value_fault
sound_path p external path all fits =
    let value = path_octets (width_of p.as4) path in
    record {
      is = spelled_is 64 2 value refl refl fits;
      kept = good_is_kept p external (spelled 64 2 value) (record { optional = false; transitive = true; size = any }) refl (not_five p.revised external false refl) (record {
        flags = flags_right 64 2 value (spelled_octets (is_long value) 64 2 value) (is_long value) (record { optional = false; transitive = true; size = any }) refl refl;
        size = refl;
        value = ap err_of (path_again (width_of p.as4) value path (spelled_path p.as4 path all));
      });
    }

pub sound_next_hop : (p : Profile) (external : Bool) (n : ℕ) → IsHost false n → IsSound p external (spelled 64 3 (big_bytes 4 (n / 2 ^ 96)))
unfolding rule_of value_fault
sound_next_hop p external n host = record {
  is = spelled_is 64 3 (big_bytes 4 (n / 2 ^ 96)) refl refl (omega arith);
  kept = good_is_kept p external (spelled 64 3 (big_bytes 4 (n / 2 ^ 96))) (record { optional = false; transitive = true; size = fixed 4 }) refl (not_five p.revised external false refl) (record {
    flags = refl;
    size = refl;
    value = ap (λ b. cond b None (Some (notice 3 8 (spelled_octets false 64 3 (big_bytes 4 (n / 2 ^ 96)))))) (ap (is_host false) (hop_back n host.of) ∙ host.host);
  });
}

sound_med : (p : Profile) (external : Bool) (n : ℕ) → IsSound p external (spelled 128 4 (big_bytes 4 n))
unfolding rule_of value_fault
sound_med p external n = record {
  is = spelled_is 128 4 (big_bytes 4 n) refl refl (omega arith);
  kept = good_is_kept p external (spelled 128 4 (big_bytes 4 n)) (record { optional = true; transitive = false; size = fixed 4 }) refl (not_five p.revised external false refl) (record { flags = refl; size = refl; value = refl });
}

plain_internal : (a b : Bool) → b ≡ false → (a && (b && true)) ≡ false
plain_internal true b e = ap (λ b. b && true) e
plain_internal false b e = refl

sound_local_pref : (p : Profile) (external : Bool) (n : ℕ) → external ≡ false → IsSound p external (spelled 64 5 (big_bytes 4 n))
unfolding rule_of value_fault
sound_local_pref p external n internal = record {
  is = spelled_is 64 5 (big_bytes 4 n) refl refl (omega arith);
  kept = good_is_kept p external (spelled 64 5 (big_bytes 4 n)) (record { optional = false; transitive = true; size = fixed 4 }) refl (plain_internal p.revised external internal) (record { flags = refl; size = refl; value = refl });
}

sound_atomic : (p : Profile) (external : Bool) → IsSound p external (spelled 64 6 [])
unfolding rule_of value_fault
sound_atomic p external = record {
  is = spelled_is 64 6 [] refl refl (omega arith);
  kept = good_is_kept p external (spelled 64 6 []) (record { optional = false; transitive = true; size = fixed 0 }) refl (not_five p.revised external false refl) (record { flags = refl; size = refl; value = refl });
}

sound_aggregator_value : (p : Profile) (external : Bool) (partial : Bool) (value : List ℕ) → length value ≡ cond p.as4 8 6 → length value < 65536 → IsSound p external (spelled (aggregator_flags partial) 7 value)
unfolding rule_of value_fault
sound_aggregator_value p external partial value size fits = record {
  is = by_flags partial;
  kept = good_is_kept p external (spelled (aggregator_flags partial) 7 value) r refl (not_five p.revised external false refl) (record { flags = flags partial; size = ap not (eq-eqb _ _ size); value = refl });
}
  where
    r : TypeRule
    r = record { optional = true; transitive = true; size = fixed (cond p.as4 8 6) }

    by_flags : (b : Bool) → IsAttribute (spelled (aggregator_flags b) 7 value)
    by_flags true = spelled_is 224 7 value refl refl fits
    by_flags false = spelled_is 192 7 value refl refl fits

    flags : (b : Bool) → has_wrong_flags r (spelled (aggregator_flags b) 7 value) ≡ false
    flags true = flags_right 224 7 value (spelled_octets (is_long value) 224 7 value) (is_long value) r refl refl
    flags false = flags_right 192 7 value (spelled_octets (is_long value) 192 7 value) (is_long value) r refl refl

aggregator_size : (as4 : Bool) (n : ℕ) → n ≡ width_of as4 + 4 → (n ≡ cond as4 8 6) × (n < 65536)
aggregator_size true n e = (e, omega arith)
aggregator_size false n e = (e, omega arith)

sound_aggregator : (p : Profile) (external : Bool) (g : Aggregator) → IsSound p external (spelled (aggregator_flags g.partial) 7 (aggregator_value p.as4 g))
sound_aggregator p external g =
    let front = big_bytes (width_of p.as4) g.asn in
    let whole : length (aggregator_value p.as4 g) ≡ width_of p.as4 + 4 = omega (arith, length-append front (big_bytes 4 g.addr), length-bytes_high_first (width_of p.as4) g.asn) in
    let size = aggregator_size p.as4 (length (aggregator_value p.as4 g)) whole in
    sound_aggregator_value p external g.partial (aggregator_value p.as4 g) size.0 size.1

sound_unrecognized : (p : Profile) (external : Bool) (u : Unrecognized) → is_unrecognized p u.kind ≡ true → is_old_form p u.kind ≡ false → Fits16 u.value → IsSound p external (unrecognized_attribute u)
sound_unrecognized p external u unknown recent fits = record {
  is = spelled_is 224 u.kind u.value refl refl fits;
  kept = ap (judge_by p external (unrecognized_attribute u)) (no_rule p external u.kind unknown) ∙ judged (is_long u.value) (λ i. recent i || no_reflection p u.kind unknown i);
}
  where
    judged : (long : Bool) → (is_old_form p u.kind || is_reflection p u.kind) ≡ false
        → cond (not (eqb (cond long 240 224 / 128 % 2) 1)) (Err (notice 3 2 (spelled_octets (is_long u.value) 224 u.kind u.value))) (cond (eqb (cond long 240 224 / 64 % 2) 1 && not (is_old_form p u.kind || is_reflection p u.kind)) (Ok keep) (Ok discard)) ≡ Ok keep
    judged true e = ap (λ b. cond (not b) (Ok keep) (Ok discard)) e
    judged false e = ap (λ b. cond (not b) (Ok keep) (Ok discard)) e

-- what reflectors added

reads_both : (reflect external : Bool) → (reflect && not external) ≡ true → (not (reflect && true) || external) ≡ false
reads_both true false e = refl
reads_both true true e = absurd (cc)
reads_both false external e = absurd (cc)

pub not_spoken : (v6 : Bool) → (v6 && false) ≡ false
not_spoken true = refl
not_spoken false = refl

pub rule_at_9 : (p : Profile) (external : Bool) → reads_reflection p external ≡ true → rule_of p external 9 ≡ Some (record { optional = true; transitive = false; size = fixed 4 })
unfolding rule_of
rule_at_9 p external reads = ap (λ b. cond b (rule true false any) (reflection_rule p external 9)) (not_spoken p.v6) ∙ ap (λ b. cond b None (rule true false (fixed 4))) (reads_both p.reflect external reads)

pub rule_at_10 : (p : Profile) (external : Bool) → reads_reflection p external ≡ true → rule_of p external 10 ≡ Some (record { optional = true; transitive = false; size = fours })
unfolding rule_of
rule_at_10 p external reads = ap (λ b. cond b (rule true false any) (reflection_rule p external 10)) (not_spoken p.v6) ∙ ap (λ b. cond b None (rule true false fours)) (reads_both p.reflect external reads)

sound_originator : (p : Profile) (external : Bool) (n : ℕ) → reads_reflection p external ≡ true → IsSound p external (spelled 128 9 (big_bytes 4 n))
unfolding value_fault
sound_originator p external n reads = record {
  is = spelled_is 128 9 (big_bytes 4 n) refl refl (omega arith);
  kept = good_is_kept p external (spelled 128 9 (big_bytes 4 n)) (record { optional = true; transitive = false; size = fixed 4 }) (rule_at_9 p external reads) (not_five p.revised external false refl) (record { flags = refl; size = refl; value = refl });
}

fours_fit : (n k : ℕ) → n ≡ suc k * 4 → (eqb n 0 || not (eqb (n % 4) 0)) ≡ false
fours_fit n k e = λ i. unequal n 0 (λ z. absurd (omega arith)) i || not (eq-eqb (n % 4) 0 (omega arith) i)

sound_clusters : (p : Profile) (external : Bool) (c : ℕ) (cs : List ℕ) → reads_reflection p external ≡ true → Fits16 (flat_map (big_bytes 4) (c ∷ cs)) → IsSound p external (spelled 128 10 (flat_map (big_bytes 4) (c ∷ cs)))
unfolding value_fault
sound_clusters p external c cs reads fits =
    let value = flat_map (big_bytes 4) (c ∷ cs) in
    let r : TypeRule = record { optional = true; transitive = false; size = fours } in
    record {
      is = spelled_is 128 10 value refl refl fits;
      kept = good_is_kept p external (spelled 128 10 value) r (rule_at_10 p external reads) (not_five p.revised external false refl) (record {
        flags = flags_right 128 10 value (spelled_octets (is_long value) 128 10 value) (is_long value) r refl refl;
        size = fours_fit (length value) (length cs) (length-numbers 4 (c ∷ cs));
        value = refl;
      });
    }

-- MP_REACH_NLRI and MP_UNREACH_NLRI, by their types and what is read of their values

sound_spoken : (p : Profile) (external : Bool) (kind : ℕ) (value : List ℕ) → (eqb kind 14 || eqb kind 15) ≡ true → p.v6 ≡ true → Fits16 value → value_fault p.as4 (spelled 128 kind value) ≡ None → IsSound p external (spelled 128 kind value)
sound_spoken p external kind value two v6 fits good =
    let r : TypeRule = record { optional = true; transitive = false; size = any } in
    let five : eqb kind 5 ≡ false = unequal kind 5 (λ e. never (ap (λ n. eqb n 14 || eqb n 15) (sym e) ∙ two)) in
    record {
      is = spelled_is 128 kind value refl refl fits;
      kept = good_is_kept p external (spelled 128 kind value) r (rule_spoken p external kind (λ i. v6 i && two i)) (not_five p.revised external (eqb kind 5) five) (record {
        flags = flags_right 128 kind value (spelled_octets (is_long value) 128 kind value) (is_long value) r refl refl;
        size = refl;
        value = good;
      });
    }
  where
    never : false ≡ true → ⊥
    never e = absurd (cc)

pub reach_is : (hop : ℕ) (ps : List AddressPrefix) → IsHost true hop → ArePrefixes true (prefixes_octets ps) ps → IsReach (reach_value hop ps) (record { next_hop = hop; announced = ps })
reach_is hop ps host are = record {
  hop = big_bytes 16 hop;
  reserved = 0;
  prefixes = prefixes_octets ps;
  spelled = refl;
  size = inl refl;
  next_hop = sym (ap (big_number 16) (sym (append-nil (big_bytes 16 hop))) ∙ big_number-reads_back 16 hop [] host.of);
  host = host.host;
  announces = are;
}

sound_reach : (p : Profile) (external : Bool) (hop : ℕ) (ps : List AddressPrefix) → p.v6 ≡ true → IsHost true hop → ArePrefixes true (prefixes_octets ps) ps → Fits16 (reach_value hop ps) → IsSound p external (spelled 128 14 (reach_value hop ps))
unfolding value_fault
sound_reach p external hop ps v6 host are fits =
    let value = reach_value hop ps in
    let bad = bad_value (spelled_octets (is_long value) 128 14 value) in
    sound_spoken p external 14 value refl v6 fits (ap err_of (reads_again bad (reach_behind bad) IsReach (reach_back bad) value (record { next_hop = hop; announced = ps }) (reach_is hop ps host are)))

pub sound_unreach : (p : Profile) (external : Bool) (ps : List AddressPrefix) → p.v6 ≡ true → ArePrefixes true (prefixes_octets ps) ps → Fits16 (unreach_value ps) → IsSound p external (spelled 128 15 (unreach_value ps))
unfolding value_fault
sound_unreach p external ps v6 are fits =
    let value = unreach_value ps in
    let bad = bad_value (spelled_octets (is_long value) 128 15 value) in
    sound_spoken p external 15 value refl v6 fits (ap err_of (reads_again bad (prefixes_at true bad) IsUnreach (unreach_back bad) value ps (record { prefixes = prefixes_octets ps; spelled = refl; withdraws = are })))

-- ---- all that are sent

-- they are sound, and their types ascend from the first to below the end
abbrev pub AreSound : Profile → Bool → ℕ → ℕ → List Attribute → Type 0
AreSound p external from end [] = from ≤ end
AreSound p external from end (a ∷ rest) = (from ≤ a.kind) × IsSound p external a × AreSound p external (suc a.kind) end rest

sound_from : (p : Profile) (external : Bool) (from later end : ℕ) (xs : List Attribute) → from ≤ later → AreSound p external later end xs → AreSound p external from end xs
sound_from p external from later end [] le sound = omega arith
sound_from p external from later end (a ∷ rest) le sound = (omega (arith, sound.0), sound.1, sound.2)

sound_append : (p : Profile) (external : Bool) (from middle end : ℕ) (xs ys : List Attribute) → AreSound p external from middle xs → AreSound p external middle end ys → AreSound p external from end (xs ++ ys)
sound_append p external from middle end [] ys le sound = sound_from p external from middle end ys le sound
sound_append p external from middle end (x ∷ xs) ys first sound = (first.0, first.1, sound_append p external (suc x.kind) middle end xs ys first.2 sound)

sound_optional : {A : Type 0} (p : Profile) (external : Bool) (kind : ℕ) (f : A → Attribute) (o : Option A) → ((x : A) → o ≡ Some x → ((f x).kind ≡ kind) × IsSound p external (f x)) → AreSound p external kind (suc kind) (optional f o)
sound_optional p external kind f None each = omega arith
sound_optional p external kind f (Some x) each = let e = each x refl in (omega (arith, e.0), e.1, omega (arith, e.0))

sound_if : (p : Profile) (external : Bool) (kind : ℕ) (a : Attribute) (b : Bool) → a.kind ≡ kind → IsSound p external a → AreSound p external kind (suc kind) (cond b (a ∷ []) [])
sound_if p external kind a true e is = (omega arith, is, omega arith)
sound_if p external kind a false e is = omega arith

abbrev pub AllFit16 : List Unrecognized → Type 0
AllFit16 us = All (λ (u : Unrecognized). length u.value < 65536) us

-- the unrecognized ones of a place, by where their types begin and end
sound_place : (p : Profile) (external : Bool) (place : Place) (from end n : ℕ) (us : List Unrecognized) → AscendsFrom n us → All (GoodType p) us → AllFit16 us → from ≤ end
    → ((kind : ℕ) → n ≤ kind → is_unrecognized p kind ≡ true → stands_in place kind ≡ true → from ≤ kind) → All (λ (u : Unrecognized). stands_in place u.kind ≡ true → u.kind < end) us → AreSound p external from end (unrecognized_attributes place us)
sound_place p external place from end n [] order good fit le above below = le
sound_place p external place from end n (u ∷ us) order good fit le above below =
    by_place (stands_in place u.kind) refl
    (λ from le above. sound_place p external place from end (suc u.kind) us order.1 (all_later (GoodType p) u us good) (all_later (λ (u : Unrecognized). length u.value < 65536) u us fit) le above (all_later (λ (u : Unrecognized). stands_in place u.kind ≡ true → u.kind < end) u us below))
  where
    later : List Unrecognized
    later = filter (λ u. stands_in place u.kind) us

    by_place : (b : Bool) → stands_in place u.kind ≡ b
        → ((from : ℕ) → from ≤ end → ((kind : ℕ) → suc u.kind ≤ kind → is_unrecognized p kind ≡ true → stands_in place kind ≡ true → from ≤ kind) → AreSound p external from end (map unrecognized_attribute later))
        → AreSound p external from end (map unrecognized_attribute (cond b (u ∷ later) later))
    by_place true here rest =
        let g = all_first (GoodType p) u us good in (
          above u.kind order.0 g.0 here,
          sound_unrecognized p external u g.0 g.1 (all_first (λ (u : Unrecognized). length u.value < 65536) u us fit),
          rest (suc u.kind) (all_first (λ (u : Unrecognized). stands_in place u.kind ≡ true → u.kind < end) u us below here) (λ kind more unknown stands. more),
        )
    by_place false here rest = rest from le (λ kind more unknown stands. above kind (omega (arith, order.0)) unknown stands)

-- above all types
abbrev top : List Unrecognized → ℕ
top [] = 0
top (u ∷ us) = suc u.kind + top us

below_top : (P : Unrecognized → Type 0) (m : ℕ) (us : List Unrecognized) → top us ≤ m → All (λ (u : Unrecognized). P u → u.kind < m) us
below_top P m [] le = λ k d lt. absurd (omega arith)
below_top P m (u ∷ us) le = all_cons (λ (u : Unrecognized). P u → u.kind < m) u us (λ _. omega arith) (below_top P m us (omega arith))

-- the values of the attributes of any length fit the field of their length
pub record FitLengths (as4 : Bool) (a : Attrs) : Type 0 where
  pub path : Fits16 (path_octets (width_of as4) a.path)
  pub clusters : Fits16 (flat_map (big_bytes 4) a.reflection.clusters)
  pub unrecognized : AllFit16 a.unrecognized

sound_further : (p : Profile) (external : Bool) (v6 : Bool) (a : Attrs) → IsReadable v6 p external a → AreSound p external 4 8 (further_attributes p.as4 a)
sound_further p external v6 a is =
    sound_append p external 4 7 8 _ _
    (sound_append p external 4 6 7 _ _
    (sound_append p external 4 5 6 _ _
    (sound_optional p external 4 (λ n. spelled 128 4 (big_bytes 4 n)) a.med (λ n e. (refl, sound_med p external n)))
    (sound_optional p external 5 (λ n. spelled 64 5 (big_bytes 4 n)) a.local_pref (λ n e. (refl, sound_local_pref p external n (is.local_pref n e).0))))
    (sound_if p external 6 (spelled 64 6 []) a.atomic refl (sound_atomic p external)))
    (sound_optional p external 7 (λ g. spelled (aggregator_flags g.partial) 7 (aggregator_value p.as4 g)) a.aggregator (λ g e. (refl, sound_aggregator p external g)))

-- what reflectors added is read by a route reflector alone
pub nothing_added : (p : Profile) (external : Bool) (v6 : Bool) (a : Attrs) → IsReadable v6 p external a → p.reflect ≡ false → (a.reflection.originator ≡ None) × (a.reflection.clusters ≡ [])
nothing_added p external v6 a is plain = (no_originator a.reflection.originator refl, no_cluster a.reflection.clusters refl)
  where
    never : reads_reflection p external ≡ true → ⊥
    never reads = not_both p.reflect (and_left p.reflect (not external) reads) plain

    no_originator : (o : Option ℕ) → a.reflection.originator ≡ o → a.reflection.originator ≡ None
    no_originator None e = e
    no_originator (Some n) e = absurd (never (is.originator n e).0)

    no_cluster : (cs : List ℕ) → a.reflection.clusters ≡ cs → a.reflection.clusters ≡ []
    no_cluster [] e = e
    no_cluster (c ∷ cs) e = absurd (never (all_first (λ n. (reads_reflection p external ≡ true) × (n < 2 ^ 32)) c cs (subst (All (λ n. (reads_reflection p external ≡ true) × (n < 2 ^ 32))) e is.clusters)).0)

pub nothing_reflected : (p : Profile) (external : Bool) (v6 : Bool) (a : Attrs) → IsReadable v6 p external a → p.reflect ≡ false → reflection_attributes a.reflection ≡ []
nothing_reflected p external v6 a is plain =
    let none = nothing_added p external v6 a is plain in
    λ i. optional (λ n. spelled 128 9 (big_bytes 4 n)) (none.0 i) ++ clusters_attributes (none.1 i)

-- behind what reflectors added, where a route reflector reads
abbrev behind_reflection : Bool → ℕ
behind_reflection reflect = cond reflect 11 9

sound_reflection : (p : Profile) (external : Bool) (v6 : Bool) (a : Attrs) → IsReadable v6 p external a → Fits16 (flat_map (big_bytes 4) a.reflection.clusters) → AreSound p external 9 (behind_reflection p.reflect) (reflection_attributes a.reflection)
sound_reflection p external v6 a is fit = by_reflect p.reflect refl
  where
    clusters : (cs : List ℕ) → All (λ n. (reads_reflection p external ≡ true) × (n < 2 ^ 32)) cs → Fits16 (flat_map (big_bytes 4) cs) → AreSound p external 10 11 (clusters_attributes cs)
    clusters [] read fit = omega arith
    clusters (c ∷ cs) read fit = (omega arith, sound_clusters p external c cs (all_first (λ n. (reads_reflection p external ≡ true) × (n < 2 ^ 32)) c cs read).0 fit, omega arith)

    by_reflect : (b : Bool) → p.reflect ≡ b → AreSound p external 9 (behind_reflection b) (reflection_attributes a.reflection)
    by_reflect true e =
        sound_append p external 9 10 11 _ _
        (sound_optional p external 9 (λ n. spelled 128 9 (big_bytes 4 n)) a.reflection.originator (λ n e. (refl, sound_originator p external n (is.originator n e).0)))
        (clusters a.reflection.clusters is.clusters fit)
    by_reflect false e = subst (AreSound p external 9 9) (sym (nothing_reflected p external v6 a is e)) (omega arith)

-- an unrecognized type that is neither 0 nor 8 stands behind them
others_above : (p : Profile) (kind : ℕ) → is_unrecognized p kind ≡ true → not (eqb kind 0 || eqb kind 8) ≡ true → behind_reflection p.reflect ≤ kind
others_above p kind unknown stands = by_reflect p.reflect (no_reflection p kind unknown)
  where
    neither : (eqb kind 0 || eqb kind 8) ≡ false
    neither = not_true (eqb kind 0 || eqb kind 8) stands

    no_zero : eqb kind 0 ≡ false
    no_zero = or_false_left (eqb kind 0) (eqb kind 8) neither

    above_seven : (ltb 7 kind && not (is_special p kind)) ≡ true
    above_seven = ap (λ b. b || (ltb 7 kind && not (is_special p kind))) (sym no_zero) ∙ unknown

    nine : 9 ≤ kind
    nine = omega (arith, ltb-true 7 kind (and_left (ltb 7 kind) (not (is_special p kind)) above_seven), eqb-false kind 8 (or_false_right (eqb kind 0) (eqb kind 8) neither))

    by_reflect : (b : Bool) → (b && (eqb kind 9 || eqb kind 10)) ≡ false → behind_reflection b ≤ kind
    by_reflect true e = omega (arith, nine, eqb-false kind 9 (or_false_left (eqb kind 9) (eqb kind 10) e), eqb-false kind 10 (or_false_right (eqb kind 9) (eqb kind 10) e))
    by_reflect false e = nine

-- behind MP_REACH_NLRI
abbrev behind_reach : Bool → ℕ
behind_reach v6 = cond v6 15 14

last_above : (p : Profile) (v6 : Bool) (kind : ℕ) → Speaks p v6 → is_unrecognized p kind ≡ true → stands_in last kind ≡ true → behind_reach v6 ≤ kind
last_above p false kind speaks unknown stands = ltb-false kind 14 (not_true (ltb kind 14) (and_right (not (eqb kind 0 || eqb kind 8)) (not (ltb kind 14)) stands))
last_above p true kind speaks unknown stands =
    let from : 14 ≤ kind = ltb-false kind 14 (not_true (ltb kind 14) (and_right (not (eqb kind 0 || eqb kind 8)) (not (ltb kind 14)) stands)) in
    let none : (eqb kind 14 || eqb kind 15) ≡ false = ap (λ b. b && (eqb kind 14 || eqb kind 15)) (sym (speaks refl)) ∙ no_multiprotocol p kind unknown in
    omega (arith, from, eqb-false kind 14 (or_false_left (eqb kind 14) (eqb kind 15) none))

-- prefixes that are announced in a family that is spoken, one at most
pub record IsSpoken (p : Profile) (v6 : Bool) (ps : List AddressPrefix) : Type 0 where
  pub speaks : Speaks p v6
  pub are : ArePrefixes v6 (prefixes_octets ps) ps
  pub few : length ps ≤ 1

sound_hops : (p : Profile) (external : Bool) (v6 : Bool) (a : Attrs) → IsReadable v6 p external a → AreSound p external 3 4 (hop_attributes v6 a.next_hop)
sound_hops p external false a is = (omega arith, sound_next_hop p external a.next_hop is.next_hop, omega arith)
sound_hops p external true a is = omega arith

sound_reaches : (p : Profile) (external : Bool) (v6 : Bool) (a : Attrs) → IsReadable v6 p external a → (ps : List AddressPrefix) → IsSpoken p v6 ps → AreSound p external 14 (behind_reach v6) (reach_attributes v6 a.next_hop ps)
sound_reaches p external false a is ps spoken = omega arith
sound_reaches p external true a is ps spoken =
    (omega arith, sound_reach p external a.next_hop ps (spoken.speaks refl) is.next_hop spoken.are (omega (arith, length-reach-value a.next_hop ps, few_octets ps spoken.few)), omega arith)

pub sound_sent : (p : Profile) (external : Bool) (v6 : Bool) (a : Attrs) → IsReadable v6 p external a → FitLengths p.as4 a → (ps : List AddressPrefix) → IsSpoken p v6 ps → (end : ℕ) × AreSound p external 0 end (sent_attributes v6 p.as4 a ps)
sound_sent p external v6 a is fit ps spoken =
    let us = a.unrecognized in
    let between = behind_reflection p.reflect in
    let later = behind_reach v6 in
    let end = later + top us in
    let before : AreSound p external 0 1 (unrecognized_attributes first us) = sound_place p external first 0 1 0 us is.order is.types fit.unrecognized (omega arith) (λ kind le unknown stands. omega arith) (λ k d lt here. omega (arith, eqb-true _ 0 here)) in
    let mandatory : AreSound p external 1 4 (mandatory_attributes v6 p.as4 a) = (
      omega arith,
      sound_origin p external a.origin,
      (omega arith, sound_path p external a.path is.path fit.path, sound_hops p external v6 a is),
    ) in
    let eighth : AreSound p external 8 9 (unrecognized_attributes middle us) = sound_place p external middle 8 9 0 us is.order is.types fit.unrecognized (omega arith) (λ kind le unknown stands. omega (arith, eqb-true kind 8 stands)) (λ k d lt here. omega (arith, eqb-true _ 8 here)) in
    let others : AreSound p external between 14 (unrecognized_attributes inner us) =
    sound_place p external inner between 14 0 us is.order is.types fit.unrecognized (few p.reflect)
    (λ kind le unknown stands. others_above p kind unknown (and_left (not (eqb kind 0 || eqb kind 8)) (ltb kind 14) stands))
    (λ k d lt here. ltb-true _ 14 (and_right _ (ltb _ 14) here)) in
    let behind : AreSound p external later end (unrecognized_attributes last us) = sound_place p external last later end 0 us is.order is.types fit.unrecognized (omega arith) (λ kind le unknown stands. last_above p v6 kind spoken.speaks unknown stands) (below_top (λ (u : Unrecognized). stands_in last u.kind ≡ true) end us (omega arith)) in (
      end,
      sound_append p external 0 later end _ _
          (sound_append p external 0 14 later _ _
          (sound_append p external 0 between 14 _ _
          (sound_append p external 0 9 between _ _
          (sound_append p external 0 8 9 _ _ (sound_append p external 0 4 8 _ _ (sound_append p external 0 1 4 _ _ before mandatory) (sound_further p external v6 a is)) eighth)
          (sound_reflection p external v6 a is fit.clusters))
          others)
          (sound_reaches p external v6 a is ps spoken))
          behind,
    )
  where
    few : (b : Bool) → behind_reflection b ≤ 14
    few true = omega arith
    few false = omega arith

-- ---- they are read one after the other

-- none of the types that came is this one or a later one
abbrev pub IsBehind : ℕ → List ℕ → Type 0
IsBehind n seen = (kind : ℕ) → n ≤ kind → list_any (λ k. eqb k kind) seen ≡ false

any_append : (kind : ℕ) (xs ys : List ℕ) → list_any (λ k. eqb k kind) xs ≡ false → list_any (λ k. eqb k kind) ys ≡ false → list_any (λ k. eqb k kind) (xs ++ ys) ≡ false
any_append kind [] ys e f = f
any_append kind (x ∷ xs) ys e f =
    ap (λ b. b || list_any (λ k. eqb k kind) (xs ++ ys)) (or_false_left (eqb x kind) _ e) ∙ any_append kind xs ys (or_false_right (eqb x kind) _ e) f

still_behind : (n m : ℕ) (seen : List ℕ) → IsBehind n seen → n ≤ m → IsBehind (suc m) (seen ++ m ∷ [])
still_behind n m seen behind le kind above =
    any_append kind seen (m ∷ []) (behind kind (omega arith)) (ap (λ b. b || false) (unequal m kind (λ e. absurd (omega arith))))

judged : (p : Profile) (external : Bool) (seen : List ℕ) (a : Attribute) → list_any (λ k. eqb k a.kind) seen ≡ false → IsKept p external a → judgement p external seen a ≡ Ok keep
unfolding judgement
judged p external seen a new kept = ap (λ b. cond b (milder (is_revised p a.kind) discard (notice 3 1 [])) (judge_by p external a (rule_of p external a.kind))) new ∙ kept

abbrev pub all_kept : List Attribute → List (Attribute × Verdict)
all_kept xs = map (λ a. (a, keep)) xs

pub sound_are : (p : Profile) (external : Bool) (from end : ℕ) (seen : List ℕ) (xs : List Attribute) → IsBehind from seen → AreSound p external from end xs → AreAttributes p external seen (octets_of xs) (all_kept xs) false
sound_are p external from end seen [] behind sound = refl
sound_are p external from end seen (a ∷ rest) behind sound = (
  octets_of rest,
  refl,
  sound.1.is,
  judged p external seen a (behind a.kind sound.0) sound.1.kept,
  sound_are p external (suc a.kind) end (seen ++ a.kind ∷ []) rest (still_behind from a.kind seen behind sound.0) sound.2,
)

pub all_are_kept : (xs : List Attribute) → kept_by (all_kept xs) false ≡ (xs, false)
all_are_kept [] = refl
all_are_kept (a ∷ rest) = λ i. (a ∷ (all_are_kept rest i).0, (all_are_kept rest i).1)
