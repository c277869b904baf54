-- The data of the NOTIFICATION that answers a fault fits into a message.
use Rattle.std.proofs.Common.{◌≡◌, ℕ, zero, suc, ◌+◌, ◌-◌, ◌≤◌, Bool, true, false, not, ◌&&◌, ◌||◌, cond, List, [], ◌∷◌, ◌++◌, length, take, drop, get_or, Option, Some, None, Result, Ok, Err, nat_eq, nat_lt, refl, sym, subst, arith}
use Rattle.std.specs.Prelude.{option_and_then}
use Rattle.std.specs.List.{list_any}
use Rattle.std.proofs.lemmas.List.{length-take, length-drop}
use Rattle.std.proofs.lemmas.Bool.Decides.{nat_tests}
use Rattle.addr4.specs.Prefixes.{AddressPrefix}
use Rattle.bgp_attr.specs.declared.speaker.Profile.{Profile}
use Rattle.bgp_wire.specs.declared.notice.Notice.{Notice}
use Rattle.bgp_wire.specs.Notices.{FitsMessage}
use Rattle.bgp_wire.specs.Faults.{notice, ◌>>=◌, err_of}
use Rattle.bgp_wire.specs.Items.{items_within}
use Rattle.bgp_wire.specs.Prefixes.{prefix_at, prefixes_at, octets_for, masked}
use Rattle.bgp_wire.specs.Multiprotocol.{bad_value, announced_by, if_ipv6, is_hop_length, reach_behind, reach_at, unreach_at}
use Rattle.byteorder.specs.Endian.{big_number}
use Rattle.addr4.specs.Families.{bits_of}
use Rattle.addr4.specs.Hosts.{is_host}
use Rattle.bgp_wire.specs.Paths.{segment_at, segment_of, kind_of, path_at, width_of}
use Rattle.bgp_wire.specs.Attributes.{Attribute, Kept, is_revised, hop_at, judge_unrecognized, value_fault, judge_value, has_wrong_size, has_wrong_flags, judge_recognized, judge_by, rule_of, judgement, with_verdict, size_at, cut, attribute_at, attributes_step, attributes_within}
use Rattle.bgp_wire.specs.Updates.{Fields, header_at, fields_at, lack, lacks, missing, bad_prefix, reach_in, reading_at, content_for, content_at, fault, update, number_at, is_marked, has_wrong_length, length_field}

-- a fault has at most so many octets of data
abbrev pub LowFault : ℕ → Option Notice → Type 0
LowFault k None = Unit {0}
LowFault k (Some n) = length n.octets ≤ k

pub record IsLow {A : Type 0} (k : ℕ) (r : Result A Notice) : Type 0 where
  pub low : LowFault k (err_of r)

low_ok : {A : Type 0} {k : ℕ} {x : A} → IsLow k (Ok x)
low_ok = record { low = tt }

low_err : {A : Type 0} {k : ℕ} {n : Notice} → length n.octets ≤ k → IsLow {A = A} k (Err n)
low_err short = record { low = short }

low_none : {A : Type 0} {k code subcode : ℕ} → IsLow {A = A} k (Err (notice code subcode []))
low_none = record { low = omega arith }

low_bind : {A B : Type 0} (k : ℕ) (r : Result A Notice) (f : A → Result B Notice) → IsLow k r → ((x : A) → r ≡ Ok x → IsLow k (f x)) → IsLow k (r >>= f)
low_bind k (Ok x) f low rest = rest x refl
low_bind k (Err n) f low rest = record { low = low.low }

low_cond : {A : Type 0} (k : ℕ) (b : Bool) (x y : Result A Notice) → IsLow k x → IsLow k y → IsLow k (cond b x y)
low_cond k true x y one other = one
low_cond k false x y one other = other

-- a test and then another one, each with its fault
low_two : {A : Type 0} (k : ℕ) (a b : Bool) (m n : Notice) (x : A) → length m.octets ≤ k → length n.octets ≤ k → IsLow k (cond a (Err m) (cond b (Err n) (Ok x)))
low_two k true b m n x s t = record { low = s }
low_two k false true m n x s t = record { low = t }
low_two k false false m n x s t = record { low = tt }

items_low : {A : Type 0} (k : ℕ) (first_of : List ℕ → Result (A × List ℕ) Notice) → ((bytes : List ℕ) → IsLow k (first_of bytes)) → (n : ℕ) (bytes : List ℕ) → IsLow k (items_within first_of n bytes)
unfolding items_within
items_low k first_of low n [] = low_ok
items_low k first_of low zero (b ∷ bytes) = low_ok
items_low k first_of low (suc n) (b ∷ bytes) =
    low_bind _ _ (λ first. items_within first_of n first.1 >>= λ others. Ok (first.0 ∷ others)) (low (b ∷ bytes))
    (λ first _. low_bind _ _ (λ others. Ok (first.0 ∷ others)) (items_low k first_of low n first.1) (λ _ _. low_ok))

prefix_low : (k : ℕ) (v6 : Bool) (bad : Notice) → length bad.octets ≤ k → (bytes : List ℕ) → IsLow k (prefix_at v6 bad bytes)
unfolding prefix_at
prefix_low k v6 bad short [] = low_err short
prefix_low k v6 bad short (bits ∷ rest) = low_two k (nat_lt (bits_of v6) bits) (nat_lt (length rest) (octets_for bits)) bad bad (masked (take (octets_for bits) rest) bits, drop (octets_for bits) rest) short short

segment_low : (k width : ℕ) (bytes : List ℕ) → IsLow k (segment_at width bytes)
unfolding segment_at
segment_low k width [] = low_none
segment_low k width (code ∷ []) = low_none
segment_low k width (code ∷ count ∷ rest) = by_kind (kind_of code)
  where
    by_kind : (o : Option _) → IsLow k (segment_of width count rest o)
    by_kind None = low_none
    by_kind (Some kind) = low_cond _ _ _ _ low_none low_ok

value_low : (k : ℕ) (revised : Bool) (o : Option Notice) → LowFault k o → IsLow k (judge_value revised o)
value_low k revised None low = low_ok
value_low k revised (Some n) low = low_cond _ _ _ _ low_ok (low_err low)

prefixes_low : (k : ℕ) (v6 : Bool) (bad : Notice) → length bad.octets ≤ k → (bytes : List ℕ) → IsLow k (prefixes_at v6 bad bytes)
prefixes_low k v6 bad short bytes = items_low k (prefix_at v6 bad) (prefix_low k v6 bad short) (length bytes) bytes

ipv6_low : {A : Type 0} (k : ℕ) (bad : Notice) (read : List ℕ → Result A Notice) → length bad.octets ≤ k → ((rest : List ℕ) → IsLow k (read rest)) → (value : List ℕ) → IsLow k (if_ipv6 bad read value)
unfolding if_ipv6
ipv6_low k bad read short low [] = low_err short
ipv6_low k bad read short low (high ∷ []) = low_err short
ipv6_low k bad read short low (high ∷ next ∷ []) = low_err short
ipv6_low k bad read short low (high ∷ next ∷ subsequent ∷ rest) =
    low_cond k (nat_eq high 0 && (nat_eq next 2 && nat_eq subsequent 1)) _ _ (low_bind k (read rest) (λ x. Ok (Some x)) (low rest) (λ _ _. low_ok)) low_ok

reach_low : (k : ℕ) (bad : Notice) → length bad.octets ≤ k → (rest : List ℕ) → IsLow k (reach_behind bad rest)
unfolding reach_behind
reach_low k bad short [] = low_err short
reach_low k bad short (size ∷ rest) =
    low_cond k (not (is_hop_length size) || nat_lt (length rest) (size + 1)) _ _ (low_err short)
    (low_cond k (not (is_host true (big_number 16 rest))) _ _ (low_err short)
    (low_bind k (prefixes_at true bad (drop (size + 1) rest)) (λ announced. Ok (record { next_hop = big_number 16 rest; announced = announced })) (prefixes_low k true bad short (drop (size + 1) rest)) (λ _ _. low_ok)))

module _ (k : ℕ) (p : Profile) (external : Bool) (a : Attribute) (short : length a.octets ≤ k) where
  fault_by : (b : Bool) (subcode : ℕ) → LowFault k (cond b (Some (notice 3 subcode a.octets)) None)
  fault_by true subcode = short
  fault_by false subcode = tt

  fault_cond : (b : Bool) (x y : Option Notice) → LowFault k x → LowFault k y → LowFault k (cond b x y)
  fault_cond true x y low other = low
  fault_cond false x y low other = other

  path_low : (width : ℕ) → LowFault k (err_of (path_at width a.value))
  path_low width = let is : IsLow k (path_at width a.value) = items_low k (segment_at width) (segment_low k width) (length a.value) a.value in is.low

  value_fault_low : (as4 : Bool) → LowFault k (value_fault as4 a)
  unfolding value_fault
  value_fault_low as4 =
      let bad = bad_value a.octets in
      let origin = cond (nat_lt 2 (get_or a.value 0 0)) (Some (notice 3 6 a.octets)) None in
      let path = err_of (path_at (width_of as4) a.value) in
      let hop = cond (is_host false (hop_at a.value)) None (Some (notice 3 8 a.octets)) in
      let reach = err_of (reach_at bad a.value) in
      let unreach = err_of (unreach_at bad a.value) in
      let at_15 = cond (nat_eq a.kind 15) unreach None in
      let at_14 = cond (nat_eq a.kind 14) reach at_15 in
      let at_3 = cond (nat_eq a.kind 3) hop at_14 in
      fault_cond (nat_eq a.kind 1) origin (cond (nat_eq a.kind 2) path at_3) (fault_by (nat_lt 2 (get_or a.value 0 0)) 6)
      (fault_cond (nat_eq a.kind 2) path at_3 (path_low (width_of as4))
      (fault_cond (nat_eq a.kind 3) hop at_14 (fault_cond (is_host false (hop_at a.value)) None (Some (notice 3 8 a.octets)) tt short)
      (fault_cond (nat_eq a.kind 14) reach at_15 (ipv6_low k bad (reach_behind bad) short (reach_low k bad short) a.value).low
      (fault_cond (nat_eq a.kind 15) unreach None (ipv6_low k bad (prefixes_at true bad) short (prefixes_low k true bad short) a.value).low tt))))

  unrecognized_low : IsLow k (judge_unrecognized p a)
  unrecognized_low = low_cond _ _ _ _ (low_err short) (low_cond _ _ _ _ low_ok low_ok)

  recognized_low : (r : _) → IsLow k (judge_recognized p external a r)
  recognized_low r =
      low_cond k (p.revised && (external && nat_eq a.kind 5)) _ _ low_ok
      (low_cond k (has_wrong_flags r a) _ _ (low_cond k (is_revised p a.kind) _ _ low_ok (low_err short))
      (low_cond k (has_wrong_size r.size a.value) _ _ (low_cond k (is_revised p a.kind) _ _ low_ok (low_err short)) (value_low k (is_revised p a.kind) (value_fault p.as4 a) (value_fault_low p.as4))))

  by_rule : (o : Option _) → IsLow k (judge_by p external a o)
  by_rule None = unrecognized_low
  by_rule (Some r) = recognized_low r

  judgement_low : (seen : List ℕ) → IsLow k (judgement p external seen a)
  unfolding judgement
  judgement_low seen = low_cond k (list_any (λ kind. nat_eq kind a.kind) seen) _ _ (low_cond k (is_revised p a.kind) _ _ low_ok (low_none {code = 3} {subcode = 1})) (by_rule (rule_of p external a.kind))

-- an attribute and what follows it are parts of the octets
abbrev ArePartsOf : ℕ → Option (Attribute × List ℕ) → Type 0
ArePartsOf k None = Unit {0}
ArePartsOf k (Some x) = (length x.0.octets ≤ k) × (length x.1 ≤ k)

parts_of : (bytes : List ℕ) (k : ℕ) → length bytes ≤ k → ArePartsOf k (attribute_at bytes)
parts_of bytes k short = by_size (size_at bytes)
  where
    by_test : (b : Bool) (header : ℕ × ℕ) → ArePartsOf k (cond b None (Some (record { flags = get_or bytes 0 0; kind = get_or bytes 1 0; value = drop header.1 (take (header.1 + header.0) bytes); octets = take (header.1 + header.0) bytes }, drop (header.1 + header.0) bytes)))
    by_test true header = tt
    by_test false header = (omega (arith, length-take (header.1 + header.0) bytes), omega (arith, length-drop (header.1 + header.0) bytes))

    by_size : (o : Option (ℕ × ℕ)) → ArePartsOf k (option_and_then (cut bytes) o)
    by_size None = tt
    by_size (Some header) = by_test (nat_lt (length bytes) (header.1 + header.0)) header

step_low : (k : ℕ) (p : Profile) (external : Bool) (seen : List ℕ) (o : Option (Attribute × List ℕ)) (later : List ℕ → List ℕ → Result Kept Notice) → ArePartsOf k o → ((kinds rest : List ℕ) → length rest ≤ k → IsLow k (later kinds rest)) → IsLow k (attributes_step p external seen o later)
step_low k p external seen None later parts low = low_cond k p.revised _ _ low_ok (low_none {code = 3} {subcode = 1})
step_low k p external seen (Some x) later parts low =
    low_bind _ _ (λ verdict. later (seen ++ x.0.kind ∷ []) x.1 >>= λ kept. Ok (with_verdict verdict x.0 kept)) (judgement_low k p external x.0 parts.0 seen)
    (λ verdict _. low_bind _ _ (λ kept. Ok (with_verdict verdict x.0 kept)) (low (seen ++ x.0.kind ∷ []) x.1 parts.1) (λ _ _. low_ok))

attributes_low : (k n : ℕ) (p : Profile) (external : Bool) (seen bytes : List ℕ) → length bytes ≤ k → IsLow k (attributes_within n p external seen bytes)
unfolding attributes_within
attributes_low k n p external seen [] short = low_ok
attributes_low k zero p external seen (b ∷ bytes) short = low_ok
attributes_low k (suc n) p external seen (b ∷ bytes) short =
    step_low k p external seen (attribute_at (b ∷ bytes)) (λ kinds rest. attributes_within n p external kinds rest) (parts_of (b ∷ bytes) k short) (λ kinds rest low. attributes_low k n p external kinds rest low)

-- ---- the parts of a message
-- the attributes are no longer than what the header leaves
abbrev OnFields : ℕ → Result Fields Notice → Type 0
OnFields size (Ok f) = length f.attributes ≤ size - 23
OnFields size (Err n) = Unit {0}

pub record IsShorter (size : ℕ) (r : Result Fields Notice) : Type 0 where
  pub short : OnFields size r

fields_short : (bytes : List ℕ) → IsShorter (length bytes) (fields_at bytes)
unfolding fields_at
fields_short bytes = passed (nat_lt (length bytes) (number_at bytes 19 + 23)) (notice 3 1 []) _ (passed (nat_lt (length bytes) (number_at bytes 19 + number_at bytes (21 + number_at bytes 19) + 23)) (notice 3 1 []) _ (record { short = taken }))
  where
    passed : (b : Bool) (n : Notice) (r : Result Fields Notice) → IsShorter (length bytes) r → IsShorter (length bytes) (cond b (Err n) r)
    passed true n r rest = record { short = tt }
    passed false n r rest = rest

    taken : length (take (number_at bytes (21 + number_at bytes 19)) (drop (23 + number_at bytes 19) bytes)) ≤ length bytes - 23
    taken = omega (arith, length-take (number_at bytes (21 + number_at bytes 19)) (drop (23 + number_at bytes 19) bytes), length-drop (23 + number_at bytes 19) bytes)

fields_low : (k : ℕ) (bytes : List ℕ) → IsLow k (fields_at bytes)
unfolding fields_at
fields_low k bytes = low_two k (nat_lt (length bytes) (number_at bytes 19 + 23)) (nat_lt (length bytes) (number_at bytes 19 + number_at bytes (21 + number_at bytes 19) + 23)) (notice 3 1 []) (notice 3 1 []) _ (omega arith) (omega arith)

one_low : {A : Type 0} {k code subcode kind : ℕ} → 1 ≤ k → IsLow {A = A} k (Err (notice code subcode (kind ∷ [])))
one_low one = record { low = omega arith }

lack_low : (k : ℕ) (p : Profile) → 1 ≤ k → (o : Option ℕ) → IsLow k (lack p o)
lack_low k p one None = low_ok
lack_low k p one (Some kind) = low_cond _ _ _ _ low_ok (one_low one)

lacks_low : (k : ℕ) (p : Profile) → 1 ≤ k → (first second : List AddressPrefix) (kept : List Attribute) → IsLow k (lacks p first second kept)
lacks_low k p one [] [] kept = low_ok
lacks_low k p one [] (m ∷ ms) kept = lack_low k p one (missing false kept)
lacks_low k p one (n ∷ ns) ms kept = lack_low k p one (missing true kept)

reading_low : (p : Profile) (external : Bool) (bytes : List ℕ) → length bytes ≤ 4096 → IsLow 4073 (reading_at p external bytes)
unfolding reading_at
reading_low p external bytes top =
    low_bind _ _ _ (fields_low 4073 bytes) (λ f e.
    low_bind _ _ _ (prefixes_low 4073 false bad_prefix (omega arith) f.withdrawn) (λ w _.
    low_bind _ _ _ (attributes_low 4073 (length f.attributes) p external [] f.attributes (short f (subst (IsShorter (length bytes)) e (fields_short bytes)).short)) (λ k _.
    low_bind _ _ _ (prefixes_low 4073 false bad_prefix (omega arith) f.announced) (λ n _.
    low_bind _ _ _ (lacks_low 4073 p (omega arith) n (announced_by (reach_in p k.0)) k.0) (λ _ _. low_ok)))))
  where
    short : (f : Fields) → length f.attributes ≤ length bytes - 23 → length f.attributes ≤ 4073
    short f le = omega (arith, le, top)

content_low : (p : Profile) (external : Bool) (bytes : List ℕ) (kind : ℕ) → length bytes ≤ 4096 → IsLow 4073 (content_for p external bytes kind)
content_low p external bytes kind top =
    low_cond 4073 (nat_eq kind 1) _ _ low_ok (low_cond 4073 (nat_eq kind 3) _ _ low_ok (low_cond 4073 (nat_eq kind 4) _ _ low_ok (low_cond 4073 (nat_eq kind 5) _ _ low_ok
    (low_bind 4073 (reading_at p external bytes) (λ r. Ok (update r)) (reading_low p external bytes top) (λ _ _. low_ok)))))

-- a header without a fault is that of a message of at most 4,096 octets
abbrev OnKind : ℕ → Result ℕ Notice → Type 0
OnKind size (Ok kind) = size ≤ 4096
OnKind size (Err n) = Unit {0}

pub record IsTopped (size : ℕ) (r : Result ℕ Notice) : Type 0 where
  pub top : OnKind size r

-- the tests of a header, in their order
abbrev tested : (a b c d e : Bool) (m : List ℕ) (n : List ℕ) → ℕ → Result ℕ Notice
tested a b c d e m n kind =
    cond a (Err (notice 1 2 [])) (cond b (Err (notice 1 1 [])) (cond c (Err (notice 1 2 m)) (cond d (Err (notice 1 3 n)) (cond e (Err (notice 1 2 m)) (Ok kind)))))

tests_topped : (size : ℕ) (a b c d e : Bool) (m n : List ℕ) (kind : ℕ) → (c ≡ false → size ≤ 4096) → IsTopped size (tested a b c d e m n kind)
tests_topped size true b c d e m n kind top = record { top = tt }
tests_topped size false true c d e m n kind top = record { top = tt }
tests_topped size false false true d e m n kind top = record { top = tt }
tests_topped size false false false true e m n kind top = record { top = tt }
tests_topped size false false false false true m n kind top = record { top = tt }
tests_topped size false false false false false m n kind top = record { top = top refl }

tests_low : (k : ℕ) (a b c d e : Bool) (m n : List ℕ) (kind : ℕ) → length m ≤ k → length n ≤ k → IsLow k (tested a b c d e m n kind)
tests_low k true b c d e m n kind s t = low_none
tests_low k false true c d e m n kind s t = low_none
tests_low k false false true d e m n kind s t = record { low = s }
tests_low k false false false true e m n kind s t = record { low = t }
tests_low k false false false false true m n kind s t = record { low = s }
tests_low k false false false false false m n kind s t = low_ok

sized : (a b c : Bool) (n size : ℕ) → nat_lt 4096 n ≡ b → nat_eq n size ≡ c → (a || b || not c) ≡ false → size ≤ 4096
sized true b c n size le is e = absurd (cc)
sized false true c n size le is e = absurd (cc)
sized false false false n size le is e = absurd (cc)
sized false false true n size le is e = grind (arith, nat_tests)

abbrev as_tested : List ℕ → Result ℕ Notice
as_tested bytes =
    tested (nat_lt (length bytes) 19) (not (is_marked bytes)) (nat_lt (number_at bytes 16) 19 || nat_lt 4096 (number_at bytes 16) || not (nat_eq (number_at bytes 16) (length bytes)))
    (nat_eq (get_or bytes 18 0) 0 || nat_lt 5 (get_or bytes 18 0)) (has_wrong_length (get_or bytes 18 0) (length bytes)) (length_field bytes) (take 1 (drop 18 bytes)) (get_or bytes 18 0)

header_is : (bytes : List ℕ) → header_at bytes ≡ as_tested bytes
unfolding header_at
header_is bytes = refl

header_topped : (bytes : List ℕ) → IsTopped (length bytes) (header_at bytes)
header_topped bytes =
    subst (IsTopped (length bytes)) (sym (header_is bytes))
    (tests_topped (length bytes) (nat_lt (length bytes) 19) (not (is_marked bytes)) (nat_lt (number_at bytes 16) 19 || nat_lt 4096 (number_at bytes 16) || not (nat_eq (number_at bytes 16) (length bytes)))
    (nat_eq (get_or bytes 18 0) 0 || nat_lt 5 (get_or bytes 18 0)) (has_wrong_length (get_or bytes 18 0) (length bytes)) (length_field bytes) (take 1 (drop 18 bytes)) (get_or bytes 18 0)
    (λ e. sized (nat_lt (number_at bytes 16) 19) (nat_lt 4096 (number_at bytes 16)) (nat_eq (number_at bytes 16) (length bytes)) (number_at bytes 16) (length bytes) refl refl e))

header_low : (k : ℕ) (bytes : List ℕ) → 2 ≤ k → IsLow k (header_at bytes)
header_low k bytes two =
    subst (IsLow k) (sym (header_is bytes))
    (tests_low k (nat_lt (length bytes) 19) (not (is_marked bytes)) (nat_lt (number_at bytes 16) 19 || nat_lt 4096 (number_at bytes 16) || not (nat_eq (number_at bytes 16) (length bytes)))
    (nat_eq (get_or bytes 18 0) 0 || nat_lt 5 (get_or bytes 18 0)) (has_wrong_length (get_or bytes 18 0) (length bytes)) (length_field bytes) (take 1 (drop 18 bytes)) (get_or bytes 18 0)
    (omega (arith, length-take 2 (drop 16 bytes))) (omega (arith, length-take 1 (drop 18 bytes))))

fault_low : (p : Profile) (external : Bool) (bytes : List ℕ) → LowFault 4073 (fault p external bytes)
unfolding content_at
fault_low p external bytes =
    let is : IsLow 4073 (content_at p external bytes) = low_bind 4073 (header_at bytes) (λ kind. content_for p external bytes kind) (header_low 4073 bytes (omega arith)) (λ kind e. content_low p external bytes kind (subst (IsTopped (length bytes)) e (header_topped bytes)).top) in
    is.low

pub notice_fits : (p : Profile) (external : Bool) (bytes : List ℕ) (n : Notice) → fault p external bytes ≡ Some n → FitsMessage n
notice_fits p external bytes n e = let low : length n.octets ≤ 4073 = subst (LowFault 4073) e (fault_low p external bytes) in omega arith
