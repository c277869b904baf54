-- A file has one text and one end.
use Rattle.std.proofs.Common.{◌≡◌, ℕ, ◌+◌, ◌<◌, ◌≤◌, Bool, List, [], ◌∷◌, ◌++◌, length, take, drop, Option, Some, None, refl, sym, ap, ◌∙◌, subst, arith, append_assoc, length-append}
use Rattle.std.proofs.lemmas.List.{take_at, drop_at}
use Rattle.std.specs.List.{AllByRecursion, flat_map}
use Rattle.mrt_reader.specs.Records.{Record, IsRecord, octets_of, length_in}
use Rattle.mrt_reader.specs.Fields.{said, Malformed}
use Rattle.mrt_reader.specs.Lines.{text_of}
use Rattle.mrt_reader.specs.Sessions.{nothing_written, after_all, records_lines}
use Rattle.mrt_reader.specs.Files.{IsSound, IsEnd, IsTextOf, end_text}
use Rattle.mrt_reader.specs.declared.answer.Code.{Code}
use Rattle.mrt_reader.specs.declared.answer.Code.TheVariants.{M1, M2, M3}

-- two lists of the same length with something behind
same_parts : (xs ys a b : List ℕ) → length xs ≡ length ys → xs ++ a ≡ ys ++ b → (xs ≡ ys) × (a ≡ b)
same_parts xs ys a b size e = (
  sym (take_at xs a (length xs) refl) ∙ (ap (take (length xs)) e ∙ take_at ys b (length xs) (sym size)),
  sym (drop_at xs a (length xs) refl) ∙ (ap (drop (length xs)) e ∙ drop_at ys b (length xs) (sym size)),
)

-- one record stands at the front of octets
one_record : (r s : Record) (a b : List ℕ) → IsRecord r → IsRecord s → octets_of r ++ a ≡ octets_of s ++ b → (r ≡ s) × (a ≡ b)
one_record r s a b is other e =
    let apart : r.head ++ (r.body ++ a) ≡ s.head ++ (s.body ++ b) = sym (append_assoc r.head r.body a) ∙ (e ∙ append_assoc s.head s.body b) in
    let head = same_parts r.head s.head (r.body ++ a) (s.body ++ b) (is.head ∙ sym other.head) apart in
    let body = same_parts r.body s.body a b (is.body ∙ (ap length_in head.0 ∙ sym other.body)) head.1 in
    (λ i. record { head = head.0 i; body = body.0 i }, body.1)

some_octets : (r : Record) (a : List ℕ) → IsRecord r → 0 < length (octets_of r ++ a)
some_octets r a is = omega (arith, is.head, length-append (octets_of r) a, length-append r.head r.body)

-- where reading ends no sound record stands
no_record : (as4 : Bool) (n : ℕ) (rest : List ℕ) (end : Option Code) (r : Record) (a : List ℕ) → IsEnd as4 n rest end → n < 1000000000 → IsSound as4 r → rest ≡ octets_of r ++ a → ⊥
no_record as4 n rest None r a ends few sound e = let some = some_octets r a sound.whole in omega (arith, some, ap length e, ap length ends)
no_record as4 n rest (Some M1) r a ends few sound e = ends.2 r a sound.whole e
no_record as4 n rest (Some M2) r a ends few sound e =
    let same = one_record r ends.1.0 a ends.1.1 sound.whole ends.1.2 (sym e ∙ ends.1.3) in
    sound.formed (subst (λ (s : Record). said as4 s ≡ Malformed) (sym same.0) ends.1.4)
no_record as4 n rest (Some M3) r a ends few sound e = omega (arith, few, ends.0)

-- the same records stand before the end
pub record SameRecords (rs ss : List Record) (a b : List ℕ) : Type 0 where
  pub records : rs ≡ ss
  pub rest : a ≡ b

same_records : (as4 : Bool) (k : ℕ) (rs ss : List Record) (a b : List ℕ) (end other : Option Code) → AllByRecursion (IsSound as4) rs → AllByRecursion (IsSound as4) ss → flat_map octets_of rs ++ a ≡ flat_map octets_of ss ++ b → IsEnd as4 (k + length rs) a end → IsEnd as4 (k + length ss) b other → k + length rs ≤ 1000000000 → k + length ss ≤ 1000000000 → SameRecords rs ss a b
same_records as4 k [] [] a b end other each all e ends stops few less = record { records = refl; rest = e }
same_records as4 k [] (s ∷ ss) a b end other each all e ends stops few less =
    absurd (no_record as4 (k + 0) a end s (flat_map octets_of ss ++ b) ends (omega (arith, less)) all.0 (e ∙ append_assoc (octets_of s) (flat_map octets_of ss) b))
same_records as4 k (r ∷ rs) [] a b end other each all e ends stops few less =
    absurd (no_record as4 (k + 0) b other r (flat_map octets_of rs ++ a) stops (omega (arith, few)) each.0 (sym e ∙ append_assoc (octets_of r) (flat_map octets_of rs) a))
same_records as4 k (r ∷ rs) (s ∷ ss) a b end other each all e ends stops few less =
    let one = one_record r s (flat_map octets_of rs ++ a) (flat_map octets_of ss ++ b) each.0.whole all.0.whole
    (sym (append_assoc (octets_of r) (flat_map octets_of rs) a) ∙ (e ∙ append_assoc (octets_of s) (flat_map octets_of ss) b)) in
    let left : k + length (r ∷ rs) ≡ k + 1 + length rs = omega arith in
    let right : k + length (s ∷ ss) ≡ k + 1 + length ss = omega arith in
    let more = same_records as4 (k + 1) rs ss a b end other each.1 all.1 one.1 (subst (λ (n : ℕ). IsEnd as4 n a end) left ends) (subst (λ (n : ℕ). IsEnd as4 n b other) right stops) (omega (arith, few)) (omega (arith, less)) in
    record { records = λ i. one.0 i ∷ more.records i; rest = more.rest }

-- one end
one_end : (as4 : Bool) (n : ℕ) (rest : List ℕ) (end other : Option Code) → IsEnd as4 n rest end → IsEnd as4 n rest other → end ≡ other
one_end as4 n rest None None p q = refl
one_end as4 n rest None (Some M1) p q = absurd (omega (arith, ap length p, q.1))
one_end as4 n rest None (Some M2) p q = let some = some_octets q.1.0 q.1.1 q.1.2 in absurd (omega (arith, some, ap length p, ap length q.1.3))
one_end as4 n rest None (Some M3) p q = absurd (omega (arith, ap length p, q.1))
one_end as4 n rest (Some M1) None p q = absurd (omega (arith, ap length q, p.1))
one_end as4 n rest (Some M1) (Some M1) p q = refl
one_end as4 n rest (Some M1) (Some M2) p q = absurd (p.2 q.1.0 q.1.1 q.1.2 q.1.3)
one_end as4 n rest (Some M1) (Some M3) p q = absurd (omega (arith, p.0, q.0))
one_end as4 n rest (Some M2) None p q = let some = some_octets p.1.0 p.1.1 p.1.2 in absurd (omega (arith, some, ap length q, ap length p.1.3))
one_end as4 n rest (Some M2) (Some M1) p q = absurd (q.2 p.1.0 p.1.1 p.1.2 p.1.3)
one_end as4 n rest (Some M2) (Some M2) p q = refl
one_end as4 n rest (Some M2) (Some M3) p q = absurd (omega (arith, p.0, q.0))
one_end as4 n rest (Some M3) None p q = absurd (omega (arith, ap length q, p.1))
one_end as4 n rest (Some M3) (Some M1) p q = absurd (omega (arith, p.0, q.0))
one_end as4 n rest (Some M3) (Some M2) p q = absurd (omega (arith, p.0, q.0))
one_end as4 n rest (Some M3) (Some M3) p q = refl

pub one_text : (as4 : Bool) (file a b : List ℕ) (end other : Option Code) → IsTextOf as4 file a end → IsTextOf as4 file b other → (a ≡ b) × (end ≡ other)
one_text as4 file a b end other p q =
    let rs = p.read.records in
    let ss = q.read.records in
    let left : 0 + length rs ≡ p.number = omega (arith, p.read.count) in
    let right : 0 + length ss ≡ q.number = omega (arith, q.read.count) in
    let whole : flat_map octets_of rs ++ p.rest ≡ flat_map octets_of ss ++ q.rest =
    (λ i. sym p.read.whole i ++ p.rest) ∙ (sym p.split ∙ (q.split ∙ (λ i. q.read.whole i ++ q.rest))) in
    let same = same_records as4 0 rs ss p.rest q.rest end other p.read.each q.read.each whole (subst (λ (n : ℕ). IsEnd as4 n p.rest end) (sym left) p.ends) (subst (λ (n : ℕ). IsEnd as4 n q.rest other) (sym right) q.ends) (omega (arith, left, p.read.few)) (omega (arith, right, q.read.few)) in
    let count : p.number ≡ q.number = p.read.count ∙ (ap length same.records ∙ sym q.read.count) in
    let ends : end ≡ other = one_end as4 q.number q.rest end other (subst (λ (n : ℕ). IsEnd as4 n q.rest end) count (subst (λ (xs : List ℕ). IsEnd as4 p.number xs end) same.rest p.ends)) q.ends in
    let lines : p.lines ≡ q.lines = p.read.lines ∙ (ap (λ xs. text_of (records_lines as4 nothing_written xs)) same.records ∙ sym q.read.lines) in
    let written : p.written ≡ q.written = p.read.behind ∙ (ap (λ xs. after_all nothing_written (records_lines as4 nothing_written xs)) same.records ∙ sym q.read.behind) in
    (p.said ∙ ((λ i. lines i ++ end_text (count i) (written i) (ends i)) ∙ sym q.said), ends)
