-- Words and the segments that they tell.
use Rattle.std.proofs.Common.{◌≡◌, ℕ, zero, suc, ◌+◌, ◌*◌, ◌%◌, ◌-◌, ◌^◌, ◌≤◌, ◌<◌, Bool, true, false, cond, eqb, List, [], ◌∷◌, ◌++◌, length, get_or, take, drop, refl, sym, ap, ◌∙◌, ◌≢◌, arith}
use Rattle.std.proofs.lemmas.List.{length-append, length-take-le, take-append-le, take_all}
use Rattle.std.proofs.lemmas.List.Sums.{sum_by-cons}
use Rattle.std.specs.Bool.{IsTrue, MatchBool}
use Rattle.std.specs.Cmp.Lexicographic.{told_text, pointwise}
use Rattle.bgp_attr.specs.declared.path.SegmentKind.{SegmentKind}
use Rattle.bgp_attr.specs.declared.path.SegmentKind.TheVariants.{Set, Sequence}
use Rattle.bgp_attr.specs.declared.path.Segment.{Segment}
use Rattle.bgp_attr.specs.Paths.{counted, hops}
use Rattle.bgp_attr.specs.Words.{head_of, count_in, kind_in, segments_after, missing_after}

-- ---- the first words of segments
pub count_of-head : (kind : SegmentKind) (count : ℕ) → count_in (head_of kind count) ≡ count
count_of-head Set count = omega arith
count_of-head Sequence count = omega arith

odd_is : (n : ℕ) → n ≡ 1 → cond (eqb n 1) Sequence Set ≡ Sequence
odd_is n e = rw e refl

even_is : (n : ℕ) → n ≡ 0 → cond (eqb n 1) Sequence Set ≡ Set
even_is n e = rw e refl

pub kind_of-head : (kind : SegmentKind) (count : ℕ) → kind_in (head_of kind count) ≡ kind
kind_of-head Set count = even_is (2 * count % 2) (omega arith)
kind_of-head Sequence count = odd_is ((2 * count + 1) % 2) (omega arith)

by_rest : (a b : ℕ) → a < 2 → b < 2 → cond (eqb a 1) Sequence Set ≡ cond (eqb b 1) Sequence Set → a ≡ b
by_rest zero zero p q e = refl
by_rest (suc zero) (suc zero) p q e = refl
by_rest zero (suc zero) p q e = absurd (cc)
by_rest (suc zero) zero p q e = absurd (cc)
by_rest (suc (suc a)) b p q e = absurd (omega arith)
by_rest zero (suc (suc b)) p q e = absurd (omega arith)
by_rest (suc zero) (suc (suc b)) p q e = absurd (omega arith)

same_head : (x y : ℕ) → kind_in x ≡ kind_in y → count_in x ≡ count_in y → x ≡ y
same_head x y kinds counts = let rests : x % 2 ≡ y % 2 = by_rest (x % 2) (y % 2) (omega arith) (omega arith) kinds in omega (arith, rests, counts)

-- ---- the segments behind some words
pub after_drop : (n : ℕ) (words : List ℕ) → segments_after n words ≡ segments_after 0 (drop n words)
after_drop zero words = refl
after_drop (suc n) [] = refl
after_drop (suc n) (word ∷ words) = after_drop n words

pub missing_drop : (n : ℕ) (words : List ℕ) → missing_after n words ≡ 0 → (n ≤ length words) × (missing_after 0 (drop n words) ≡ 0)
missing_drop zero words e = (omega arith, e)
missing_drop (suc n) [] e = absurd (omega arith)
missing_drop (suc n) (word ∷ words) e = let d = missing_drop n words e in (omega (arith, d.0), d.1)

-- the first segment, and those after it
pub first_segment : (head : ℕ) (words : List ℕ) → missing_after 0 (head ∷ words) ≡ 0
    → (count_in head ≤ length words) × (segments_after 0 (head ∷ words) ≡ record { kind = kind_in head; numbers = take (count_in head) words } ∷ segments_after 0 (drop (count_in head) words)) × (missing_after 0 (drop (count_in head) words) ≡ 0)
first_segment head words e =
    let d = missing_drop (count_in head) words e in
    let s : Segment = record { kind = kind_in head; numbers = take (count_in head) words } in
    (d.0, ap (λ ss. s ∷ ss) (after_drop (count_in head) words), d.1)

-- ---- words behind words
pub missing-append : (n : ℕ) (front words : List ℕ) → missing_after n front ≡ 0 → missing_after n (front ++ words) ≡ missing_after 0 words
missing-append zero [] words e = refl
missing-append (suc n) [] words e = absurd (omega arith)
missing-append zero (head ∷ front) words e = missing-append (count_in head) front words e
missing-append (suc n) (word ∷ front) words e = missing-append n front words e

pub segments-append : (n : ℕ) (front words : List ℕ) → missing_after n front ≡ 0 → segments_after n (front ++ words) ≡ segments_after n front ++ segments_after 0 words
segments-append zero [] words e = refl
segments-append (suc n) [] words e = absurd (omega arith)
segments-append zero (head ∷ front) words e =
    let fits = (missing_drop (count_in head) front e).0 in
    λ i. record { kind = kind_in head; numbers = take-append-le (count_in head) front words fits i } ∷ segments-append (count_in head) front words e i
segments-append (suc n) (word ∷ front) words e = segments-append n front words e

after-append : (numbers : List ℕ) (n : ℕ) (words : List ℕ) → segments_after (length numbers + n) (numbers ++ words) ≡ segments_after n words
after-append [] n words = let e : 0 + n ≡ n = omega arith in ap (λ k. segments_after k words) e
after-append (x ∷ numbers) n words = let e : suc (length numbers) + n ≡ suc (length numbers + n) = omega arith in ap (λ k. segments_after k (x ∷ numbers ++ words)) e ∙ after-append numbers n words

missing_after-append : (numbers : List ℕ) (n : ℕ) (words : List ℕ) → missing_after (length numbers + n) (numbers ++ words) ≡ missing_after n words
missing_after-append [] n words = let e : 0 + n ≡ n = omega arith in ap (λ k. missing_after k words) e
missing_after-append (x ∷ numbers) n words = let e : suc (length numbers) + n ≡ suc (length numbers + n) = omega arith in ap (λ k. missing_after k (x ∷ numbers ++ words)) e ∙ missing_after-append numbers n words

take-append : (numbers : List ℕ) (n : ℕ) (words : List ℕ) → take (length numbers + n) (numbers ++ words) ≡ numbers ++ take n words
take-append [] n words = let e : 0 + n ≡ n = omega arith in ap (λ k. take k words) e
take-append (x ∷ numbers) n words = let e : suc (length numbers) + n ≡ suc (length numbers + n) = omega arith in ap (λ k. take k (x ∷ numbers ++ words)) e ∙ ap (λ ns. x ∷ ns) (take-append numbers n words)

-- a segment of some numbers, and of the first n words behind them
pub one_block : (head n : ℕ) (numbers words : List ℕ) → count_in head ≡ length numbers + n
    → (segments_after 0 (head ∷ numbers ++ words) ≡ record { kind = kind_in head; numbers = numbers ++ take n words } ∷ segments_after n words) × (missing_after 0 (head ∷ numbers ++ words) ≡ missing_after n words)
one_block head n numbers words e =
    let s : List ℕ → Segment = λ ns. record { kind = kind_in head; numbers = ns } in (
      ap (λ k. s (take k (numbers ++ words)) ∷ segments_after k (numbers ++ words)) e ∙ (λ i. s (take-append numbers n words i) ∷ after-append numbers n words i),
      ap (λ k. missing_after k (numbers ++ words)) e ∙ missing_after-append numbers n words,
    )

-- ---- one more number
short : (n : ℕ) (words : List ℕ) → 0 < missing_after n words → segments_after n words ≡ [] → length words < n
short n [] lacks e = lacks
short zero (head ∷ words) lacks e = absurd (cc)
short (suc n) (word ∷ words) lacks e = let l = short n words lacks e in omega (arith, l)

none : (n : ℕ) (words : List ℕ) → length words ≤ n → segments_after n words ≡ []
none n [] le = refl
none zero (head ∷ words) le = absurd (omega arith)
none (suc n) (word ∷ words) le = none n words (omega arith)

pub missing-more : (n : ℕ) (words : List ℕ) (asn : ℕ) → 0 < missing_after n words → missing_after n (words ++ asn ∷ []) + 1 ≡ missing_after n words
missing-more zero [] asn lacks = absurd (omega arith)
missing-more (suc n) [] asn lacks = omega arith
missing-more zero (head ∷ words) asn lacks = missing-more (count_in head) words asn lacks
missing-more (suc n) (word ∷ words) asn lacks = missing-more n words asn lacks

not_nil : (front : List Segment) (s : Segment) → [] ≡ front ++ s ∷ [] → ⊥
not_nil [] s e = cc
not_nil (x ∷ front) s e = cc

full : (n : ℕ) (words : List ℕ) (front : List Segment) (s : Segment) → segments_after n words ≡ front ++ s ∷ [] → n ≤ length words
full n [] front s e = absurd (not_nil front s e)
full zero (head ∷ words) front s e = omega arith
full (suc n) (word ∷ words) front s e = let l = full n words front s e in omega (arith, l)

abbrev with_more : Segment → ℕ → Segment
with_more s asn = record { kind = s.kind; numbers = s.numbers ++ asn ∷ [] }

pub one_more : (n : ℕ) (words : List ℕ) (asn : ℕ) (front : List Segment) (s : Segment) → 0 < missing_after n words → segments_after n words ≡ front ++ s ∷ [] → segments_after n (words ++ asn ∷ []) ≡ front ++ with_more s asn ∷ []
one_more n [] asn front s lacks e = absurd (not_nil front s e)
one_more (suc n) (word ∷ words) asn front s lacks e = one_more n words asn front s lacks e
one_more zero (head ∷ words) asn [] s lacks e =
    let count = count_in head in
    let here : record { kind = kind_in head; numbers = take count words } ≡ s = cc in
    let no_more : segments_after count words ≡ [] = cc in
    let less : length words < count = short count words lacks no_more in
    let all : take count words ≡ words = take_all count words (omega arith) in
    let all_more : take count (words ++ asn ∷ []) ≡ words ++ asn ∷ [] = take_all count (words ++ asn ∷ []) (omega (arith, length-append words (asn ∷ []))) in
    let still : segments_after count (words ++ asn ∷ []) ≡ [] = none count (words ++ asn ∷ []) (omega (arith, length-append words (asn ∷ []))) in
    (λ i. record { kind = kind_in head; numbers = (all_more ∙ ap (λ ns. ns ++ asn ∷ []) (sym all)) i } ∷ still i) ∙ ap (λ (x : Segment). with_more x asn ∷ []) here
one_more zero (head ∷ words) asn (x ∷ front) s lacks e =
    let count = count_in head in
    let here : record { kind = kind_in head; numbers = take count words } ≡ x = cc in
    let later : segments_after count words ≡ front ++ s ∷ [] = cc in
    let stays : take count (words ++ asn ∷ []) ≡ take count words = take-append-le count words (asn ∷ []) (full count words front s later) in
    (λ i. record { kind = kind_in head; numbers = stays i } ∷ one_more count words asn front s lacks later i) ∙ ap (λ y. y ∷ front ++ with_more s asn ∷ []) here

-- ---- the words are those of the segments
pub same_words : (n : ℕ) (left right : List ℕ) → missing_after n left ≡ 0 → missing_after n right ≡ 0 → take n left ≡ take n right → segments_after n left ≡ segments_after n right → left ≡ right
same_words n [] [] p q t e = refl
same_words zero [] (y ∷ right) p q t e = absurd (cc)
same_words zero (x ∷ left) [] p q t e = absurd (cc)
same_words (suc n) [] (y ∷ right) p q t e = absurd (cc)
same_words (suc n) (x ∷ left) [] p q t e = absurd (cc)
same_words (suc n) (x ∷ left) (y ∷ right) p q t e =
    let here : x ≡ y = cc in
    let later : take n left ≡ take n right = cc in
    λ i. here i ∷ same_words n left right p q later e i
same_words zero (x ∷ left) (y ∷ right) p q t e =
    let s : Segment = record { kind = kind_in x; numbers = take (count_in x) left } in
    let t : Segment = record { kind = kind_in y; numbers = take (count_in y) right } in
    let one : s ≡ t = cc in
    let others : segments_after (count_in x) left ≡ segments_after (count_in y) right = cc in
    let numbers : take (count_in x) left ≡ take (count_in y) right = ap (λ (s : Segment). s.numbers) one in
    let counts : count_in x ≡ count_in y =
    sym (length-take-le (count_in x) left (missing_drop (count_in x) left p).0) ∙ ap length numbers ∙ length-take-le (count_in y) right (missing_drop (count_in y) right q).0 in
    let here : x ≡ y = same_head x y (ap (λ (s : Segment). s.kind) one) counts in
    let q' : missing_after (count_in x) right ≡ 0 = ap (λ n. missing_after n right) counts ∙ q in
    λ i. here i ∷ same_words (count_in x) left right p q' (numbers ∙ ap (λ n. take n right) (sym counts)) (others ∙ ap (λ n. segments_after n right) (sym counts)) i

pub same_path : (left right : List ℕ) (left_path right_path : List Segment) (b : Bool) → b ≡ pointwise eqb left right → segments_after 0 left ≡ left_path → segments_after 0 right ≡ right_path → missing_after 0 left ≡ 0 → missing_after 0 right ≡ 0
    → (IsTrue b → left_path ≡ right_path) × (left_path ≡ right_path → IsTrue b)
same_path left right left_path right_path b e l r p q = by_test b (told_text left right b e)
  where
    by_test : (b : Bool) → MatchBool b (left ≡ right) (left ≢ right) → (IsTrue b → left_path ≡ right_path) × (left_path ≡ right_path → IsTrue b)
    by_test true told = (λ _. sym l ∙ ap (segments_after 0) told ∙ r, λ _. refl)
    by_test false told = (λ h. absurd (cc), λ same. absurd (told (same_words 0 left right p q refl (l ∙ same ∙ sym r))))

-- ---- the words of a path, the first one apart
pub splits : (words : List ℕ) (count : ℕ) → 1 ≤ length words → missing_after 0 words ≡ 0 → count ≡ count_in (get_or words 0 0)
    → (count ≤ length (take (length words - 1) (drop 1 words)))
    × (segments_after 0 words ≡ record { kind = kind_in (get_or words 0 0); numbers = take count (take (length words - 1) (drop 1 words)) } ∷ segments_after 0 (drop count (take (length words - 1) (drop 1 words))))
    × (missing_after 0 (drop count (take (length words - 1) (drop 1 words))) ≡ 0)
splits [] count some complete e = absurd (omega arith)
splits (head ∷ words) count some complete e =
    let f = first_segment head words complete in
    let behind : take (suc (length words) - 1) words ≡ words = take_all (suc (length words) - 1) words (omega arith) in
    rw (behind, e) f

no_more_than_words : (n : ℕ) (words : List ℕ) → length (segments_after n words) ≤ length words
no_more_than_words n [] = omega arith
no_more_than_words zero (head ∷ words) = let l = no_more_than_words (count_in head) words in omega (arith, l)
no_more_than_words (suc n) (word ∷ words) = let l = no_more_than_words n words in omega (arith, l)

pub few_segments : (words lent : List ℕ) (path : List Segment) → segments_after 0 words ≡ path → lent ≡ words → length lent < 2 ^ 62 → length path < 2 ^ 62
few_segments words lent path e f few = omega (arith, ap length e, ap length f, no_more_than_words 0 words)

-- ---- how much is counted
take-rest : (n : ℕ) (words : List ℕ) → length (take n words) + (length words - n) ≤ suc (length words)
take-rest zero words = omega arith
take-rest (suc n) [] = omega arith
take-rest (suc n) (word ∷ words) = omega (arith, take-rest n words)

counted-le : (kind : SegmentKind) (n : ℕ) (words : List ℕ) → counted kind (take n words) + (length words - n) ≤ suc (length words)
counted-le Set n words = omega arith
counted-le Sequence n words = take-rest n words

hops-after : (n : ℕ) (words : List ℕ) → hops (segments_after n words) ≤ length words - n
hops-after n [] = omega arith
hops-after zero (head ∷ words) =
    let e : hops (segments_after 0 (head ∷ words)) ≡ counted (kind_in head) (take (count_in head) words) + hops (segments_after (count_in head) words) =
    sum_by-cons (λ (s : Segment). counted s.kind s.numbers) (record { kind = kind_in head; numbers = take (count_in head) words }) (segments_after (count_in head) words) in
    omega (arith, e, hops-after (count_in head) words, counted-le (kind_in head) (count_in head) words)
hops-after (suc n) (word ∷ words) = omega (arith, hops-after n words)

-- no more than there are words
pub few_hops : (words : List ℕ) → hops (segments_after 0 words) ≤ length words
few_hops words = omega (arith, hops-after 0 words)
