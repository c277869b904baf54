-- The marks of the words of a path.
use Rattle.std.proofs.Common.{◌≡◌, ℕ, zero, suc, ◌^◌, ◌%◌, ◌<◌, Bool, false, eqb, List, [], ◌∷◌, take, drop, max, refl, sym, ap, subst, ◌∙◌, arith}
use Rattle.std.specs.Prelude.{IsTrue, ◌↔◌, Contains, fold}
use Rattle.std.specs.Int.{bit_at}
use Rattle.std.proofs.lemmas.Bool.{eqb-false}
use Rattle.std.proofs.lemmas.Nat.Bits.{bit_at_or, bit_at-lt, bit_at-pow_same}
use Rattle.std.proofs.lemmas.List.{take-append-drop}
use Rattle.std.proofs.lemmas.List.Elements.{Contains-append_left}
use Rattle.bgp_attr.specs.declared.path.Segment.{Segment}
use Rattle.bgp_attr.specs.Paths.{HasAs}
use Rattle.bgp_attr.specs.Words.{count_in, segments_after, missing_after, with_mark, marks_of, IsMarked}
use Rattle.bgp_attr.proofs.WordLaws.{same_words}

-- ---- a word that is marked
most_left : (a b : ℕ) → a ≡ 1 → b < 2 → max a b ≡ 1
most_left a zero e less = rw e refl
most_left a (suc zero) e less = rw e refl
most_left a (suc (suc b)) e less = absurd (omega arith)

most_right : (a b : ℕ) → a < 2 → b ≡ 1 → max a b ≡ 1
most_right zero b less e = rw e refl
most_right (suc zero) b less e = rw e refl
most_right (suc (suc a)) b less e = absurd (omega arith)

still_marked : (marks word other : ℕ) → IsMarked marks word → IsMarked (with_mark marks other) word
still_marked marks word other is =
    let place = word % 64 in
    bit_at_or marks (2 ^ (other % 64)) place ∙ most_left (bit_at marks place) (bit_at (2 ^ (other % 64)) place) is (bit_at-lt (2 ^ (other % 64)) place)

then_marked : (marks word : ℕ) → IsMarked (with_mark marks word) word
then_marked marks word =
    let place = word % 64 in
    bit_at_or marks (2 ^ place) place ∙ most_right (bit_at marks place) (bit_at (2 ^ place) place) (bit_at-lt marks place) (bit_at-pow_same place)

stays_marked : (words : List ℕ) (marks word : ℕ) → IsMarked marks word → IsMarked (fold with_mark marks words) word
stays_marked [] marks word is = is
stays_marked (x ∷ words) marks word is = stays_marked words (with_mark marks x) word (still_marked marks word x is)

all_marked : (words : List ℕ) (marks word : ℕ) → Contains words word → IsMarked (fold with_mark marks words) word
all_marked [] marks word (k, less, at) = absurd (omega (arith, less))
all_marked (x ∷ words) marks word (zero, less, at) = stays_marked words (with_mark marks x) word (subst (λ y. IsMarked (with_mark marks x) y) at (then_marked marks x))
all_marked (x ∷ words) marks word (suc k, less, at) = all_marked words (with_mark marks x) word (k, omega (arith, less), at)

-- ---- the numbers of a path are among its words
behind : (word : ℕ) (words : List ℕ) (asn : ℕ) → Contains words asn → Contains (word ∷ words) asn
behind word words asn (k, less, at) = (suc k, omega (arith, less), at)

among_words : (n : ℕ) (words : List ℕ) (asn : ℕ) → HasAs (segments_after n words) asn → Contains words asn
among_words n [] asn (i, s, less, at, is) = absurd (omega (arith, less))
among_words (suc n) (word ∷ words) asn has = behind word words asn (among_words n words asn has)
among_words zero (head ∷ words) asn (suc i, s, less, at, is) = behind head words asn (among_words (count_in head) words asn (i, s, omega (arith, less), at, is))
among_words zero (head ∷ words) asn (zero, s, less, at, is) =
    let count = count_in head in
    let taken : Contains (take count words) asn = subst (λ (s : Segment). Contains s.numbers asn) (sym at) is in
    behind head words asn (subst (λ ws. Contains ws asn) (take-append-drop count words) (Contains-append_left (take count words) (drop count words) asn taken))

-- ---- what the marks tell
pub hasnt : (words : List ℕ) (path : List Segment) (marks asn : ℕ) (b : Bool) → segments_after 0 words ≡ path → marks ≡ marks_of words → (IsTrue b ↔ IsMarked marks asn) → b ≡ false → HasAs path asn → ⊥
hasnt words path marks asn b e m iff not has =
    let has_words : HasAs (segments_after 0 words) asn = subst (λ p. HasAs p asn) (sym e) has in
    let marked : IsMarked marks asn = subst (λ k. IsMarked k asn) (sym m) (all_marked words 0 asn (among_words 0 words asn has_words)) in
    let t : IsTrue b = iff.1 marked in
    cc

pub other_paths : (left right : List ℕ) (left_path right_path : List Segment) (a b : ℕ) → a ≡ marks_of left → b ≡ marks_of right → segments_after 0 left ≡ left_path → segments_after 0 right ≡ right_path → missing_after 0 left ≡ 0 → missing_after 0 right ≡ 0
    → eqb a b ≡ false → left_path ≡ right_path → ⊥
other_paths left right left_path right_path a b m n l r p q differ same =
    eqb-false a b differ (m ∙ ap marks_of (same_words 0 left right p q refl (l ∙ same ∙ sym r)) ∙ sym n)
