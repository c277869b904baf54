-- An AS put in front several times.
use Rattle.std.proofs.Common.{◌≡◌, ℕ, zero, suc, ◌+◌, ◌≤◌, ◌<◌, false, cond, List, [], ◌∷◌, ◌++◌, length, get_or, take, replicate, refl, sym, ap, ◌∙◌, append_assoc, arith}
use Rattle.std.proofs.lemmas.List.{append-nil, length-append, length-replicate, length-take-le}
use Rattle.std.proofs.lemmas.Bool.{le-ltb, lt-ltb}
use Rattle.bgp_attr.specs.declared.path.SegmentKind.{SegmentKind}
use Rattle.bgp_attr.specs.declared.path.SegmentKind.TheVariants.{Set, Sequence}
use Rattle.bgp_attr.specs.declared.path.Segment.{Segment}
use Rattle.bgp_attr.specs.Paths.{takes_one_more, in_front, times_in_front}
use Rattle.bgp_attr.specs.Words.{head_of, count_in, kind_in, segments_after, missing_after}
use Rattle.bgp_attr.proofs.WordLaws.{count_of-head, kind_of-head, missing_drop, one_block}

abbrev pub sequence : List ℕ → Segment
sequence numbers = record { kind = Sequence; numbers = numbers }

pub joins : (asn : ℕ) (numbers : List ℕ) (rest : List Segment) → length numbers < 255 → in_front asn (sequence numbers ∷ rest) ≡ sequence (asn ∷ numbers) ∷ rest
joins asn numbers rest few = ap (λ b. cond b (sequence (asn ∷ numbers) ∷ rest) (sequence (asn ∷ []) ∷ sequence numbers ∷ rest)) (lt-ltb _ _ few)

pub begins : (asn : ℕ) (s : Segment) (rest : List Segment) → takes_one_more s.kind s.numbers ≡ false → in_front asn (s ∷ rest) ≡ sequence (asn ∷ []) ∷ s ∷ rest
begins asn s rest has_none = ap (λ b. cond b (record { kind = Sequence; numbers = asn ∷ s.numbers } ∷ rest) (sequence (asn ∷ []) ∷ s ∷ rest)) has_none

-- the first one joins some numbers, and so do the others
pub join_all : (n asn : ℕ) (path rest : List Segment) (numbers : List ℕ) → in_front asn path ≡ sequence (asn ∷ numbers) ∷ rest → suc n + length numbers ≤ 255
    → times_in_front (suc n) asn path ≡ sequence (replicate (suc n) asn ++ numbers) ∷ rest
join_all zero asn path rest numbers first few = first
join_all (suc n) asn path rest numbers first few =
    ap (in_front asn) (join_all n asn path rest numbers first (omega arith))
    ∙ joins asn (replicate (suc n) asn ++ numbers) rest (omega (arith, length-append (replicate (suc n) asn) numbers, length-replicate (suc n) asn))

-- a full sequence takes none: the others stand in a new one
pub begin_all : (n asn : ℕ) (numbers : List ℕ) (rest : List Segment) → length numbers ≡ 255 → suc n ≤ 255
    → times_in_front (suc n) asn (sequence numbers ∷ rest) ≡ sequence (replicate (suc n) asn) ∷ sequence numbers ∷ rest
begin_all n asn numbers rest is few =
    join_all n asn (sequence numbers ∷ rest) (sequence numbers ∷ rest) [] (begins asn (sequence numbers) rest (le-ltb _ _ (omega (arith, is)))) (omega arith)
    ∙ ap (λ ns. sequence ns ∷ sequence numbers ∷ rest) (append-nil (replicate (suc n) asn))

pub times-add : (m n asn : ℕ) (path : List Segment) → times_in_front (m + n) asn path ≡ times_in_front m asn (times_in_front n asn path)
times-add zero n asn path = let e : 0 + n ≡ n = omega arith in ap (λ k. times_in_front k asn path) e
times-add (suc m) n asn path = let e : suc m + n ≡ suc (m + n) = omega arith in ap (λ k. times_in_front k asn path) e ∙ ap (in_front asn) (times-add m n asn path)

-- ---- where an AS put in front stands
takes_none : (kind : SegmentKind) (numbers : List ℕ) → (kind ≡ Sequence → 255 ≤ length numbers) → takes_one_more kind numbers ≡ false
takes_none Set numbers many = refl
takes_none Sequence numbers many = le-ltb _ _ (many refl)

pub stands_alone : (words : List ℕ) (asn : ℕ) → missing_after 0 words ≡ 0 → (0 < length words → kind_in (get_or words 0 0) ≡ Sequence → 255 ≤ count_in (get_or words 0 0))
    → in_front asn (segments_after 0 words) ≡ sequence (asn ∷ []) ∷ segments_after 0 words
stands_alone [] asn complete many = refl
stands_alone (head ∷ words) asn complete many =
    let fits : length (take (count_in head) words) ≡ count_in head = length-take-le (count_in head) words (missing_drop (count_in head) words complete).0 in
    begins asn (record { kind = kind_in head; numbers = take (count_in head) words }) (segments_after (count_in head) words)
    (takes_none (kind_in head) (take (count_in head) words) (λ is. let m = many (omega arith) is in omega (arith, fits, m)))

-- an AS put in front stands before so many of these words, and in an AS_SEQUENCE
pub record IsLeading (kept asn : ℕ) (path : List Segment) (behind : List ℕ) : Type 0 where
  pub few : kept < 255
  pub joined : in_front asn path ≡ sequence (asn ∷ take kept behind) ∷ segments_after kept behind
  pub complete : missing_after kept behind ≡ 0

-- the words of a sequence that some AS join
sequence_words : (kept n asn : ℕ) (behind : List ℕ) → missing_after kept behind ≡ 0
    → (segments_after 0 (head_of Sequence (kept + n) ∷ replicate n asn ++ behind) ≡ sequence (replicate n asn ++ take kept behind) ∷ segments_after kept behind) × (missing_after 0 (head_of Sequence (kept + n) ∷ replicate n asn ++ behind) ≡ 0)
sequence_words kept n asn behind complete =
    let b = one_block (head_of Sequence (kept + n)) kept (replicate n asn) behind (omega (arith, count_of-head Sequence (kept + n), length-replicate n asn)) in (
      b.0 ∙ ap (λ k. record { kind = k; numbers = replicate n asn ++ take kept behind } ∷ segments_after kept behind) (kind_of-head Sequence (kept + n)),
      b.1 ∙ complete,
    )

joined_by : (kept n asn : ℕ) (path : List Segment) (behind : List ℕ) → IsLeading kept asn path behind → 0 < n → n + kept ≤ 255 → times_in_front n asn path ≡ sequence (replicate n asn ++ take kept behind) ∷ segments_after kept behind
joined_by kept zero asn path behind is some fits = absurd (omega arith)
joined_by kept (suc n) asn path behind is some fits =
    join_all n asn path (segments_after kept behind) (take kept behind) is.joined (omega (arith, length-take-le kept behind (missing_drop kept behind is.complete).0))

begun_by : (n asn : ℕ) (numbers : List ℕ) (rest : List Segment) → length numbers ≡ 255 → 0 < n → n ≤ 255 → times_in_front n asn (sequence numbers ∷ rest) ≡ sequence (replicate n asn) ∷ sequence numbers ∷ rest
begun_by zero asn numbers rest is some few = absurd (omega arith)
begun_by (suc n) asn numbers rest is some few = begin_all n asn numbers rest is few

-- all of them join
pub all_join : (kept n asn : ℕ) (path : List Segment) (behind one two three : List ℕ) → IsLeading kept asn path behind → 0 < n → n + kept ≤ 255
    → one ≡ [] → two ≡ one ++ head_of Sequence (kept + n) ∷ replicate n asn → three ≡ two ++ behind
    → (segments_after 0 three ≡ times_in_front n asn path) × (missing_after 0 three ≡ 0)
all_join kept n asn path behind one two three is some fits e f g =
    let words : three ≡ head_of Sequence (kept + n) ∷ replicate n asn ++ behind = g ∙ ap (λ ws. ws ++ behind) (f ∙ ap (λ ws. ws ++ head_of Sequence (kept + n) ∷ replicate n asn) e) in
    let s = sequence_words kept n asn behind is.complete in (
      ap (segments_after 0) words ∙ s.0 ∙ sym (joined_by kept n asn path behind is some fits),
      ap (missing_after 0) words ∙ s.1,
    )

-- so many join that the sequence is full, and the others begin one
pub some_begin : (kept n m asn : ℕ) (path : List Segment) (behind none one two three : List ℕ) → IsLeading kept asn path behind → 0 < n → n + kept ≡ 255 → 0 < m → m ≤ 255
    → none ≡ [] → one ≡ none ++ head_of Sequence m ∷ replicate m asn → two ≡ one ++ head_of Sequence (kept + n) ∷ replicate n asn → three ≡ two ++ behind
    → (segments_after 0 three ≡ times_in_front (m + n) asn path) × (missing_after 0 three ≡ 0)
some_begin kept n m asn path behind none one two three is some fits more few d e f g =
    let inner : List ℕ = head_of Sequence (kept + n) ∷ replicate n asn ++ behind in
    let s = sequence_words kept n asn behind is.complete in
    let first : one ≡ head_of Sequence m ∷ replicate m asn = e ∙ ap (λ ws. ws ++ head_of Sequence m ∷ replicate m asn) d in
    let words : three ≡ head_of Sequence (0 + m) ∷ replicate m asn ++ inner =
    g ∙ ap (λ ws. ws ++ behind) (f ∙ ap (λ ws. ws ++ head_of Sequence (kept + n) ∷ replicate n asn) first)
    ∙ ap (λ ws. head_of Sequence m ∷ ws) (append_assoc (replicate m asn) (head_of Sequence (kept + n) ∷ replicate n asn) behind)
    ∙ (let z : m ≡ 0 + m = omega arith in ap (λ k. head_of Sequence k ∷ replicate m asn ++ inner) z) in
    let t = sequence_words 0 m asn inner s.1 in
    let whole : length (replicate n asn ++ take kept behind) ≡ 255 =
    omega (arith, length-append (replicate n asn) (take kept behind), length-replicate n asn, length-take-le kept behind (missing_drop kept behind is.complete).0) in
    let put : times_in_front (m + n) asn path ≡ sequence (replicate m asn) ∷ sequence (replicate n asn ++ take kept behind) ∷ segments_after kept behind =
    times-add m n asn path ∙ ap (times_in_front m asn) (joined_by kept n asn path behind is some (omega arith))
    ∙ begun_by m asn (replicate n asn ++ take kept behind) (segments_after kept behind) whole more few in (
      ap (segments_after 0) words ∙ t.0 ∙ (λ i. sequence (append-nil (replicate m asn) i) ∷ s.0 i) ∙ sym put,
      ap (missing_after 0) words ∙ t.1,
    )
