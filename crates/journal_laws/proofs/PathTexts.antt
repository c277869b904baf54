-- AS paths and unrecognized attributes are told by their texts.
use Rattle.std.proofs.Common.{◌≡◌, ℕ, ◌||◌, Bool, true, false, nat_eq, List, [], ◌∷◌, ◌++◌, refl, sym, ap, ◌∙◌, arith, append_assoc}
use Rattle.std.specs.Fmt.{decimal}
use Rattle.std.specs.List.{AllByRecursion, flat_map}
use Rattle.hex.specs.Hex.{encode_lower, is_hex_digit}
use Rattle.addr4.specs.Texts.{dotted}
use Rattle.bgp_attr.specs.declared.path.SegmentKind.{SegmentKind}
use Rattle.bgp_attr.specs.declared.path.SegmentKind.TheVariants.{Set, Sequence}
use Rattle.bgp_attr.specs.declared.path.Segment.{Segment}
use Rattle.bgp_attr.specs.declared.unrecognized.Unrecognized.{Unrecognized}
use Rattle.journal_text.specs.Texts.{bracketed, segment_text, path_text, unrecognized_text}
use Rattle.journal_check.specs.Laws.{HasNumbers, HasOctets}
use Rattle.journal_laws.proofs.Spans.{begins, clash, first_same, rest_same}
use Rattle.journal_laws.proofs.NumberTexts.{AreSmall, is_dotted, number_told, dotted_told, hex_told}

-- ---- segments

record SameSegments (k l : SegmentKind) (ms ns s t : List ℕ) : Type 0 where
  kind : k ≡ l
  numbers : ms ≡ ns
  rest : s ≡ t

-- numbers, a bracket, and more
behind_bracket : (close : ℕ) (ms s : List ℕ) → (dotted ms ++ close ∷ []) ++ s ≡ dotted ms ++ close ∷ s
behind_bracket close ms s = append_assoc (dotted ms) (close ∷ []) s

inside : (start close : ℕ) (ms ns s t : List ℕ) → is_dotted close ≡ false → AreSmall ms → AreSmall ns → start ∷ ((dotted ms ++ close ∷ []) ++ s) ≡ start ∷ ((dotted ns ++ close ∷ []) ++ t) → (ms ≡ ns) × (s ≡ t)
inside start close ms ns s t shut hm hn e =
    let whole : dotted ms ++ close ∷ s ≡ dotted ns ++ close ∷ t =
    sym (behind_bracket close ms s) ∙ (rest_same start start ((dotted ms ++ close ∷ []) ++ s) ((dotted ns ++ close ∷ []) ++ t) e ∙ behind_bracket close ns t) in
    let told = dotted_told ms ns (close ∷ s) (close ∷ t) hm hn shut shut whole in
    (told.0, rest_same close close s t told.1)

bracket_told : (k l : SegmentKind) (ms ns s t : List ℕ) → AreSmall ms → AreSmall ns → bracketed k (dotted ms) ++ s ≡ bracketed l (dotted ns) ++ t → SameSegments k l ms ns s t
bracket_told Sequence Sequence ms ns s t hm hn e = let told = inside 40 41 ms ns s t refl hm hn e in record { kind = refl; numbers = told.0; rest = told.1 }
bracket_told Set Set ms ns s t hm hn e = let told = inside 123 125 ms ns s t refl hm hn e in record { kind = refl; numbers = told.0; rest = told.1 }
bracket_told Sequence Set ms ns s t hm hn e = let first = first_same 40 123 ((dotted ms ++ 41 ∷ []) ++ s) ((dotted ns ++ 125 ∷ []) ++ t) e in absurd (omega arith)
bracket_told Set Sequence ms ns s t hm hn e = let first = first_same 123 40 ((dotted ms ++ 125 ∷ []) ++ s) ((dotted ns ++ 41 ∷ []) ++ t) e in absurd (omega arith)

segment_told : (x y : Segment) (s t : List ℕ) → HasNumbers x → HasNumbers y → segment_text x ++ s ≡ segment_text y ++ t → (x ≡ y) × (s ≡ t)
unfolding segment_text
segment_told x y s t hx hy e =
    let told = bracket_told x.kind y.kind x.numbers y.numbers s t hx hy e in
    ((λ i. record { kind = told.kind i; numbers = told.numbers i }), told.rest)

-- ---- paths

abbrev pub is_bracket : ℕ → Bool
is_bracket c = nat_eq c 40 || nat_eq c 123

kind_begins : (k : SegmentKind) (text s : List ℕ) → begins is_bracket (bracketed k text ++ s) ≡ true
kind_begins Sequence text s = refl
kind_begins Set text s = refl

path_begins : (x : Segment) (path : List Segment) (s : List ℕ) → begins is_bracket (path_text (x ∷ path) ++ s) ≡ true
unfolding path_text segment_text
path_begins x path s =
    ap (begins is_bracket) (append_assoc (bracketed x.kind (dotted x.numbers)) (path_text path) s) ∙ kind_begins x.kind (dotted x.numbers) (path_text path ++ s)

-- a path behind which no bracket opens
pub path_told : (p q : List Segment) (s t : List ℕ) → AllByRecursion HasNumbers p → AllByRecursion HasNumbers q → begins is_bracket s ≡ false → begins is_bracket t ≡ false → path_text p ++ s ≡ path_text q ++ t → (p ≡ q) × (s ≡ t)
unfolding path_text
path_told [] [] s t hp hq f g e = (refl, e)
path_told [] (y ∷ q) s t hp hq f g e = absurd (clash (begins is_bracket s) f (ap (begins is_bracket) e ∙ path_begins y q t))
path_told (x ∷ p) [] s t hp hq f g e = absurd (clash (begins is_bracket t) g (ap (begins is_bracket) (sym e) ∙ path_begins x p s))
path_told (x ∷ p) (y ∷ q) s t hp hq f g e =
    let whole : segment_text x ++ (path_text p ++ s) ≡ segment_text y ++ (path_text q ++ t) =
    sym (append_assoc (segment_text x) (path_text p) s) ∙ (e ∙ append_assoc (segment_text y) (path_text q) t) in
    let first = segment_told x y (path_text p ++ s) (path_text q ++ t) hp.0 hq.0 whole in
    let later = path_told p q s t hp.1 hq.1 f g first.1 in
    ((λ i. first.0 i ∷ later.0 i), later.1)

-- ---- unrecognized attributes

-- a type, a colon, octets, and more
abbrev kind_and_more : Unrecognized → List ℕ → List ℕ
kind_and_more u s = decimal u.kind ++ 58 ∷ (encode_lower u.value ++ s)

parted : (u : Unrecognized) (s : List ℕ) → unrecognized_text u ++ s ≡ 44 ∷ 120 ∷ kind_and_more u s
unfolding unrecognized_text
parted u s = ap (λ t. 44 ∷ 120 ∷ t) (append_assoc (decimal u.kind) (58 ∷ encode_lower u.value) s)

unrecognized_told : (u v : Unrecognized) (s t : List ℕ) → HasOctets u → HasOctets v → begins is_hex_digit s ≡ false → begins is_hex_digit t ≡ false → unrecognized_text u ++ s ≡ unrecognized_text v ++ t → (u ≡ v) × (s ≡ t)
unrecognized_told u v s t hu hv f g e =
    let small_u = hu.0 in
    let small_v = hv.0 in
    let whole = sym (parted u s) ∙ (e ∙ parted v t) in
    let behind = rest_same 120 120 (kind_and_more u s) (kind_and_more v t) (rest_same 44 44 (120 ∷ kind_and_more u s) (120 ∷ kind_and_more v t) whole) in
    let kind = number_told u.kind v.kind (58 ∷ (encode_lower u.value ++ s)) (58 ∷ (encode_lower v.value ++ t)) (omega arith) (omega arith) refl refl behind in
    let value = hex_told u.value v.value s t hu.1 hv.1 f g (rest_same 58 58 (encode_lower u.value ++ s) (encode_lower v.value ++ t) kind.1) in
    ((λ i. record { kind = kind.0 i; value = value.0 i }), value.1)

no_hex : (us : List Unrecognized) → begins is_hex_digit (flat_map unrecognized_text us) ≡ false
unfolding unrecognized_text
no_hex [] = refl
no_hex (u ∷ us) = refl

nil_cons : (c : ℕ) (cs : List ℕ) → [] ≡ c ∷ cs → ⊥
nil_cons c cs e = absurd (cc)

-- unrecognized attributes to the end
pub all_told : (us vs : List Unrecognized) → AllByRecursion HasOctets us → AllByRecursion HasOctets vs → flat_map unrecognized_text us ≡ flat_map unrecognized_text vs → us ≡ vs
all_told [] [] hu hv e = refl
all_told [] (v ∷ vs) hu hv e = absurd (nil_cons 44 (120 ∷ kind_and_more v (flat_map unrecognized_text vs)) (e ∙ parted v (flat_map unrecognized_text vs)))
all_told (u ∷ us) [] hu hv e = absurd (nil_cons 44 (120 ∷ kind_and_more u (flat_map unrecognized_text us)) (sym e ∙ parted u (flat_map unrecognized_text us)))
all_told (u ∷ us) (v ∷ vs) hu hv e =
    let first = unrecognized_told u v (flat_map unrecognized_text us) (flat_map unrecognized_text vs) hu.0 hv.0 (no_hex us) (no_hex vs) e in
    let later = all_told us vs hu.1 hv.1 first.1 in
    (λ i. first.0 i ∷ later i)
