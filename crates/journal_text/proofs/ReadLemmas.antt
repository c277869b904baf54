-- What is left of a text when a front of it was read.
use Rattle.std.proofs.Common.{◌≡◌, ◌≤◌, ◌+◌, ◌-◌, ◌*◌, ℕ, List, [], ◌∷◌, ◌++◌, length, take, drop, length-append, length-drop, refl, sym, ap, ◌∙◌, arith, append_assoc}
use Rattle.std.proofs.lemmas.List.{append-nil, nil_from_length, take_all, length-take-le, take-append-le, take-append-drop}
use Rattle.std.proofs.Math.Seq.{take-append-add}
use borrow.Rule.Slice.PartMut.{put_mid, post_of}
use Rattle.hex.specs.Hex.{encode_lower, encode_with}
use Rattle.journal_text.specs.declared.kept.Span.{Span}
use Rattle.journal_text.specs.declared.kept.TheConstants.{MARKER}
use Rattle.journal_text.specs.Kept.{kept_text, taken, unkept}
use Rattle.journal_text.specs.Reading.{left, IsReading}
use Rattle.journal_text.proofs.KeptLemmas.{digits_join}

-- a front was read into a room
front_off : (n : ℕ) (xs tail room : List ℕ) → take n room ≡ take n xs → xs ++ tail ≡ take n room ++ (drop n xs ++ tail)
front_off n xs tail room front =
    ap (λ t. t ++ tail) (sym (take-append-drop n xs))
    ∙ (append_assoc (take n xs) (drop n xs) tail
    ∙ ap (λ t. t ++ (drop n xs ++ tail)) (sym front))

-- the digits of a front were written into a room
digits_off : (n : ℕ) (octets tail room : List ℕ) → take (2 * n) room ≡ encode_lower (take n octets) → encode_lower octets ++ tail ≡ take (2 * n) room ++ (encode_lower (drop n octets) ++ tail)
digits_off n octets tail room front =
    ap (λ t. encode_lower t ++ tail) (sym (take-append-drop n octets))
    ∙ (ap (λ t. t ++ tail) (digits_join _ (take n octets) (drop n octets))
    ∙ (append_assoc (encode_lower (take n octets)) (encode_lower (drop n octets)) tail
    ∙ ap (λ t. t ++ (encode_lower (drop n octets) ++ tail)) (sym front)))

-- a front of the characters was read
pub characters_read : (n : ℕ) (characters rest marker octets : List ℕ) (spans : List Span) (content room : List ℕ) → rest ≡ drop n characters → take n room ≡ take n characters
    → left characters marker octets spans content ≡ take n room ++ left rest marker octets spans content
unfolding left
characters_read n characters rest marker octets spans content room behind front = rw behind (front_off n characters _ room front)

-- the digits of a front of the marker were read
pub marker_read : (n : ℕ) (characters marker rest octets : List ℕ) (spans : List Span) (content room : List ℕ) → length characters ≡ 0 → rest ≡ drop n marker → take (2 * n) room ≡ encode_lower (take n marker)
    → left characters marker octets spans content ≡ take (2 * n) room ++ left [] rest octets spans content
unfolding left
marker_read n characters marker rest octets spans content room none behind front = rw (nil_from_length characters none, behind) (digits_off n marker _ room front)

-- the digits of a front of the octets were read
pub octets_read : (n : ℕ) (characters marker octets rest : List ℕ) (spans : List Span) (content room : List ℕ) → length characters ≡ 0 → length marker ≡ 0 → rest ≡ drop n octets → take (2 * n) room ≡ encode_lower (take n octets)
    → left characters marker octets spans content ≡ take (2 * n) room ++ left [] [] rest spans content
unfolding left encode_with
octets_read n characters marker octets rest spans content room none past behind front = rw (nil_from_length characters none, nil_from_length marker past, behind) (digits_off n octets _ room front)

-- nothing is left in front of the spans
pub spans_left : (characters marker octets : List ℕ) (spans : List Span) (content : List ℕ) → length characters ≡ 0 → length marker ≡ 0 → length octets ≡ 0
    → kept_text spans content ≡ left characters marker octets spans content
unfolding left encode_with
spans_left characters marker octets spans content a b c = rw (nil_from_length characters a, nil_from_length marker b, nil_from_length octets c) refl

-- nothing is left at all
pub nothing_left : (characters marker octets : List ℕ) (spans : List Span) (content : List ℕ) → IsReading characters marker octets spans content → length characters ≡ 0 → length marker ≡ 0 → length octets ≡ 0
    → left characters marker octets spans content ≡ []
nothing_left characters marker octets spans content reading a b c =
    sym (spans_left characters marker octets spans content a b c) ∙ reading.ends (nil_from_length characters a) (nil_from_length marker b) (nil_from_length octets c)

-- the first of some spans is what is read next
pub first_span : (s : Span) (spans rest : List Span) (content characters behind octets after : List ℕ) → spans ≡ s ∷ rest
    → characters ≡ take (taken s.front) content ++ unkept s.front → behind ≡ drop (taken s.front) content → octets ≡ take s.count behind → after ≡ drop s.count behind
    → left characters MARKER.now octets rest after ≡ kept_text spans content
unfolding left
first_span s spans rest content characters behind octets after first front back here dropped = rw (first, front, here, dropped, back) (append_assoc _ (unkept s.front) _)

-- behind the last span characters alone are left
pub last_left : (spans : List Span) (content : List ℕ) → length spans ≡ 0 → left content [] [] spans [] ≡ kept_text spans content
unfolding left encode_with
last_left [] content none = append-nil content
last_left (s ∷ spans) content none = absurd (omega (arith, none))

-- a room whose rest was written to
pub take_part : (a n k : ℕ) (xs ys : List ℕ) → a ≤ length xs → n ≤ length ys → take (a + n) (put_mid a k xs ys) ≡ take a xs ++ take n ys
take_part a n k xs ys p q =
    ap (λ m. take (m + n) (put_mid a k xs ys)) (sym (length-take-le a xs p))
    ∙ (take-append-add (take a xs) (ys ++ post_of a k xs) n ∙ ap (λ t. take a xs ++ t) (take-append-le n ys (post_of a k xs) q))

pub room_stays : (a : ℕ) (xs ys : List ℕ) → a ≤ length xs → length ys ≡ length (take (length xs - a) (drop a xs)) → length (put_mid a (length xs - a) xs ys) ≡ length xs
room_stays a xs ys p q =
    let post = post_of a (length xs - a) xs in
    let long : length (take (length xs - a) (drop a xs)) ≡ length (drop a xs) = ap length (take_all (length xs - a) (drop a xs) (omega (arith, length-drop {A = ℕ}))) in
    length-append (take a xs) (ys ++ post) ∙ omega (arith, length-append ys post, length-take-le a xs p, q, long, length-drop {A = ℕ})
