-- Text that is kept with octets in it, and grows.
use Rattle.std.proofs.Common.{◌≡◌, ◌≤◌, ◌+◌, ◌/◌, ◌%◌, ℕ, List, [], ◌∷◌, ◌++◌, length, take, drop, slice_index, refl, sym, ap, ◌∙◌, subst, arith, append_assoc, length-append, length-drop, codes}
use Rattle.std.proofs.lemmas.List.{append-nil, take_all, drop_all, length-take-le, take-append-le, drop-append-le, take-append-drop}
use Rattle.std.proofs.Math.Seq.{take-append_seam, drop-append_seam}
use Rattle.std.specs.Fmt.{decimal}
use Rattle.hex.specs.Hex.{encode_lower, encode_with}
use Rattle.journal_text.specs.declared.kept.Span.{Span}
use Rattle.journal_text.specs.declared.kept.Text.{Text}
use Rattle.journal_text.specs.declared.kept.TheConstants.{MARKER}
use Rattle.journal_text.specs.Texts.{words_line}
use Rattle.journal_text.specs.Kept.{following, taken, unkept, kept_text, covered, chars, IsWhole, IsAppended}

-- the digits of octets one behind another
pub digits_join : (t xs ys : List ℕ) → encode_with t (xs ++ ys) ≡ encode_with t xs ++ encode_with t ys
unfolding encode_with
digits_join t [] ys = refl
digits_join t (b ∷ xs) ys = ap (λ (r : List ℕ). slice_index t (b / 16) ∷ slice_index t (b % 16) ∷ r) (digits_join t xs ys)

-- what is appended to the last of five texts
append_fifth : (a b c d e more : List ℕ) → a ++ (b ++ (c ++ (d ++ (e ++ more)))) ≡ (a ++ (b ++ (c ++ (d ++ e)))) ++ more
append_fifth a b c d e more = simp append_assoc

-- octets behind a content leave its spans where they are
span_stays : (s : Span) (spans : List Span) (content more : List ℕ) → taken s.front + s.count ≤ length content
    → kept_text (s ∷ spans) (content ++ more) ≡ take (taken s.front) content ++ (unkept s.front ++ (encode_lower MARKER.now ++ (encode_lower (take s.count (drop (taken s.front) content)) ++ kept_text spans (drop s.count (drop (taken s.front) content) ++ more))))
span_stays s spans content more fits =
    let before = taken s.front in
    let inner : s.count ≤ length (drop before content) = omega (arith, length-drop {A = ℕ}, fits) in
    rw (take-append-le before content more (omega (arith, fits)), drop-append-le before content more (omega (arith, fits)), take-append-le s.count (drop before content) more inner, drop-append-le s.count (drop before content) more inner) refl

-- characters that are appended come last
pub chars_more : (spans : List Span) (content more : List ℕ) → covered spans ≤ length content → kept_text spans (content ++ more) ≡ kept_text spans content ++ more
chars_more [] content more fits = refl
chars_more (s ∷ spans) content more fits =
    let behind = drop (taken s.front) content in
    let rest = drop s.count behind in
    let here = take (taken s.front) content in
    let digits = encode_lower (take s.count behind) in
    span_stays s spans content more (omega (arith, fits))
    ∙ (ap (λ t. here ++ (unkept s.front ++ (encode_lower MARKER.now ++ (digits ++ t)))) (chars_more spans rest more (omega (arith, length-drop {A = ℕ}, fits)))
    ∙ append_fifth here (unkept s.front) (encode_lower MARKER.now) digits (kept_text spans rest) more)

-- octets that are appended, and their span: the digits of the marker, and what isn't kept of the front, are there without it
octets_added : (spans : List Span) (s : Span) (content octets : List ℕ) → covered spans + taken s.front ≡ length content → s.count ≡ length octets
    → kept_text (spans ++ s ∷ []) (content ++ octets) ≡ kept_text spans content ++ (unkept s.front ++ (encode_lower MARKER.now ++ encode_lower octets))
octets_added [] s content octets before count =
    let all : taken s.front ≡ length content = omega (arith, before) in
    rw (all, count, take-append_seam content octets, drop-append_seam content octets, take_all (length octets) octets (omega arith), drop_all (length octets) octets (omega arith)) (ap (λ t. content ++ (unkept s.front ++ (encode_lower MARKER.now ++ t))) (append-nil (encode_lower octets)))
octets_added (t ∷ spans) s content octets before count =
    let behind = drop (taken t.front) content in
    let rest = drop t.count behind in
    let here = take (taken t.front) content in
    let digits = encode_lower (take t.count behind) in
    let more = unkept s.front ++ (encode_lower MARKER.now ++ encode_lower octets) in
    span_stays t (spans ++ s ∷ []) content octets (omega (arith, before))
    ∙ (ap (λ x. here ++ (unkept t.front ++ (encode_lower MARKER.now ++ (digits ++ x)))) (octets_added spans s rest octets (omega (arith, length-drop {A = ℕ}, before)) count)
    ∙ append_fifth here (unkept t.front) (encode_lower MARKER.now) digits (kept_text spans rest) more)

-- a message of which the octets behind the marker are appended, and their span
pub octets_more : (spans : List Span) (s : Span) (content octets : List ℕ) → covered spans + taken s.front ≡ length content → s.count ≡ length octets
    → kept_text (spans ++ s ∷ []) (content ++ octets) ≡ kept_text spans content ++ (unkept s.front ++ encode_lower (MARKER.now ++ octets))
octets_more spans s content octets before count = octets_added spans s content octets before count ∙ ap (λ t. kept_text spans content ++ (unkept s.front ++ t)) (sym (digits_join _ MARKER.now octets))

pub covered_more : (spans : List Span) (s : Span) → covered (spans ++ s ∷ []) ≡ covered spans + (taken s.front + s.count)
covered_more [] s = omega arith
covered_more (t ∷ spans) s = let m = covered_more spans s in omega (arith, m)

-- characters alone were appended
pub chars_appended : (more : List ℕ) (old new : Text) → IsWhole old → new.content.items ≡ old.content.items ++ more → new.spans ≡ old.spans → new.end ≡ old.end → IsAppended more old new
chars_appended more old new whole content spans end =
    let grown : length new.content.items ≡ length old.content.items + length more = ap length content ∙ length-append old.content.items more in
    record {
      whole = record { ends = rw (spans, end) whole.ends; within = omega (arith, whole.within, grown, end) };
      chars = rw (spans, content) (chars_more old.spans.items old.content.items more (omega (arith, whole.ends, whole.within)));
    }

-- what is appended after something else
pub appended_then : (more most : List ℕ) (a b c : Text) → IsAppended more a b → IsAppended most b c → IsAppended (more ++ most) a c
appended_then more most a b c first second = record {
  whole = second.whole;
  chars = second.chars ∙ (ap (λ t. t ++ most) first.chars ∙ append_assoc (chars a) more most);
}

message_text : (word number digits : List ℕ) → ((word ++ 32 ∷ number ++ 32 ∷ []) ++ digits) ++ 10 ∷ [] ≡ words_line (word ∷ number ∷ digits ∷ [])
message_text word number digits = simp append_assoc

-- a word and a peer's number, the digits of octets, and LF
pub message_appended : (word number digits : List ℕ) (a b : Text) → IsAppended (((word ++ 32 ∷ number ++ 32 ∷ []) ++ digits) ++ 10 ∷ []) a b → IsAppended (words_line (word ∷ number ∷ digits ∷ [])) a b
message_appended word number digits a b h = subst (λ (t : List ℕ). IsAppended t a b) (message_text word number digits) h

message_line : (text : List ℕ) (peer : ℕ) (digits : List ℕ) → text ++ ((following peer ++ digits) ++ codes "\n") ≡ (text ++ codes "\n") ++ words_line (codes "out" ∷ decimal peer ∷ digits ∷ [])
message_line text peer digits = simp append_assoc

-- the end of a line is taken back, and a message is appended whose front stands for it
pub message_follows : (peer : ℕ) (behind octets : List ℕ) (a cut b c : Text) → IsWhole a → drop a.end a.content.items ≡ behind → behind ≡ codes "\n" → cut.content.items ≡ take a.end a.content.items → cut.spans ≡ a.spans → cut.end ≡ a.end
    → IsAppended (following peer ++ encode_lower octets) cut b → IsAppended (codes "\n") b c
    → IsAppended (words_line (codes "out" ∷ decimal peer ∷ encode_lower octets ∷ [])) a c
message_follows peer behind octets a cut b c whole back feed front spans end first last =
    let content = take a.end a.content.items in
    let long : length content ≡ a.end = length-take-le a.end a.content.items whole.within in
    let parts : a.content.items ≡ content ++ codes "\n" = sym (take-append-drop a.end a.content.items) ∙ ap (λ t. content ++ t) (back ∙ feed) in
    let was : chars a ≡ chars cut ++ codes "\n" = ap (kept_text a.spans.items) parts ∙ (chars_more a.spans.items content (codes "\n") (omega (arith, whole.ends, long)) ∙ rw (front, spans) refl) in
    let both = appended_then _ _ cut b c first last in
    record {
      whole = both.whole;
      chars = both.chars ∙ (message_line (chars cut) peer (encode_lower octets) ∙ ap (λ t. t ++ words_line (codes "out" ∷ decimal peer ∷ encode_lower octets ∷ [])) (sym was));
    }
