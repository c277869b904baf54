-- Records that follow one another, and what is left of a file.
use Rattle.std.proofs.Common.{◌≡◌, ℕ, ◌+◌, ◌-◌, ◌<◌, ◌≤◌, Bool, true, false, cond, leb, List, [], ◌∷◌, ◌++◌, length, take, min, Option, Some, None, Result, Ok, Err, refl, sym, ap, ◌∙◌, subst, arith, append_assoc, length-append, length-take}
use Rattle.std.proofs.lemmas.List.{append-nil, take_at, take_all, nil_from_length}
use Rattle.std.proofs.lemmas.Bool.{leb-true, leb-false}
use Rattle.std.proofs.lemmas.List.Concat.{flat_map-append}
use Rattle.std.proofs.KnownBytes.{Consumes-trans}
use Rattle.std.specs.List.{AllByRecursion}
use Rattle.std.specs.Io.KnownBytes.{Consumes, IsAtEnd}
use Rattle.mrt_reader.specs.Records.{Record, octets_of, length_in, HoldNone}
use Rattle.mrt_reader.specs.Fields.{is_used}
use Rattle.mrt_reader.specs.Kept.{kept_size, IsKeptOf}
use Rattle.mrt_reader.specs.declared.fields.Header.{Header}
use Rattle.mrt_reader.specs.Lines.{Line, line_text, text_of}
use Rattle.mrt_reader.specs.Sessions.{Written, nothing_written, after, after_all, record_lines, records_lines}
use Rattle.mrt_reader.specs.Files.{IsSound, HasRead}
use Rattle.mrt_reader.specs.Sources.{AreTaken, MayBe}
use Rattle.mrt_reader.specs.declared.answer.Stop.{Stop}
use Rattle.mrt_reader.specs.declared.answer.Stop.TheVariants.{ReadFault, Memory}

-- ---- one record more

after_all_append : (w : Written) (xs ys : List Line) → after_all w (xs ++ ys) ≡ after_all (after_all w xs) ys
after_all_append w [] ys = refl
after_all_append w (x ∷ xs) ys = after_all_append (after w x) xs ys

lines_more : (as4 : Bool) (w : Written) (rs : List Record) (r : Record) → records_lines as4 w (rs ++ r ∷ []) ≡ records_lines as4 w rs ++ record_lines as4 (after_all w (records_lines as4 w rs)) r
lines_more as4 w [] r = append-nil (record_lines as4 w r)
lines_more as4 w (x ∷ rs) r =
    let ls = record_lines as4 w x in
    let others = records_lines as4 (after_all w ls) rs in
    ap (λ t. ls ++ t) (lines_more as4 (after_all w ls) rs r)
    ∙ (sym (append_assoc ls others (record_lines as4 (after_all (after_all w ls) others) r))
    ∙ ap (λ v. (ls ++ others) ++ record_lines as4 v r) (sym (after_all_append w ls others)))

each_more : (as4 : Bool) (rs : List Record) (r : Record) → AllByRecursion (IsSound as4) rs → IsSound as4 r → AllByRecursion (IsSound as4) (rs ++ r ∷ [])
each_more as4 [] r each sound = (sound, tt)
each_more as4 (x ∷ rs) r each sound = (each.0, each_more as4 rs r each.1 sound)

pub read_more : (as4 : Bool) (read text octets lines : List ℕ) (n : ℕ) (old new : Written) (r : Record) → IsSound as4 r → n < 1000000000 → octets ≡ octets_of r → lines ≡ text_of (record_lines as4 old r) → new ≡ after_all old (record_lines as4 old r) → HasRead as4 read text n old → HasRead as4 (read ++ octets) (text ++ lines) (n + 1) new
read_more as4 read text octets lines n old new r sound few is said behind was =
    let rs = was.records in
    let before = records_lines as4 nothing_written rs in
    let more : records_lines as4 nothing_written (rs ++ r ∷ []) ≡ before ++ record_lines as4 old r =
    lines_more as4 nothing_written rs r ∙ ap (λ w. before ++ record_lines as4 w r) (sym was.behind) in
    record {
      records = rs ++ r ∷ [];
      whole = (λ i. was.whole i ++ (is ∙ sym (append-nil (octets_of r))) i) ∙ sym (flat_map-append octets_of rs (r ∷ []));
      each = each_more as4 rs r was.each sound;
      count = omega (arith, was.count, length-append rs (r ∷ []));
      few = omega (arith, few);
      lines = (λ i. was.lines i ++ said i) ∙ (sym (flat_map-append line_text before (record_lines as4 old r)) ∙ ap text_of (sym more));
      behind = behind ∙ ((λ i. after_all (was.behind i) (record_lines as4 old r)) ∙ (sym (after_all_append nothing_written before (record_lines as4 old r)) ∙ ap (after_all nothing_written) (sym more)));
    }

-- ---- no whole record

pub short_body : (head part : List ℕ) → length head ≡ 12 → length part < length_in head → HoldNone (head ++ part)
short_body head part twelve short = λ r more is e.
    let back : head ++ part ≡ r.head ++ (r.body ++ more) = e ∙ append_assoc r.head r.body more in
    let same : head ≡ r.head =
    sym (take_at head part 12 twelve) ∙ (ap (take 12) back ∙ take_at r.head (r.body ++ more) 12 is.head) in
    let size : length r.body ≡ length_in head = is.body ∙ ap length_in (sym same) in
    omega (arith, short, size, twelve, is.head, ap length back, length-append head part, length-append r.head (r.body ++ more), length-append r.body more)

-- ---- what is left

pub may_be_read : (a b : Option (List ℕ)) (octets : List ℕ) → Consumes a b octets → IsAtEnd b → MayBe a octets
may_be_read None b octets c e = tt
may_be_read (Some a) None octets c e = absurd c
may_be_read (Some a) (Some b) octets c e = sym (c ∙ (ap (λ t. octets ++ t) e ∙ append-nil octets))

pub may_go_on : (a b : Option (List ℕ)) (octets : List ℕ) → Consumes a b octets → (more : List ℕ) × MayBe a (octets ++ more)
may_go_on None b octets c = ([], tt)
may_go_on (Some a) None octets c = absurd c
may_go_on (Some a) (Some b) octets c = (b, sym c)

-- ---- a body in two parts

pub kept_front : (front rest : List ℕ) (n : ℕ) → length front ≡ min n 4120 → length rest ≡ n - min n 4120 → front ≡ take 4120 (front ++ rest)
kept_front front rest n some others = by_size (leb n 4120) refl
  where
    by_size : (b : Bool) → leb n 4120 ≡ b → front ≡ take 4120 (front ++ rest)
    by_size true few =
        let fits : n ≤ 4120 = leb-true _ _ few in
        sym (take_all 4120 (front ++ rest) (omega (arith, some, others, fits, length-append front rest)) ∙ (ap (λ t. front ++ t) (nil_from_length rest (omega (arith, others, fits))) ∙ append-nil front))
    by_size false many =
        let over : 4120 < n = leb-false _ _ many in
        sym (take_at front rest 4120 (omega (arith, some, over)))

-- the front that is kept, and the rest, which isn't
pub both_taken : (a b c : Option (List ℕ)) (n k : ℕ) (front rest : List ℕ) (result : Result Bool Stop) → k ≤ n → AreTaken a b k (Ok true) front → AreTaken b c (n - k) result rest → AreTaken a c n result (front ++ rest)
both_taken a b c n k front rest (Ok true) few f r = (Consumes-trans a b c front rest f.0 r.0, omega (arith, few, f.1, r.1, length-append front rest))
both_taken a b c n k front rest (Ok false) few f r = (Consumes-trans a b c front rest f.0 r.0, omega (arith, few, f.1, r.1, length-append front rest), r.2)
both_taken a b c n k front rest (Err ReadFault) few f r = (Consumes-trans a b c front rest f.0 r.0, omega (arith, few, f.1, r.1, length-append front rest))
both_taken a b c n k front rest (Err Memory) few f r = tt

pub is_kept : (as4 : Bool) (h : Header) (kept front rest : List ℕ) (result : Result Bool Stop) (a b : Option (List ℕ)) → result ≡ Ok true → kept ≡ front → length front ≡ kept_size as4 h → AreTaken a b (h.length - kept_size as4 h) result rest → IsKeptOf as4 h kept (front ++ rest)
is_kept as4 h kept front rest (Ok false) a b all same some others = absurd (cc)
is_kept as4 h kept front rest (Err e) a b all same some others = absurd (cc)
is_kept as4 h kept front rest (Ok true) a b all same some others = by_use (is_used as4 h.kind h.subtype) refl some others.1
  where
    by_use : (u : Bool) → is_used as4 h.kind h.subtype ≡ u → length front ≡ cond u (min h.length 4120) 0 → length rest ≡ h.length - cond u (min h.length 4120) 0 → IsKeptOf as4 h kept (front ++ rest)
    by_use true is few more = record {
      size = omega (arith, few, more, length-append front rest);
      front = λ _. same ∙ kept_front front rest h.length few more;
    }
    by_use false is few more = record {
      size = omega (arith, few, more, length-append front rest);
      front = λ used. absurd (cc);
    }

-- a body was taken, or what there was of it
pub body_taken : (as4 : Bool) (h : Header) (none kept front rest : List ℕ) (a b c : Option (List ℕ)) (some : Bool) (size : ℕ) (result : Result Bool Stop) → some ≡ true → none ≡ [] → kept ≡ none ++ front → size ≡ kept_size as4 h → size ≤ h.length → AreTaken a b size (Ok some) front → AreTaken b c (h.length - size) result rest → AreTaken a c h.length result (front ++ rest) × (result ≡ Ok true → IsKeptOf as4 h kept (front ++ rest))
body_taken as4 h none kept front rest a b c false size result is cleared same few within f r = absurd (cc)
body_taken as4 h none kept front rest a b c true size result is cleared same few within f r = (
  both_taken a b c h.length size front rest result within f r,
  λ all. is_kept as4 h kept front rest result b c all (same ∙ ap (λ t. t ++ front) cleared) (f.1 ∙ few) (subst (λ (k : ℕ). AreTaken b c (h.length - k) result rest) few r),
)

-- there is room for the fields in what is kept
pub room_kept : (as4 : Bool) (h : Header) (kept whole : List ℕ) → IsKeptOf as4 h kept whole → is_used as4 h.kind h.subtype ≡ true → min h.length 4120 ≤ length kept
room_kept as4 h kept whole k used = omega (arith, k.size, ap length (k.front used), length-take 4120 whole)

pub nothing_read : (as4 : Bool) → HasRead as4 [] [] 0 nothing_written
nothing_read as4 = record { records = []; whole = refl; each = tt; count = refl; few = omega arith; lines = refl; behind = refl }
