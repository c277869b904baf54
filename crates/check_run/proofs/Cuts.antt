-- Texts cut into lines.
use Rattle.std.proofs.Common.{◌≡◌, ℕ, suc, ◌+◌, ◌-◌, ◌<◌, ◌≤◌, Bool, true, false, cond, List, [], ◌∷◌, ◌++◌, length, take, get_or, nat_eq, Option, None, Some, refl, sym, ap, subst, ◌∙◌, arith, append_assoc, length-append, length-take}
use Rattle.std.proofs.lemmas.List.Splits.{slice_split_at, slice_split_none, slice_split-cons_no, length-slice_split, join_with_byte-slice_split}
use Rattle.std.proofs.lemmas.List.{append-nil}
use Rattle.std.proofs.lemmas.List.Elements.{All-cons}
use Rattle.std.proofs.lemmas.Bool.Decides.{nat_tests}
use Rattle.std.specs.List.{AllByRecursion, flat_map, join_with_byte, onto_first}
use Rattle.std.specs.Str.Lines.{lines_of_parts, strip_carriage_return}
use Rattle.addr4.specs.Texts.{parts, parts_after}
use Rattle.check_run.specs.Lines.{IsPart, after_part, ended, lines_of, lines_in}

parts_some : (text : List ℕ) → 0 < length (parts 10 text)
parts_some text = omega (arith, length-slice_split (λ b. nat_eq b 10) text)

one_more_part : (x : List ℕ) (ps : List (List ℕ)) → 0 < length ps → lines_of_parts (x ∷ ps) ≡ strip_carriage_return x ∷ lines_of_parts ps
one_more_part x [] some = absurd (omega arith)
one_more_part x (p ∷ ps) some = refl

pub line_ends : (part rest : List ℕ) → IsPart part → lines_of (part ++ 10 ∷ rest) ≡ strip_carriage_return part ∷ lines_of rest
line_ends part rest is = ap lines_of_parts (slice_split_at (λ b. nat_eq b 10) part 10 rest is refl) ∙ one_more_part part (parts 10 rest) (parts_some rest)

-- parts that have ended are lines of the text
pub lines_done : (done : List (List ℕ)) (rest : List ℕ) → AllByRecursion IsPart done → lines_of (flat_map ended done ++ rest) ≡ lines_in done ++ lines_of rest
lines_done [] rest each = refl
lines_done (d ∷ done) rest each =
    ap lines_of (append_assoc (ended d) (flat_map ended done) rest ∙ append_assoc d (10 ∷ []) (flat_map ended done ++ rest))
    ∙ (line_ends d (flat_map ended done ++ rest) each.0 ∙ ap (λ t. strip_carriage_return d ∷ t) (lines_done done rest each.1))

alone : (line : List ℕ) → 0 < length line → lines_of_parts (line ∷ []) ≡ line ∷ []
alone line some = grind (arith, nat_tests)

pub last_line : (line : List ℕ) → IsPart line → 0 < length line → lines_of line ≡ line ∷ []
last_line line part some = ap lines_of_parts (slice_split_none (λ b. nat_eq b 10) line part) ∙ alone line some

-- The first line of a text that begins so is not much shorter.
pub record GoesInto (line more : List ℕ) : Type 0 where
  pub first : List ℕ
  pub others : List (List ℕ)
  pub lines : lines_of (line ++ more) ≡ first ∷ others
  pub long : length line ≤ length first + 1

goes_on : (line more : List ℕ) (first : List ℕ) (ps : List (List ℕ)) → 0 < length line → IsPart line → parts 10 more ≡ first ∷ ps → parts 10 (line ++ more) ≡ (line ++ first) ∷ ps
goes_on [] more first ps some part e = absurd (omega arith)
goes_on (b ∷ []) more first ps some part e = slice_split-cons_no (λ c. nat_eq c 10) b more (part 0 0 (omega arith)) ∙ ap (onto_first b) e
goes_on (b ∷ c ∷ line) more first ps some part e =
    slice_split-cons_no (λ c. nat_eq c 10) b (c ∷ line ++ more) (part 0 0 (omega arith))
    ∙ ap (onto_first b) (goes_on (c ∷ line) more first ps (omega arith) (λ k d below. part (suc k) d (omega (arith, below))) e)

stripped : (b : Bool) (x : List ℕ) → length x ≤ length (cond b (take (length x - 1) x) x) + 1
stripped true x = omega (arith, length-take {A = ℕ})
stripped false x = omega arith

-- the first line of parts
record IsFirst (x : List ℕ) (ps : List (List ℕ)) : Type 0 where
  first : List ℕ
  others : List (List ℕ)
  lines : lines_of_parts (x ∷ ps) ≡ first ∷ others
  long : length x ≤ length first + 1

first_line : (x : List ℕ) (ps : List (List ℕ)) → 0 < length x → IsFirst x ps
first_line x [] some = record { first = x; others = []; lines = alone x some; long = omega arith }
first_line x (p ∷ ps) some = record {
  first = strip_carriage_return x;
  others = lines_of_parts (p ∷ ps);
  lines = refl;
  long = stripped (nat_eq (get_or x (length x - 1) 0) 13) x;
}

pub goes_into : (line more : List ℕ) → 0 < length line → IsPart line → GoesInto line more
goes_into line more some part = by_parts (parts 10 more) refl (parts_some more)
  where
    by_parts : (ps : List (List ℕ)) → parts 10 more ≡ ps → 0 < length ps → GoesInto line more
    by_parts [] e h = absurd (omega arith)
    by_parts (first ∷ ps) e h =
        let f = first_line (line ++ first) ps (omega (arith, length-append line first)) in
        record {
          first = f.first;
          others = f.others;
          lines = ap lines_of_parts (goes_on line more first ps some part e) ∙ f.lines;
          long = omega (arith, f.long, length-append line first);
        }

pub no_bytes : IsPart []
no_bytes = λ k d below. absurd (omega arith)

-- the first part, and its LF with what follows it
pub cut_first : (text part : List ℕ) (rest : Option (List ℕ)) → parts 10 text ≡ part ∷ parts_after 10 rest → text ≡ part ++ after_part rest
cut_first text part rest is = sym (join_with_byte-slice_split 10 text) ∙ ap (join_with_byte 10) is ∙ joined rest
  where
    some_more : (more : List (List ℕ)) → 0 < length more → join_with_byte 10 (part ∷ more) ≡ part ++ 10 ∷ join_with_byte 10 more
    some_more [] some = absurd (omega arith)
    some_more (next ∷ more) some = refl

    joined : (rest : Option (List ℕ)) → join_with_byte 10 (part ∷ parts_after 10 rest) ≡ part ++ after_part rest
    joined None = sym (append-nil part)
    joined (Some rest) = some_more (parts 10 rest) (parts_some rest) ∙ ap (λ r. part ++ 10 ∷ r) (join_with_byte-slice_split 10 rest)

abbrev first_of : List (List ℕ) → List ℕ
first_of [] = []
first_of (part ∷ more) = part

one_more : (b : ℕ) (ps : List (List ℕ)) (ends : Bool) → nat_eq b 10 ≡ ends → IsPart (first_of ps) → IsPart (first_of (cond ends ([] ∷ ps) (onto_first b ps)))
one_more b ps true is part = no_bytes
one_more b [] false is part = All-cons (λ c. nat_eq c 10 ≡ false) b [] is no_bytes
one_more b (p ∷ ps) false is part = All-cons (λ c. nat_eq c 10 ≡ false) b p is part

part_in_front : (text : List ℕ) → IsPart (first_of (parts 10 text))
part_in_front [] = no_bytes
part_in_front (b ∷ text) = one_more b (parts 10 text) (nat_eq b 10) refl (part_in_front text)

-- no LF stands in the first part
pub first_is_part : (text part : List ℕ) (more : List (List ℕ)) → parts 10 text ≡ part ∷ more → IsPart part
first_is_part text part more is = subst IsPart (ap first_of is) (part_in_front text)
