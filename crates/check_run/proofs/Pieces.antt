-- Texts that go on.
use Rattle.std.proofs.Common.{◌≡◌, ℕ, ◌<◌, false, List, [], ◌∷◌, ◌++◌, length, nat_eq, refl, sym, ap, ◌∙◌, arith, append_assoc}
use Rattle.std.proofs.lemmas.List.{append-nil}
use Rattle.std.proofs.lemmas.List.Concat.{flat_map-append}
use Rattle.std.proofs.lemmas.List.Elements.{All-append}
use Rattle.std.specs.List.{AllByRecursion, flat_map}
use Rattle.std.specs.Str.Lines.{strip_carriage_return}
use Rattle.check_run.specs.Lines.{IsPart, IsCut, ended, lines_of, lines_in}
use Rattle.check_run.proofs.Cuts.{lines_done, line_ends, last_line}

-- nothing was cut
pub cut_nothing : IsCut [] [] []
cut_nothing = record { whole = refl; each = tt; part = λ k d below. absurd (omega arith) }

-- bytes of a line
pub cut_part_more : (text : List ℕ) (done : List (List ℕ)) (pending part : List ℕ) → IsPart part → IsCut text done pending → IsCut (text ++ part) done (pending ++ part)
cut_part_more text done pending part other c = record {
  whole = ap (λ t. t ++ part) c.whole ∙ append_assoc (flat_map ended done) pending part;
  each = c.each;
  part = All-append (λ b. nat_eq b 10 ≡ false) pending part c.part other;
}

each_more : (done : List (List ℕ)) (part : List ℕ) → AllByRecursion IsPart done → IsPart part → AllByRecursion IsPart (done ++ part ∷ [])
each_more [] line each part = (part, tt)
each_more (d ∷ done) line each part = (each.0, each_more done line each.1 part)

-- the end of a line
pub cut_line_more : (text : List ℕ) (done : List (List ℕ)) (pending : List ℕ) → IsCut text done pending → IsCut (text ++ 10 ∷ []) (done ++ pending ∷ []) []
cut_line_more text done pending c = record {
  whole = ap (λ t. t ++ 10 ∷ []) c.whole ∙ (append_assoc (flat_map ended done) pending (10 ∷ []) ∙ (ap (λ t. flat_map ended done ++ t) (sym (append-nil (ended pending))) ∙ (sym (flat_map-append ended done (pending ∷ [])) ∙ sym (append-nil _))));
  each = each_more done pending c.each c.part;
  part = λ k d below. absurd (omega arith);
}

-- the lines of a text that goes on
pub lines_behind : (text : List ℕ) (done : List (List ℕ)) (pending more : List ℕ) → IsCut text done pending → lines_of (text ++ more) ≡ lines_in done ++ lines_of (pending ++ more)
lines_behind text done pending more c = ap (λ t. lines_of (t ++ more)) c.whole ∙ (ap lines_of (append_assoc (flat_map ended done) pending more) ∙ lines_done done (pending ++ more) c.each)

-- the next line of a text ends
pub lines_then : (text : List ℕ) (done : List (List ℕ)) (pending more : List ℕ) → IsCut text done pending → lines_of ((text ++ 10 ∷ []) ++ more) ≡ lines_in done ++ strip_carriage_return pending ∷ lines_of more
lines_then text done pending more c =
    ap lines_of (append_assoc text (10 ∷ []) more) ∙ (lines_behind text done pending (10 ∷ more) c ∙ ap (λ t. lines_in done ++ t) (line_ends pending more c.part))

pub pending_is_last : (text : List ℕ) (done : List (List ℕ)) (pending : List ℕ) → 0 < length pending → IsCut text done pending → lines_of text ≡ lines_in done ++ pending ∷ []
pending_is_last text done pending some c = ap lines_of c.whole ∙ (lines_done done pending c.each ∙ ap (λ t. lines_in done ++ t) (last_line pending c.part some))

no_part : (pending : List ℕ) → length pending ≡ 0 → pending ≡ []
no_part [] none = refl
no_part (b ∷ bs) none = absurd (omega arith)

-- no line has begun
pub all_ended : (text : List ℕ) (done : List (List ℕ)) (pending : List ℕ) → length pending ≡ 0 → IsCut text done pending → lines_of text ≡ lines_in done
all_ended text done pending none c = ap lines_of (c.whole ∙ ap (λ t. flat_map ended done ++ t) (no_part pending none)) ∙ (lines_done done [] c.each ∙ append-nil (lines_in done))
