-- The first part of a text.
use Rattle.std.proofs.Common.{◌≡◌, ℕ, ◌+◌, ◌<◌, Bool, true, false, List, [], ◌∷◌, ◌++◌, length, get_or, take, drop, Option, None, Some, option_map, nat_eq, refl, sym, ap, subst, inl, inr, ◌-◌, ◌≤◌, ◌∙◌, arith, length-take, length-drop}
use Rattle.std.proofs.lemmas.List.{take-append-drop, drop_more, get_or-take, get_or-drop, take_all}
use Rattle.std.proofs.lemmas.Bool.{cases_lt}
use Rattle.std.proofs.lemmas.List.Elements.{All-from_get_or}
use Rattle.std.proofs.lemmas.List.Splits.{slice_split_at, slice_split_none, length-slice_split}
use Rattle.std.specs.List.{All}
use Rattle.memchr.specs.Find.{IsFirstByte, Nowhere, Passes, is_byte}
use Rattle.addr4.specs.Texts.{parts}

cut_at : (text : List ℕ) (i : ℕ) → i < length text → text ≡ take i text ++ (get_or text i 0 ∷ drop (i + 1) text)
cut_at text i below = sym (take-append-drop i text) ∙ ap (λ r. take i text ++ r) (drop_more text i 0 below)

pub parts_at : (separator : ℕ) (text : List ℕ) (i : ℕ) → i < length text → All (λ b. nat_eq b separator ≡ false) (take i text) → nat_eq (get_or text i 0) separator ≡ true → parts separator text ≡ take i text ∷ parts separator (drop (i + 1) text)
parts_at separator text i below front here = ap (parts separator) (cut_at text i below) ∙ slice_split_at (λ b. nat_eq b separator) (take i text) (get_or text i 0) (drop (i + 1) text) front here

pub parts_alone : (separator : ℕ) (text : List ℕ) → All (λ b. nat_eq b separator ≡ false) text → parts separator text ≡ text ∷ []
parts_alone separator text front = slice_split_none (λ b. nat_eq b separator) text front

not_true : (b : Bool) → (b ≡ true → ⊥) → b ≡ false
not_true true never = absurd (never refl)
not_true false never = refl

-- no such byte in the front before the first place
pub none_before : (separator : ℕ) (text : List ℕ) (at : ℕ) → Nowhere (Passes (is_byte separator) text) 0 at → All (λ b. nat_eq b separator ≡ false) (take at text)
none_before separator text at none = All-from_get_or (λ b. nat_eq b separator ≡ false) (take at text) 0 (λ i below.
    let front : i < at = omega (arith, below, length-take {A = ℕ}) in
    let other : nat_eq (get_or text i 0) separator ≡ false = not_true _ (none i (omega arith) front) in
    rw (get_or-take at text i 0 front) other)

-- no such byte in the text
pub none_anywhere : (separator : ℕ) (text : List ℕ) → Nowhere (Passes (is_byte separator) text) 0 (length text) → All (λ b. nat_eq b separator ≡ false) text
none_anywhere separator text none = All-from_get_or (λ b. nat_eq b separator ≡ false) text 0 (λ i below. not_true _ (none i (omega arith) below))

-- no such byte in the first octets, nor in so many that follow them
none_in_both : (test : ℕ → Bool) (text : List ℕ) (near more : ℕ) → Nowhere (Passes test text) 0 near → Nowhere (Passes test (drop near text)) 0 more → Nowhere (Passes test text) 0 (near + more)
none_in_both test text near more front behind k low high = elim (cases_lt k near) [
  | inl below ↦ front k low below
  | inr above ↦ λ here.
      let same : near + (k - near) ≡ k = omega (arith, above) in
      let there : Passes test (drop near text) (k - near) = ap test (get_or-drop near text (k - near) 0 ∙ ap (λ i. get_or text i 0) same) ∙ here in
      behind (k - near) (omega arith) (omega (arith, above, high)) there
]

-- the first such byte, where none is among the first octets
pub first_behind : (test : ℕ → Bool) (text : List ℕ) (near : ℕ) (place : Option ℕ) → near ≤ length text → Nowhere (Passes test text) 0 near → IsFirstByte test (take (length text - near) (drop near text)) place → IsFirstByte test text (option_map (λ at. near + at) place)
first_behind test text near place within none found = in_whole place (subst (λ far. IsFirstByte test far place) rest found)
  where
    rest : take (length text - near) (drop near text) ≡ drop near text
    rest = take_all (length text - near) (drop near text) (omega (arith, length-drop near text))

    in_whole : (place : Option ℕ) → IsFirstByte test (drop near text) place → IsFirstByte test text (option_map (λ at. near + at) place)
    in_whole None behind =
        let whole : near + length (drop near text) ≡ length text = omega (arith, within, length-drop near text) in
        subst (Nowhere (Passes test text) 0) whole (none_in_both test text near (length (drop near text)) none behind)
    in_whole (Some at) first = (
      record {
        low = omega arith;
        high = omega (arith, within, first.0.high, length-drop near text);
        before = none_in_both test text near at none first.0.before;
      },
      ap test (sym (get_or-drop near text at 0)) ∙ first.1,
    )

pub parts_some : (separator : ℕ) (text : List ℕ) → 0 < length (parts separator text)
parts_some separator text = omega (arith, length-slice_split (λ b. nat_eq b separator) text)
