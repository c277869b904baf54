-- Texts and their lines.
use Rattle.std.specs.Prelude.{◌≡◌, ℕ, ◌<◌, false, nat_eq, List, [], ◌∷◌, ◌++◌, map, length, Option, Some, None}
use Rattle.std.specs.List.{All, AllByRecursion, flat_map}
use Rattle.std.specs.Str.Lines.{lines_of_parts, strip_carriage_return}
use Rattle.addr4.specs.Texts.{parts}

-- The lines of a text. An LF ends a line, and so does CR LF; no line follows a last LF. A last line without an LF keeps its CR.
abbrev pub lines_of : List ℕ → List (List ℕ)
lines_of text = lines_of_parts (parts 10 text)

-- no LF stands in it
abbrev pub IsPart : List ℕ → Type 0
IsPart bytes = All (λ b. nat_eq b 10 ≡ false) bytes

-- a part with its LF
abbrev pub ended : List ℕ → List ℕ
ended part = part ++ 10 ∷ []

-- the lines that parts with their LFs are
abbrev pub lines_in : List (List ℕ) → List (List ℕ)
lines_in done = map strip_carriage_return done

-- A text is parts with their LFs, and then what has no LF.
pub record IsCut (text : List ℕ) (done : List (List ℕ)) (pending : List ℕ) : Type 0 where
  pub whole : text ≡ flat_map ended done ++ pending
  pub each : AllByRecursion IsPart done
  pub part : IsPart pending

-- the lines of a text that have ended, where fewer than so many bytes stand behind them
pub record AreEnded (most : ℕ) (text : List ℕ) (lines : List (List ℕ)) : Type 0 where
  pub done : List (List ℕ)
  pub pending : List ℕ
  pub cut : IsCut text done pending
  pub short : length pending < most
  pub same : lines ≡ lines_in done

-- an LF, and what follows it, if there is one
abbrev pub after_part : Option (List ℕ) → List ℕ
after_part None = []
after_part (Some rest) = 10 ∷ rest
