-- What a run says of its source and its sink.
use Rattle.std.specs.Prelude.{◌≡◌, ℕ, List, ◌++◌, Option, Some, None, ⊤}
use Rattle.std.specs.Io.KnownBytes.{Appends, Consumes}

-- a text that the source may have: the one that it tells, and any where it tells none
abbrev pub IsTextOf : Option (List ℕ) → List ℕ → Type 0
IsTextOf None text = ⊤
IsTextOf (Some told) text = text ≡ told

-- This holds of a text that the source may have.
abbrev pub OfText : Option (List ℕ) → (List ℕ → Type 0) → Type 0
OfText left P = (text : List ℕ) × IsTextOf left text × P text

-- This holds of a text that the source may have, and of the bytes that the sink took.
abbrev pub Took : Option (List ℕ) → Option (List ℕ) → Option (List ℕ) → (List ℕ → List ℕ → Type 0) → Type 0
Took left before now P = (text bytes : List ℕ) × IsTextOf left text × Appends before now bytes × P text bytes

-- A sink took more, and this holds of it.
abbrev pub Writes : Option (List ℕ) → Option (List ℕ) → (List ℕ → Type 0) → Type 0
Writes before now P = (more : List ℕ) × Appends before now more × P more

-- Something was read of a source and written to a sink, and this holds of it.
abbrev pub ReadsAndWrites : Option (List ℕ) → Option (List ℕ) → Option (List ℕ) → Option (List ℕ) → (List ℕ → List ℕ → Type 0) → Type 0
ReadsAndWrites left0 left taken0 taken P = (read written : List ℕ) × Consumes left0 left read × Appends taken0 taken written × P read written

-- a front of this text
abbrev pub IsFrontOf : List ℕ → List ℕ → Type 0
IsFrontOf whole bytes = (rest : List ℕ) × (whole ≡ bytes ++ rest)
