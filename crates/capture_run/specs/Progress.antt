-- How far a run of `mrt` has come.
use Rattle.std.specs.Prelude.{◌≡◌, ◌⊎◌, ℕ, Bool, List, [], ◌++◌, Option}
use Rattle.std.specs.Io.KnownBytes.{Appends, Consumes}
use Rattle.mrt_reader.specs.Files.{HasRead}
use Rattle.mrt_reader.specs.Sources.{Reading, left_by}
use Rattle.check_run.specs.Runs.{Writes, IsFrontOf}
use Rattle.capture_run.specs.Answers.{IsTextOfFirst}
use Rattle.capture_run.specs.declared.ending.Ending.{Ending}
use Rattle.capture_run.specs.declared.ending.Ending.TheVariants as endings

-- Of the records that were read up to now, the sink took the lines of some first ones; the others aren't written yet.
pub record Progress (as4 : Bool) (left0 left taken0 taken : Option (List ℕ)) (reader : Reading) (unwritten : List ℕ) : Type 0 where
  pub same : reader.as4 ≡ as4
  pub read : List ℕ
  pub consumed : Consumes left0 (left_by reader left) read
  pub written : List ℕ
  pub appended : Appends taken0 taken written
  pub lines : HasRead as4 read (written ++ unwritten) reader.number reader.written
  pub first : IsTextOfFirst as4 read written

-- The sink took all that wasn't written, or nothing.
abbrev pub Flushes : Option (List ℕ) → Option (List ℕ) → List ℕ → List ℕ → Type 0
Flushes taken0 taken old new = (Appends taken0 taken old × (new ≡ [])) ⊎ (Appends taken0 taken [] × (new ≡ old))

-- The sink took all that wasn't written, and this is the ending; or a write failed, and it took a front of that.
abbrev pub Finishes : Option (List ℕ) → Option (List ℕ) → List ℕ → Ending → Ending → Type 0
Finishes taken0 taken unwritten ending result =
    ((result ≡ ending) × Appends taken0 taken unwritten) ⊎ ((result ≡ endings.WriteFault) × Writes taken0 taken (IsFrontOf unwritten))
