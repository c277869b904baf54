-- How far a run has come.
use Rattle.std.specs.Prelude.{ℕ, Bool, List, Option}
use Rattle.std.specs.Io.KnownBytes.{Appends, Consumes}
use Rattle.router.specs.Networks.{Networks}
use Rattle.replay.specs.Stream.{HasStepped}

-- what was read of a source, and what a sink took, up to now
pub record Progress (quiet : Bool) (left0 left taken0 taken : Option (List ℕ)) (number : ℕ) (m : Networks) (turns : ℕ) (pending : List ℕ) : Type 0 where
  pub read : List ℕ
  pub written : List ℕ
  pub consumed : Consumes left0 left read
  pub appended : Appends taken0 taken written
  pub stepped : HasStepped quiet read number m turns pending written
