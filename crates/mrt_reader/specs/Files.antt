-- The text that a whole file gives, and where it is refused.
use Rattle.std.specs.Prelude.{◌≡◌, ◌≢◌, ℕ, ◌+◌, ◌<◌, ◌≤◌, Bool, List, [], ◌++◌, length, Option, Some, None}
use Rattle.std.specs.List.{AllByRecursion, flat_map}
use Rattle.mrt_reader.specs.Records.{Record, IsRecord, octets_of, HoldNone}
use Rattle.mrt_reader.specs.Fields.{said, Malformed}
use Rattle.mrt_reader.specs.Lines.{text_of, refused_text}
use Rattle.mrt_reader.specs.Sessions.{Written, nothing_written, after_all, records_lines, closing}
use Rattle.mrt_reader.specs.declared.answer.Code.{Code}
use Rattle.mrt_reader.specs.declared.answer.Code.TheVariants.{M1, M2, M3}

-- a record that isn't refused
pub record IsSound (as4 : Bool) (r : Record) : Type 0 where
  pub whole : IsRecord r
  pub formed : said as4 r ≢ Malformed

-- What was read is so many sound records, and this text, behind which this was written, is that of their lines.
pub record HasRead (as4 : Bool) (read text : List ℕ) (number : ℕ) (written : Written) : Type 0 where
  pub records : List Record
  pub whole : read ≡ flat_map octets_of records
  pub each : AllByRecursion (IsSound as4) records
  pub count : number ≡ length records
  pub few : number ≤ 1000000000
  pub lines : text ≡ text_of (records_lines as4 nothing_written records)
  pub behind : written ≡ after_all nothing_written (records_lines as4 nothing_written records)

-- Why a file is refused behind so many records, by what follows them: it ends within a record; the next record's fields and its length
-- don't agree; or it has a record more than may be.
abbrev pub IsRefusal : Bool → ℕ → List ℕ → Code → Type 0
IsRefusal as4 n rest M1 = (n < 1000000000) × (0 < length rest) × HoldNone rest
IsRefusal as4 n rest M2 = (n < 1000000000) × ((r : Record) × (more : List ℕ) × IsRecord r × (rest ≡ octets_of r ++ more) × (said as4 r ≡ Malformed))
IsRefusal as4 n rest M3 = (n ≡ 1000000000) × (0 < length rest)

-- Reading ends behind so many records: the file is over, or refused.
abbrev pub IsEnd : Bool → ℕ → List ℕ → Option Code → Type 0
IsEnd as4 n rest None = rest ≡ []
IsEnd as4 n rest (Some code) = IsRefusal as4 n rest code

-- the text of the last line, or of the refusal at the next record
abbrev pub end_text : ℕ → Written → Option Code → List ℕ
end_text n written None = text_of (closing written)
end_text n written (Some code) = refused_text (n + 1) code

-- This is the text of a file, whose reading ends so: of the lines of the sound records at its front, and of the end.
pub record IsTextOf (as4 : Bool) (file text : List ℕ) (end : Option Code) : Type 0 where
  pub number : ℕ
  pub written : Written
  pub front : List ℕ
  pub rest : List ℕ
  pub lines : List ℕ
  pub split : file ≡ front ++ rest
  pub read : HasRead as4 front lines number written
  pub ends : IsEnd as4 number rest end
  pub said : text ≡ lines ++ end_text number written end

-- A file has one text and one end.
abbrev pub TextsAreOne : Type 0
TextsAreOne = (as4 : Bool) (file a b : List ℕ) (end other : Option Code) → IsTextOf as4 file a end → IsTextOf as4 file b other → (a ≡ b) × (end ≡ other)
