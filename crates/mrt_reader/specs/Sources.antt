-- A file that comes from a source.
use Rattle.std.specs.Prelude.{◌≡◌, ℕ, ◌+◌, ◌-◌, ◌<◌, ◌≤◌, nat_lt, nat_le, Bool, true, false, if◌then◌else◌, List, [], ◌++◌, length, take, Option, Some, None, Result, Ok, Err, ⊤}
use Rattle.std.specs.Io.KnownBytes.{Consumes, IsAtEnd, prepend_known}
use Rattle.mrt_reader.specs.Records.{HoldNone, length_in}
use Rattle.mrt_reader.specs.Lines.{text_of, refused_text}
use Rattle.mrt_reader.specs.Sessions.{Written, closing}
use Rattle.mrt_reader.specs.Files.{HasRead, IsRefusal}
use Rattle.mrt_reader.specs.declared.answer.Code.{Code}
use Rattle.mrt_reader.specs.declared.answer.Next.{Next}
use Rattle.mrt_reader.specs.declared.answer.Next.TheVariants as answers
use Rattle.mrt_reader.specs.declared.answer.Stop.{Stop}
use Rattle.mrt_reader.specs.declared.answer.Stop.TheVariants.{ReadFault, Memory}

-- what a reader of records is seen as: which subtypes it uses, how many records it has read, what it has written, and the octets that it
-- has read beyond them
pub record Reading : Type 0 where
  pub as4 : Bool
  pub number : ℕ
  pub written : Written
  pub unread : List ℕ

-- the octets that follow the records read, where the source tells its own
abbrev pub left_by : Reading → Option (List ℕ) → Option (List ℕ)
left_by r left = prepend_known r.unread left

-- a whole record stands at the front of what was read beyond them, its header of 12 octets and so many more
abbrev pub holds_record : List ℕ → Bool
holds_record unread = if nat_lt (length unread) 12 then false else nat_le (length_in (take 12 unread)) (length unread - 12)

-- Octets are there that may be taken, or the input is at its end; nothing is taken yet.
abbrev pub IsReady : Option (List ℕ) → Option (List ℕ) → List ℕ → Result Bool Stop → Type 0
IsReady before now unread (Ok true) = Consumes before now [] × (0 < length unread)
IsReady before now unread (Ok false) = Consumes before now [] × IsAtEnd now
IsReady before now unread (Err ReadFault) = Consumes before now []
IsReady before now unread (Err Memory) = ⊤

-- Octets were taken, so many that were asked for: all of them, or fewer, where the input ends or a read failed.
abbrev pub AreTaken : Option (List ℕ) → Option (List ℕ) → ℕ → Result Bool Stop → List ℕ → Type 0
AreTaken before now count (Ok true) octets = Consumes before now octets × (length octets ≡ count)
AreTaken before now count (Ok false) octets = Consumes before now octets × (length octets < count) × IsAtEnd now
AreTaken before now count (Err ReadFault) octets = Consumes before now octets × (length octets < count)
AreTaken before now count (Err Memory) octets = ⊤

-- A file that the source may have: the one that it tells, and any where it tells none.
abbrev pub MayBe : Option (List ℕ) → List ℕ → Type 0
MayBe None file = ⊤
MayBe (Some told) file = file ≡ told

-- The next record was read, and this is the text of its lines.
pub record ReadsOne (old : Reading) (left : Option (List ℕ)) (text : List ℕ) (new : Reading) (now : Option (List ℕ)) : Type 0 where
  pub octets : List ℕ
  pub consumed : Consumes (left_by old left) (left_by new now) octets
  pub same : new.as4 ≡ old.as4
  pub more : new.number ≡ old.number + 1
  pub few : new.number ≤ 1000000000
  pub goes_on : (read before : List ℕ) → HasRead old.as4 read before old.number old.written → HasRead old.as4 (read ++ octets) (before ++ text) new.number new.written

-- No record is left, and this is the text of the last line.
pub record Ends (old : Reading) (left : Option (List ℕ)) (text : List ℕ) (new : Reading) (now : Option (List ℕ)) : Type 0 where
  pub consumed : Consumes (left_by old left) (left_by new now) []
  pub over : IsAtEnd (left_by new now)
  pub read : IsAtEnd now
  pub closed : text ≡ text_of (closing old.written)

-- The file is refused at the next record, and this is the line that says so.
pub record Refuses (old : Reading) (left : Option (List ℕ)) (number : ℕ) (code : Code) (text : List ℕ) : Type 0 where
  pub at : number ≡ old.number + 1
  pub rest : List ℕ
  pub may_be : MayBe (left_by old left) rest
  pub refused : IsRefusal old.as4 old.number rest code
  pub said : text ≡ refused_text number code

-- what an answer says
abbrev pub Gives : Reading → Option (List ℕ) → Next → List ℕ → Reading → Option (List ℕ) → Type 0
Gives old left answers.Record text new now = ReadsOne old left text new now
Gives old left answers.End text new now = Ends old left text new now
Gives old left (answers.Refused number code) text new now = Refuses old left number code text

-- What was read beyond the records, which is nothing more, holds no whole one.
pub record ReadsNone (old : Reading) (left : Option (List ℕ)) (new : Reading) (now : Option (List ℕ)) : Type 0 where
  pub octets : List ℕ
  pub consumed : Consumes (left_by old left) (left_by new now) octets
  pub drained : new.unread ≡ []
  pub none : HoldNone octets
