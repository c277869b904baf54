-- What is read of a body of which only the front is kept.
use Rattle.std.specs.Prelude.{◌≡◌, ℕ, Bool, true, if◌then◌else◌, min, List, ◌≤◌, length, take, drop, ⊤}
use Rattle.mrt_reader.specs.Fields.{Told, Said, is_used}
use Rattle.mrt_reader.specs.Fields as told
use Rattle.mrt_reader.specs.declared.fields.Header.{Header}
use Rattle.mrt_reader.specs.declared.fields.News.{News}
use Rattle.mrt_reader.specs.declared.fields.News.TheVariants as news
use Rattle.mrt_reader.specs.declared.fields.Body.{Body}
use Rattle.mrt_reader.specs.declared.fields.Body.TheVariants as bodies

-- by what is kept of the body
abbrev pub told_of : List ℕ → News → Told
told_of kept news.Established = told.Established
told_of kept news.Ended = told.Ended
told_of kept (news.Message place) = told.Message (drop place kept)
told_of kept news.NoMessage = told.NoMessage

abbrev pub said_of : List ℕ → Body → Said
said_of kept bodies.Unused = told.Unused
said_of kept bodies.Malformed = told.Malformed
said_of kept (bodies.Session s n) = told.Session s (told_of kept n)

-- what may be of use of a whole body
abbrev pub kept_of : List ℕ → List ℕ
kept_of whole = take 4120 whole

-- how many octets of a body are kept
abbrev pub kept_size : Bool → Header → ℕ
kept_size as4 h = if is_used as4 h.kind h.subtype then min h.length 4120 else 0

-- So much is kept of a body of this length: where the record is of use, the front that may be.
pub record IsKeptOf (as4 : Bool) (h : Header) (kept whole : List ℕ) : Type 0 where
  pub size : length whole ≡ h.length
  pub front : is_used as4 h.kind h.subtype ≡ true → kept ≡ kept_of whole

-- a message begins within what is kept
abbrev pub HasMessage : ℕ → News → Type 0
HasMessage size news.Established = ⊤
HasMessage size news.Ended = ⊤
HasMessage size (news.Message place) = place ≤ size
HasMessage size news.NoMessage = ⊤

abbrev pub HasMessageIn : ℕ → Body → Type 0
HasMessageIn size bodies.Unused = ⊤
HasMessageIn size bodies.Malformed = ⊤
HasMessageIn size (bodies.Session s n) = HasMessage size n
