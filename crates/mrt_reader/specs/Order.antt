-- The text of a file may be run: each line asks something of the lines before it, which they give.
use Rattle.std.specs.Prelude.{◌≡◌, ◌⊎◌, ℕ, ◌+◌, ◌-◌, ◌*◌, ◌<◌, ◌≤◌, ◌^◌, ◌==◌, Bool, true, false, if◌then◌else◌, List, [], ◌∷◌, ◌++◌, length, Option, Some, None, ⊤}
use Rattle.std.specs.List.{AllByRecursion}
use Rattle.addr4.specs.Families.{IsIpv4}
use Rattle.addr4.specs.Hosts.{is_host}
use Rattle.mrt_reader.specs.Records.{Record, AreBytes}
use Rattle.mrt_reader.specs.Lines.{Line}
use Rattle.mrt_reader.specs.Lines as lines
use Rattle.mrt_reader.specs.Sessions.{Written, nothing_written, after, after_all, peer_at, place_of, records_lines, closing}

-- an AS number and an address that a speaker may have
pub record IsSpeaker (as4 : Bool) (asn addr : ℕ) : Type 0 where
  pub some : 0 < asn
  pub narrow : as4 ≡ false → asn < 65536
  pub wide : asn < 2 ^ 32
  pub host : is_host false addr ≡ true
  pub ipv4 : IsIpv4 addr

-- a peer with this number was declared
pub record IsDeclared (w : Written) (k : ℕ) : Type 0 where
  pub least : 0 < k
  pub most : k ≤ length w.peers

-- this speaker was declared, with another address
abbrev pub IsForeign : ℕ → Option ℕ → Type 0
IsForeign addr None = ⊥
IsForeign addr (Some local) = (local == addr) ≡ false

-- `as4` and `local` come first and once; numbers and addresses of peers are new; a session begins where none is, up to the 65,535th, and
-- a message comes within one
abbrev pub Asks : Bool → Written → Line → Type 0
Asks as4 w lines.As4 = (as4 ≡ true) × (w ≡ nothing_written)
Asks as4 w (lines.Local asn addr) = (w ≡ nothing_written) × IsSpeaker as4 asn addr
Asks as4 w (lines.Peer k asn addr) = (k ≡ length w.peers + 1) × (k ≤ 64) × (place_of addr w.peers ≡ None) × IsForeign addr w.local × IsSpeaker as4 asn addr
Asks as4 w (lines.Up k) = IsDeclared w k × ((peer_at w (k - 1)).up ≡ false) × ((peer_at w (k - 1)).sessions < 65535)
Asks as4 w (lines.Down k) = IsDeclared w k × ((peer_at w (k - 1)).up ≡ true)
Asks as4 w (lines.Bgp k octets) = IsDeclared w k × ((peer_at w (k - 1)).up ≡ true) × (0 < length octets) × (length octets ≤ 4096) × AreBytes octets
Asks as4 w lines.Idle = w.local ≡ None → ⊥

abbrev pub AreInOrder : Bool → Written → List Line → Type 0
AreInOrder as4 w [] = ⊤
AreInOrder as4 w (l ∷ ls) = Asks as4 w l × AreInOrder as4 (after w l) ls

-- its octets are bytes
abbrev pub HasBytes : Record → Type 0
HasBytes r = AreBytes r.body

-- the lines of a file of these records
abbrev pub file_lines : Bool → List Record → List Line
file_lines as4 records = records_lines as4 nothing_written records ++ closing (after_all nothing_written (records_lines as4 nothing_written records))

-- Each line that records give stands where it may.
abbrev pub LinesAreInOrder : Type 0
LinesAreInOrder = (as4 : Bool) (records : List Record) → AllByRecursion HasBytes records → AreInOrder as4 nothing_written (file_lines as4 records)

-- `as4`, where AS numbers have four octets, and `local`
abbrev pub first_lines : Bool → ℕ → ℕ → List Line
first_lines as4 asn addr = (if as4 then lines.As4 ∷ [] else []) ++ lines.Local asn addr ∷ []

-- A file without lines, or one that begins with these.
abbrev pub IsOpened : Bool → List Line → Type 0
IsOpened as4 ls = (ls ≡ []) ⊎ ((asn addr : ℕ) × (more : List Line) × (ls ≡ first_lines as4 asn addr ++ more))

abbrev pub FilesAreOpened : Type 0
FilesAreOpened = (as4 : Bool) (records : List Record) → IsOpened as4 (file_lines as4 records)

-- A record gives at most a peer, a session and a message; beside these there are `as4`, `local` and `idle`.
abbrev pub LinesAreFew : Type 0
LinesAreFew = (as4 : Bool) (records : List Record) → length (file_lines as4 records) ≤ 3 * length records + 3
