-- The lines of an event file that records give.
use Rattle.std.specs.Prelude.{ℕ, List, [], ◌∷◌, ◌++◌, codes, false}
use Rattle.std.specs.List.{flat_map, join_with_byte}
use Rattle.std.specs.Fmt.{decimal}
use Rattle.hex.specs.Hex.{encode_lower}
use Rattle.addr4.specs.Texts.{addr_text}
use Rattle.mrt_reader.specs.declared.answer.Code.{Code}
use Rattle.mrt_reader.specs.declared.answer.Code.TheVariants.{M1, M2, M3}

pub data Line : Type 0 where
  -- AS numbers have four octets
  As4 : Line
  -- this speaker: its AS number and address
  Local : ℕ → ℕ → Line
  -- a peer: its number, AS number and address
  Peer : ℕ → ℕ → ℕ → Line
  -- the session of this peer begins, or ends
  Up : ℕ → Line
  Down : ℕ → Line
  -- a message of this peer
  Bgp : ℕ → List ℕ → Line
  Idle : Line

-- an address stands for the BGP identifier too
unfoldable pub line_words : Line → List (List ℕ)
line_words As4 = codes "as4" ∷ []
line_words (Local asn addr) = codes "local" ∷ decimal asn ∷ addr_text false addr ∷ addr_text false addr ∷ []
line_words (Peer k asn addr) = codes "peer" ∷ decimal k ∷ decimal asn ∷ addr_text false addr ∷ addr_text false addr ∷ []
line_words (Up k) = codes "up" ∷ decimal k ∷ []
line_words (Down k) = codes "down" ∷ decimal k ∷ []
line_words (Bgp k octets) = codes "bgp" ∷ decimal k ∷ encode_lower octets ∷ []
line_words Idle = codes "idle" ∷ []

-- a line with its end
abbrev pub line_text : Line → List ℕ
line_text line = join_with_byte 32 (line_words line) ++ 10 ∷ []

abbrev pub text_of : List Line → List ℕ
text_of lines = flat_map line_text lines

abbrev pub code_text : Code → List ℕ
code_text M1 = codes "M1"
code_text M2 = codes "M2"
code_text M3 = codes "M3"

-- the line of a refusal at a record
abbrev pub refused_text : ℕ → Code → List ℕ
refused_text number code = join_with_byte 32 (codes "refused" ∷ decimal number ∷ code_text code ∷ []) ++ 10 ∷ []
