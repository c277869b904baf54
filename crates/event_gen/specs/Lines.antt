-- The text of a seed: what it opens with, the events of the draws, and `idle`.
use Rattle.std.specs.Prelude.{ℕ, ◌+◌, ◌*◌, ◌==◌, if◌then◌else◌, false, List, [], ◌∷◌, ◌++◌, map, Some, None, codes}
use Rattle.std.specs.List.{flat_map, join_with_byte}
use Rattle.std.specs.Fmt.{decimal}
use Rattle.hex.specs.Hex.{encode_lower}
use Rattle.addr4.specs.Prefixes.{AddressPrefix}
use Rattle.addr4.specs.Texts.{prefix_text}
use Rattle.addr4.specs.Families.{in_front}
use Rattle.bgp_attr.specs.Attributes.{Attrs}
use Rattle.bgp_attr.specs.declared.attrs.Origin as origins
use Rattle.bgp_attr.specs.declared.path.SegmentKind.TheVariants.{Sequence}
use Rattle.bgp_wire.specs.Readable.{announcing, withdrawing}
use Rattle.bgp_wire.specs.Spelling.{update_octets}
use Rattle.event_gen.specs.Events.{events_from}
use Rattle.event_gen.specs.declared.drawn.Work.{Work}
use Rattle.event_gen.specs.declared.drawn.Work.TheVariants as works
use Rattle.event_gen.specs.declared.drawn.Drawn.{Drawn}
use Rattle.event_gen.specs.declared.drawn.Drawn.TheVariants as drawn
use Rattle.event_gen.specs.declared.generator.Part.{Part}
use Rattle.event_gen.specs.declared.generator.Part.TheVariants.{Opening, Events, Over}

-- ---- messages

-- the prefix 10.X.0.0/16
abbrev pub block : ℕ → AddressPrefix
block x = record { address = in_front (167772160 + x * 65536); length = 16 }

-- the identifier 192.0.2.K
abbrev pub peer_id : ℕ → ℕ
peer_id k = 3221225984 + k

-- the address 192.0.2.K
abbrev pub peer_addr : ℕ → ℕ
peer_addr k = in_front (peer_id k)

-- the AS with which the path of a peer's routes begins, and ends
abbrev pub path_as : ℕ → ℕ
path_as k = if k == 2 then 65002 else if k == 3 then 65003 else 65001

-- the attributes with which a peer announces
abbrev pub announced : ℕ → origins.Origin → ℕ → Attrs
announced k origin med = record {
  origin = origin;
  path = record { kind = Sequence; numbers = path_as k ∷ [] } ∷ [];
  next_hop = peer_addr k;
  med = Some med;
  local_pref = None;
  atomic = false;
  aggregator = None;
  reflection = record { originator = None; clusters = [] };
  unrecognized = [];
}

-- the UPDATE that announces the prefix 10.X.0.0/16, AS numbers in two octets
abbrev pub announce_octets : ℕ → ℕ → origins.Origin → ℕ → List ℕ
announce_octets k x origin med = update_octets false false (announcing (block x) (announced k origin med))

-- the UPDATE that withdraws it
abbrev pub withdraw_octets : ℕ → List ℕ
withdraw_octets x = update_octets false false (withdrawing (block x))

-- ---- lines

-- the prefix 192.0.2.K/32
abbrev pub host : ℕ → AddressPrefix
host k = record { address = peer_addr k; length = 32 }

-- the name of a task
abbrev pub work_text : Work → List ℕ
work_text works.ReadRib = codes "rd.rib"
work_text (works.Out k) = codes "out." ++ decimal k
work_text (works.NextHops k) = codes "nh." ++ decimal k
work_text (works.Filter k) = codes "fin." ++ decimal k

unfoldable pub event_words : Drawn → List (List ℕ)
event_words (drawn.Announce k x origin med) = codes "bgp" ∷ decimal k ∷ encode_lower (announce_octets k x origin med) ∷ []
event_words (drawn.Withdraw k x) = codes "bgp" ∷ decimal k ∷ encode_lower (withdraw_octets x) ∷ []
event_words (drawn.Down k) = codes "down" ∷ decimal k ∷ []
event_words (drawn.Up k) = codes "up" ∷ decimal k ∷ []
event_words (drawn.Prefer k n) = codes "filter" ∷ codes "in" ∷ decimal k ∷ codes "any" ∷ codes "pref" ∷ decimal n ∷ codes "accept" ∷ []
event_words (drawn.AddHost k n) = codes "route" ∷ codes "add" ∷ codes "static" ∷ prefix_text false (host k) ∷ codes "direct" ∷ codes "eth1" ∷ decimal n ∷ []
event_words (drawn.DeleteHost k) = codes "route" ∷ codes "del" ∷ codes "static" ∷ prefix_text false (host k) ∷ []
event_words (drawn.Work task n) = codes "work" ∷ work_text task ∷ decimal n ∷ []
event_words drawn.Idle = codes "idle" ∷ []

-- the line of an event, without its end
abbrev pub event_line : Drawn → List ℕ
event_line e = join_with_byte 32 (event_words e)

-- this speaker, four peers, the route to them, and four sessions
unfoldable pub opening : List (List ℕ)
opening =
    codes "local 65000 192.0.2.254 192.0.2.254"
    ∷ codes "peer 1 65001 192.0.2.1 192.0.2.1"
    ∷ codes "peer 2 65002 192.0.2.2 192.0.2.2"
    ∷ codes "peer 3 65000 192.0.2.3 192.0.2.3"
    ∷ codes "peer 4 65001 192.0.2.4 192.0.2.4"
    ∷ codes "route add connected 192.0.2.0/24 direct eth0 1"
    ∷ codes "up 1"
    ∷ codes "up 2"
    ∷ codes "up 3"
    ∷ codes "up 4"
    ∷ []

-- the lines of so many events from a state on, and the last one
abbrev pub event_lines : ℕ → ℕ → List (List ℕ)
event_lines n x = map event_line (events_from n x ++ drawn.Idle ∷ [])

-- the lines of a seed with so many events
abbrev pub lines : ℕ → ℕ → List (List ℕ)
lines seed n = opening ++ event_lines n seed

-- ---- texts

-- lines, each with its end
abbrev pub ended : List (List ℕ) → List ℕ
ended ls = flat_map (λ line. line ++ 10 ∷ []) ls

-- the whole text
abbrev pub text : ℕ → ℕ → List ℕ
text seed n = ended (lines seed n)

-- what is left of a text: which part comes next, how many events, and from which state on
unfoldable pub text_left : Part → ℕ → ℕ → List ℕ
text_left Opening n x = text x n
text_left Events n x = ended (event_lines n x)
text_left Over n x = []

-- ---- the source

-- a source of generated text: the bytes that are left, and how many faults there were
pub record Supply : Type 0 where
  pub left : List ℕ
  pub faults : ℕ
