-- Laws of these definitions alone, for the crates above.
use Rattle.std.specs.Prelude.{◌≡◌, ◌≤◌, ◌<◌, ◌⊎◌, ℕ, not, List, Contains, Option, Some, None}
use Rattle.std.specs.FinMap as tables
use Rattle.addr4.specs.Prefixes.{AddressPrefix, IsMasked, Holds}
use Rattle.addr4.specs.Blocks.{width}
use Rattle.bgp_attr.specs.declared.speaker.Profile.{Profile}
use Rattle.link_change.specs.Rows.{Rows}
use Rattle.bgp_wire.specs.declared.message.Message.{Message}
use Rattle.event_text.specs.Event.{Event}
use Rattle.event_text.specs.declared.declared.DeclaredPeer.{DeclaredPeer}
use Rattle.rib_route.specs.declared.Proto.{Proto}
use Rattle.rib_route.specs.Rows.{Interior}
use Rattle.rib_route.specs.Rows.{FibRow}
use Rattle.rib_route.specs.Distances.{distance}
use Rattle.live_state.specs.Messages.{Says, is_ending, ends_session}
use Rattle.live_state.specs.Declared.{declared_after}
use Rattle.live_state.specs.Lives.{LiveState, LiveAfter, Interiors}
use Rattle.live_state.specs.Decided.{distance_of, least_rows, longest_match, lesser_of}

-- In each profile, what octets say ends the session exactly where they are seen to end it.
abbrev pub SessionsEnd : Type 0
SessionsEnd = (profile : Profile) (p : DeclaredPeer) (octets : List ℕ) (message : Message) → Says profile p octets message → is_ending message ≡ ends_session profile (not p.words.internal) octets

-- The declarations after an event are told by those before it.
abbrev pub DeclarationsFollow : Type 0
DeclarationsFollow = (l : LiveState) (event : Event) (l' : LiveState) → LiveAfter l event l' → l'.declared ≡ declared_after l.declared event

-- What is decided of the routes of some protocols at a prefix is a live one of one of them, and none of them has a live one there of
-- lesser distance. So it is of the protocols of `low`, of `dyn`, and of all, which those of `int` and `fib` are.
abbrev pub TheLeastDistanceIsDecided : Type 0
TheLeastDistanceIsDecided =
    (interior : Proto → Interiors) (protocols : List Proto) (p : AddressPrefix) (row : Interior) → least_rows interior protocols p ≡ Some row
    → ((proto : Proto) × Contains protocols proto × (tables.get (interior proto) p ≡ Some row))
    × ((proto : Proto) (other : Interior) → Contains protocols proto → tables.get (interior proto) p ≡ Some other → distance_of row ≤ distance_of other)

-- Nothing is decided only where none of them has a live one.
abbrev pub EachLiveRouteCounts : Type 0
EachLiveRouteCounts =
    (interior : Proto → Interiors) (protocols : List Proto) (p : AddressPrefix) → least_rows interior protocols p ≡ None
    → (proto : Proto) → Contains protocols proto → tables.get (interior proto) p ≡ None

-- A match is the row of a prefix that holds the address, and no longer one that holds it has a row; there is none only where no
-- prefix that holds the address has one.
abbrev pub IsLongestMatch : Rows Interior → ℕ → Option Interior → Type 0
IsLongestMatch rows address None = (q : AddressPrefix) → IsMasked width q → Holds width q address → rows q ≡ None
IsLongestMatch rows address (Some row) =
    (p : AddressPrefix) × IsMasked width p × Holds width p address × (rows p ≡ Some row) × ((q : AddressPrefix) → IsMasked width q → Holds width q address → p.length < q.length → rows q ≡ None)

abbrev pub TheLongestMatchIsDecided : Type 0
TheLongestMatchIsDecided = (rows : Rows Interior) (address : ℕ) → IsLongestMatch rows address (longest_match rows address)

-- What packets are forwarded by is one of the two rows, and neither is of lesser distance;
abbrev pub TheLesserDistanceForwards : Type 0
TheLesserDistanceForwards =
    (one other : Option FibRow) (row : FibRow) → lesser_of one other ≡ Some row
    → ((one ≡ Some row) ⊎ (other ≡ Some row)) × ((x : FibRow) → (one ≡ Some x) ⊎ (other ≡ Some x) → distance row.proto ≤ distance x.proto)

-- there is none only where neither is there.
abbrev pub EachRowForwards : Type 0
EachRowForwards = (one other : Option FibRow) → lesser_of one other ≡ None → (one ≡ None) × (other ≡ None)
