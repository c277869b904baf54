-- The texts of values and of output lines. Addresses and prefixes are written as those of a family, and the names of the second network's links
-- and tasks bear its mark: so a text is that of a family, of which is said whether it is IPv6.
use Rattle.std.specs.Prelude.{ℕ, Bool, true, false, ◌&&◌, cond, List, [], ◌∷◌, ◌++◌, map, Option, Some, None, codes}
use Rattle.std.specs.List.{join_with_byte, flat_map}
use Rattle.std.specs.Fmt.{decimal}
use Rattle.hex.specs.Hex.{encode_lower}
use Rattle.addr4.specs.Prefixes.{AddressPrefix}
use Rattle.addr4.specs.Texts.{addr_text, dotted, id_text, prefix_text}
use Rattle.rib_route.specs.declared.Proto.{Proto}
use Rattle.rib_route.specs.declared.protocol.FibProto.{FibProto}
use Rattle.rib_route.specs.declared.protocol.FibProto.TheVariants as protocols
use Rattle.rib_route.specs.Rows.{Interior}
use Rattle.rib_route.specs.Rows.{External}
use Rattle.rib_route.specs.Rows.{FibRow}
use Rattle.rib_route.specs.Distances.{fib_proto, external_proto}
use Rattle.bgp_attr.specs.declared.path.SegmentKind.{SegmentKind}
use Rattle.bgp_attr.specs.declared.path.SegmentKind.TheVariants.{Set, Sequence}
use Rattle.bgp_attr.specs.declared.path.Segment.{Segment}
use Rattle.bgp_attr.specs.declared.attrs.Origin.{Origin}
use Rattle.bgp_attr.specs.declared.attrs.Origin.TheVariants.{Igp, Egp, Incomplete}
use Rattle.bgp_attr.specs.declared.attrs.Aggregator.{Aggregator}
use Rattle.bgp_attr.specs.declared.unrecognized.Unrecognized.{Unrecognized}
use Rattle.bgp_attr.specs.Attributes.{Attrs}
use Rattle.bgp_attr.specs.Reflections.{Reflected}
use Rattle.bgp_attr.specs.declared.speaker.Neighbour.{Neighbour}
use Rattle.bgp_attr.specs.Routes.{Route}
use Rattle.journal_text.specs.Names.{mark}
use Rattle.journal_text.specs.declared.link.Link.{Link}
use Rattle.journal_text.specs.declared.link.Link.TheVariants.{In, Peer, Filt, Res, Org, Lost, Low, Dyn, Int, Red, Best, ReadRib, Ebgp, Ibgp, Ext, Fib, Read, Outf, Adv}
use Rattle.journal_text.specs.declared.link.Task.{Task}
use Rattle.journal_text.specs.declared.link.Task.TheVariants as tasks
use Rattle.journal_text.specs.Lines.{Value}
use Rattle.journal_text.specs.declared.value.Value.TheVariants as values
use Rattle.journal_text.specs.Lines.{Entry}
use Rattle.journal_text.specs.declared.entry.Entry.TheVariants.{Begin, Inherit, Add, Delete, Replace, Asked, Weld, End}
use Rattle.journal_text.specs.declared.line.Code.{Code}
use Rattle.journal_text.specs.declared.line.Code.TheVariants.{E1, E2, E3, E4, E5, E6, E7, E8, E9}
use Rattle.journal_text.specs.Lines.{Line}
use Rattle.journal_text.specs.declared.line.Line.TheVariants.{Journal, Out, Note, Row, Rows, Cover, Settled, Work, Bound, Idle, Ignored, Absent, Refused}

abbrev pub origin_number : Origin → ℕ
origin_number Igp = 0
origin_number Egp = 1
origin_number Incomplete = 2

-- `(a.b)` for a sequence, `{a.b}` for a set
abbrev pub bracketed : SegmentKind → List ℕ → List ℕ
bracketed Sequence text = 40 ∷ text ++ 41 ∷ []
bracketed Set text = 123 ∷ text ++ 125 ∷ []

unfoldable pub segment_text : Segment → List ℕ
segment_text s = bracketed s.kind (dotted s.numbers)

unfoldable pub path_text : List Segment → List ℕ
path_text path = flat_map segment_text path

-- a comma, a letter and a number, where there is one
abbrev pub lettered : ℕ → Option ℕ → List ℕ
lettered letter None = []
lettered letter (Some n) = 44 ∷ letter ∷ decimal n

-- AS, `/`, address, and `!` where it is partial
unfoldable pub aggregator_text : Option Aggregator → List ℕ
aggregator_text None = []
aggregator_text (Some g) = 44 ∷ 103 ∷ decimal g.asn ++ 47 ∷ id_text g.addr ++ cond g.partial (33 ∷ []) []

-- identifiers with semicolons between them
abbrev pub addresses_text : List ℕ → List ℕ
addresses_text addresses = join_with_byte 59 (map id_text addresses)

unfoldable pub originator_text : Option ℕ → List ℕ
originator_text None = []
originator_text (Some id) = 44 ∷ 114 ∷ id_text id

unfoldable pub clusters_text : List ℕ → List ℕ
clusters_text [] = []
clusters_text (c ∷ cs) = 44 ∷ 99 ∷ addresses_text (c ∷ cs)

-- `r` ORIGINATOR_ID, `c` CLUSTER_LIST, where they are there
abbrev pub reflection_text : Reflected → List ℕ
reflection_text r = originator_text r.originator ++ clusters_text r.clusters

-- type, `:`, and the octets in lower-case hex
unfoldable pub unrecognized_text : Unrecognized → List ℕ
unrecognized_text u = 44 ∷ 120 ∷ decimal u.kind ++ 58 ∷ encode_lower u.value

-- `o` origin, `p` path, `n` next hop
unfoldable pub required_text : Bool → Attrs → List ℕ
required_text v6 a = codes "o" ++ decimal (origin_number a.origin) ++ codes ",p" ++ path_text a.path ++ codes ",n" ++ addr_text v6 a.next_hop

-- `m` MED, `l` LOCAL_PREF, `a` ATOMIC_AGGREGATE, `g` AGGREGATOR, where they are there
unfoldable pub optional_text : Attrs → List ℕ
optional_text a = lettered 109 a.med ++ lettered 108 a.local_pref ++ cond a.atomic (codes ",a") [] ++ aggregator_text a.aggregator

-- parted by commas; at the end `x` for each unrecognized attribute that is kept
unfoldable pub attrs_text : Bool → Attrs → List ℕ
attrs_text v6 a = required_text v6 a ++ optional_text a ++ reflection_text a.reflection ++ flat_map unrecognized_text a.unrecognized

-- the number of the peer that a route came from, and 0 of a local route
abbrev pub sender_number : Option Neighbour → ℕ
sender_number None = 0
sender_number (Some peer) = peer.number

-- a number and a colon
abbrev pub field_text : ℕ → List ℕ
field_text n = decimal n ++ 58 ∷ []

-- a number, or `-` where there is none, and a colon
abbrev pub known_text : Option ℕ → List ℕ
known_text None = codes "-:"
known_text (Some n) = field_text n

-- peer, preference, MED that counts, how often more the local AS is put in front, interior metric, each with a colon; and
-- the attributes
unfoldable pub route_text : Bool → Route → List ℕ
route_text v6 r = field_text (sender_number r.from) ++ field_text r.pref ++ known_text r.med ++ field_text r.prepend ++ known_text r.igp ++ attrs_text v6 r.attrs

abbrev pub fib_proto_text : FibProto → List ℕ
fib_proto_text protocols.Connected = codes "connected"
fib_proto_text protocols.Static = codes "static"
fib_proto_text protocols.Ospf = codes "ospf"
fib_proto_text protocols.Rip = codes "rip"
fib_proto_text protocols.Ebgp = codes "ebgp"
fib_proto_text protocols.Ibgp = codes "ibgp"

abbrev pub proto_text : Proto → List ℕ
proto_text proto = fib_proto_text (fib_proto proto)

-- an address, or `direct` where there is no gateway
abbrev pub gateway_text : Bool → Option ℕ → List ℕ
gateway_text v6 None = codes "direct"
gateway_text v6 (Some addr) = addr_text v6 addr

-- words with a colon between them
abbrev pub with_colons : List (List ℕ) → List ℕ
with_colons words = join_with_byte 58 words

-- protocol, gateway, interface and metric
unfoldable pub interior_text : Bool → Interior → List ℕ
interior_text v6 r = with_colons (proto_text r.proto ∷ gateway_text v6 r.gateway ∷ r.iface ∷ decimal r.metric ∷ [])

-- `ebgp` or `ibgp`, and the next hop
unfoldable pub external_text : Bool → External → List ℕ
external_text v6 r = with_colons (fib_proto_text (external_proto r) ∷ addr_text v6 r.next_hop ∷ [])

-- protocol, gateway and interface
unfoldable pub fib_text : Bool → FibRow → List ℕ
fib_text v6 r = with_colons (fib_proto_text r.proto ∷ gateway_text v6 r.gateway ∷ r.iface ∷ [])

abbrev pub value_text : Bool → Value → List ℕ
value_text v6 (values.Attrs a) = attrs_text v6 a
value_text v6 (values.Route r) = route_text v6 r
value_text v6 (values.Interior r) = interior_text v6 r
value_text v6 (values.External r) = external_text v6 r
value_text v6 (values.FibRow r) = fib_text v6 r

-- a dot and a number
abbrev pub dot_number : ℕ → List ℕ
dot_number n = 46 ∷ decimal n

-- the name of a link within its network
unfoldable pub link_name : Link → List ℕ
link_name (In k) = codes "in" ++ dot_number k
link_name (Peer k s) = codes "peer" ++ dot_number k ++ dot_number s
link_name (Filt k) = codes "filt" ++ dot_number k
link_name (Res k) = codes "res" ++ dot_number k
link_name (Org proto) = codes "org." ++ proto_text proto
link_name (Lost proto n) = codes "org." ++ proto_text proto ++ dot_number n
link_name Low = codes "low"
link_name Dyn = codes "dyn"
link_name Int = codes "int"
link_name Red = codes "red"
link_name Best = codes "best"
link_name ReadRib = codes "read.rib"
link_name Ebgp = codes "ebgp"
link_name Ibgp = codes "ibgp"
link_name Ext = codes "ext"
link_name Fib = codes "fib"
link_name (Read j s) = codes "read" ++ dot_number j ++ dot_number s
link_name (Outf j s) = codes "outf" ++ dot_number j ++ dot_number s
link_name (Adv j s) = codes "adv" ++ dot_number j ++ dot_number s

-- the name of a task within its network
unfoldable pub task_name : Task → List ℕ
task_name (tasks.Del k s) = codes "del" ++ dot_number k ++ dot_number s
task_name (tasks.Fin k) = codes "fin" ++ dot_number k
task_name (tasks.Nh k) = codes "nh" ++ dot_number k
task_name tasks.ReadRib = codes "rd.rib"
task_name (tasks.Out j) = codes "out" ++ dot_number j
task_name (tasks.Rdel proto n) = codes "rdel." ++ proto_text proto ++ dot_number n
task_name tasks.Red = codes "red"
task_name tasks.Ext = codes "ext"
task_name (tasks.Ref j) = codes "ref" ++ dot_number j

-- the name of a link: the second network's with a mark in front
unfoldable pub link_text : Bool → Link → List ℕ
link_text v6 link = mark v6 ++ link_name link

-- the name of a task, likewise
unfoldable pub task_text : Bool → Task → List ℕ
task_text v6 task = mark v6 ++ task_name task

-- words with one space between them, and LF
abbrev pub words_line : List (List ℕ) → List ℕ
words_line words = join_with_byte 32 words ++ 10 ∷ []

-- the text of a value, or `-` for none
abbrev pub answer_text : Bool → Option Value → List ℕ
answer_text v6 None = codes "-"
answer_text v6 (Some value) = value_text v6 value

unfoldable pub entry_words : Bool → Entry Value → List (List ℕ)
entry_words v6 (Begin link) = codes "b" ∷ link_text v6 link ∷ []
entry_words v6 (Inherit link from) = codes "i" ∷ link_text v6 link ∷ link_text v6 from ∷ []
entry_words v6 (Add link p new) = codes "+" ∷ link_text v6 link ∷ prefix_text v6 p ∷ value_text v6 new ∷ []
entry_words v6 (Delete link p old) = codes "-" ∷ link_text v6 link ∷ prefix_text v6 p ∷ value_text v6 old ∷ []
entry_words v6 (Replace link p old new) = codes "=" ∷ link_text v6 link ∷ prefix_text v6 p ∷ value_text v6 old ∷ value_text v6 new ∷ []
entry_words v6 (Asked link p row) = codes "?" ∷ link_text v6 link ∷ prefix_text v6 p ∷ answer_text v6 row ∷ []
entry_words v6 (Weld upper lower) = codes "w" ∷ link_text v6 upper ∷ link_text v6 lower ∷ []
entry_words v6 (End link) = codes "e" ∷ link_text v6 link ∷ []

-- a prefix, or `-` for none
abbrev pub match_text : Bool → Option AddressPrefix → List ℕ
match_text v6 None = codes "-"
match_text v6 (Some p) = prefix_text v6 p

-- `yes` where no task holds it up, and `no` with the task's name where one does
abbrev pub held_words : Bool → Option Task → List (List ℕ)
held_words v6 None = codes "yes" ∷ []
held_words v6 (Some task) = codes "no" ∷ task_text v6 task ∷ []

abbrev pub code_text : Code → List ℕ
code_text E1 = codes "E1"
code_text E2 = codes "E2"
code_text E3 = codes "E3"
code_text E4 = codes "E4"
code_text E5 = codes "E5"
code_text E6 = codes "E6"
code_text E7 = codes "E7"
code_text E8 = codes "E8"
code_text E9 = codes "E9"

abbrev pub line_words : Bool → Line → List (List ℕ)
line_words v6 (Journal entry) = entry_words v6 entry
line_words v6 (Out k octets) = codes "out" ∷ decimal k ∷ encode_lower octets ∷ []
line_words v6 (Note k octets) = codes "note" ∷ decimal k ∷ encode_lower octets ∷ []
line_words v6 (Row link p value) = codes "row" ∷ link_text v6 link ∷ prefix_text v6 p ∷ value_text v6 value ∷ []
line_words v6 (Rows link count) = codes "rows" ∷ link_text v6 link ∷ decimal count ∷ []
line_words v6 (Cover addr found subnet) = codes "cover" ∷ addr_text v6 addr ∷ match_text v6 found ∷ prefix_text v6 subnet ∷ []
line_words v6 (Settled p held) = codes "settled" ∷ prefix_text v6 p ∷ held_words v6 held
line_words v6 (Work turns) = codes "work" ∷ decimal turns ∷ []
line_words v6 (Bound turns) = codes "bound" ∷ decimal turns ∷ []
line_words v6 (Idle turns) = codes "idle" ∷ decimal turns ∷ []
line_words v6 Ignored = codes "ignored" ∷ []
line_words v6 Absent = codes "absent" ∷ []
line_words v6 (Refused number code) = codes "refused" ∷ decimal number ∷ code_text code ∷ []

unfoldable pub line_text : Bool → Line → List ℕ
line_text v6 line = words_line (line_words v6 line)

-- whether a line is one of the journal
abbrev pub is_entry : Line → Bool
is_entry (Journal entry) = true
is_entry other = false

-- the text that is printed of a line: of the journal's none where the output is quiet
abbrev pub shown : Bool → Bool → Line → List ℕ
shown v6 quiet line = cond (quiet && is_entry line) [] (line_text v6 line)

abbrev pub text_of : Bool → Bool → List Line → List ℕ
text_of v6 quiet lines = flat_map (shown v6 quiet) lines

-- A line that tells of no link, prefix or address is of no family: it has one text in both networks.
abbrev pub is_of_family : Line → Bool
is_of_family (Journal entry) = true
is_of_family (Row link p value) = true
is_of_family (Rows link count) = true
is_of_family (Cover addr found subnet) = true
is_of_family (Settled p held) = true
is_of_family other = false

-- the journal's entries among the lines
abbrev pub entry_list : Line → List (Entry Value)
entry_list (Journal entry) = entry ∷ []
entry_list other = []

abbrev pub entries_of : List Line → List (Entry Value)
entries_of lines = flat_map entry_list lines
