-- A printed line is read back.
use Rattle.std.proofs.Common.{◌≡◌, ℕ, ◌^◌, ◌<◌, ◌≤◌, ◌&&◌, Bool, true, false, cond, nat_le, nat_eq, ◌||◌, List, [], ◌∷◌, ◌++◌, length, Option, Some, None, option_map, refl, sym, ap, ◌∙◌, arith, codes}
use Rattle.std.proofs.lemmas.Bool.Decides.{nat_tests}
use Rattle.std.proofs.lemmas.List.{append_cancel_right}
use Rattle.std.specs.List.{AllByRecursion, list_all, join_with_byte, flat_map}
use Rattle.std.specs.Fmt.{decimal}
use Rattle.std.specs.Str.{bytes_eq}
use Rattle.std.specs.Str.Parse.{AllDigits}
use Rattle.std.proofs.lemmas.Fmt.{decimal_is_IsNumeral}
use Rattle.hex.specs.Hex.{encode_lower}
use Rattle.addr4.specs.Families.{IsPrefixOf}
use Rattle.addr4.specs.Prefixes.{AddressPrefix}
use Rattle.addr4.specs.Texts.{parts, prefix_text, addr_text, dotted, id_text}
use Rattle.bgp_attr.specs.declared.path.SegmentKind.{SegmentKind}
use Rattle.bgp_attr.specs.declared.path.SegmentKind.TheVariants.{Set, Sequence}
use Rattle.bgp_attr.specs.declared.path.Segment.{Segment}
use Rattle.bgp_attr.specs.declared.attrs.Origin.{Origin}
use Rattle.bgp_attr.specs.declared.attrs.Origin.TheVariants.{Igp, Egp, Incomplete}
use Rattle.bgp_attr.specs.declared.attrs.Aggregator.{Aggregator}
use Rattle.bgp_attr.specs.declared.unrecognized.Unrecognized.{Unrecognized}
use Rattle.bgp_attr.specs.Attributes.{Attrs}
use Rattle.bgp_attr.specs.Routes.{Route}
use Rattle.bgp_attr.specs.Reflections.{Reflected}
use Rattle.rib_route.specs.declared.Proto.{Proto}
use Rattle.rib_route.specs.declared.protocol.FibProto.{FibProto}
use Rattle.rib_route.specs.declared.protocol.FibProto.TheVariants.{Connected, Static, Ospf, Rip, Ebgp, Ibgp}
use Rattle.rib_route.specs.Rows.{Interior}
use Rattle.rib_route.specs.Rows.{External}
use Rattle.rib_route.specs.Rows.{FibRow}
use Rattle.rib_route.specs.Distances.{fib_proto, external_proto}
use Rattle.rib_route.specs.Ifaces.{is_name_byte, is_iface_name}
use Rattle.journal_text.specs.Names.{IsNameNumber, IsNamed, IsNamedTask, link_in, mark}
use Rattle.journal_text.specs.Texts.{origin_number, bracketed, segment_text, path_text, lettered, aggregator_text, addresses_text, originator_text, clusters_text, reflection_text, unrecognized_text, required_text, optional_text, attrs_text, sender_number, field_text, known_text, route_text, fib_proto_text, proto_text, gateway_text, with_colons, interior_text, external_text, fib_text, value_text, match_text, dot_number, link_name, link_text, task_name, task_text, held_words, words_line, answer_text, entry_words, code_text, line_words, line_text}
use Rattle.journal_text.specs.declared.link.Link.{Link}
use Rattle.journal_text.specs.declared.link.Link.TheVariants.{In, Peer, Filt, Res, Org, Lost, Read as ReadLink, Outf, Adv}
use Rattle.journal_text.specs.declared.link.Task.{Task}
use Rattle.journal_text.specs.declared.link.Task.TheVariants as tasks
use Rattle.journal_text.specs.Lines.{Value}
use Rattle.journal_text.specs.declared.value.Value.TheVariants as values
use Rattle.journal_text.specs.Lines.{Entry}
use Rattle.journal_text.specs.declared.entry.Entry.TheVariants.{Begin, Inherit, Add, Delete, Replace, Asked, Weld, End}
use Rattle.journal_text.specs.declared.line.Code.{Code}
use Rattle.journal_text.specs.declared.line.Code.TheVariants.{E1, E2, E3, E4, E5, E6, E7, E8, E9}
use Rattle.journal_text.specs.Lines.{Line}
use Rattle.journal_text.specs.declared.line.Line.TheVariants.{Journal, Out, Note, Row, Rows, Cover, Settled, Work, Bound, Idle, Ignored, Absent, Refused}
use Rattle.journal_text.proofs.ReadBack.{link_back_in}
use Rattle.journal_check.specs.Entries.{TextEntry, FamilyEntry}
use Rattle.journal_check.specs.declared.reading.Reading.{Reading}
use Rattle.journal_check.specs.declared.reading.Reading.TheVariants.{Skipped, Read, NotALine}
use Rattle.journal_check.specs.Readings.{◌>>=◌, is_clean, printed_prefix, value_of, answer_of, as_of, same_family, entry_on_one, entry_of_two, entry_on_two, entry_of_three, entry_on_row, entry_of_four, entry_of_five, entry_from, is_skipped, read_or_not, reading_from, reading_of}
use Rattle.journal_check.specs.Laws.{IsNumberIfAny, HasNumbers, HasNumber, HasOctets, HasRanges, HasRouteRanges, IsValue, IsAnswer, IsMatch, IsNamedIfAny, IsEntry, IsLine, texts_of, said, PrintedLinesAreReadBack}
use Rattle.journal_check.proofs.InkLemmas.{IsInk, AreInk, digit_range, all_append, all_flat, inky, both_true, ink_by, ink_decimal, ink_wide, ink_dotted, ink_hex, printable, words_parted, line_passes}
use Rattle.journal_check.proofs.PrefixBack.{ink_addr, ink_prefix, printed_back, ink_id}

-- ---- the words have no space

both : (xs ys : List ℕ) → AreInk xs → AreInk ys → AreInk (xs ++ ys)
both xs ys g h = all_append IsInk xs ys g h

ink : (b : ℕ) → (nat_le 33 b && nat_le b 126) ≡ true → (rest : List ℕ) → AreInk rest → AreInk (b ∷ rest)
ink b e rest h = both (b ∷ []) rest (ink_by (b ∷ []) (ap (λ t. t && true) e)) h

dot_ink : (n : ℕ) → IsNameNumber n → AreInk (dot_number n)
dot_ink n h = ink 46 refl (decimal n) (ink_decimal n (omega (arith, h)))

one_number : (word : List ℕ) (n : ℕ) → AreInk word → IsNameNumber n → AreInk (word ++ dot_number n)
one_number word n w h = both word (dot_number n) w (dot_ink n h)

two_numbers : (word : List ℕ) (k s : ℕ) → AreInk word → IsNameNumber k × IsNameNumber s → AreInk (word ++ dot_number k ++ dot_number s)
two_numbers word k s w h = both (word ++ dot_number k) (dot_number s) (one_number word k w h.0) (dot_ink s h.1)

fib_proto_ink : (proto : FibProto) → AreInk (fib_proto_text proto)
fib_proto_ink Connected = ink_by (fib_proto_text Connected) refl
fib_proto_ink Static = ink_by (fib_proto_text Static) refl
fib_proto_ink Ospf = ink_by (fib_proto_text Ospf) refl
fib_proto_ink Rip = ink_by (fib_proto_text Rip) refl
fib_proto_ink Ebgp = ink_by (fib_proto_text Ebgp) refl
fib_proto_ink Ibgp = ink_by (fib_proto_text Ibgp) refl

proto_ink : (word : List ℕ) (proto : Proto) → AreInk word → AreInk (word ++ proto_text proto)
proto_ink word proto w = both word (proto_text proto) w (fib_proto_ink (fib_proto proto))

one_loss : (word : List ℕ) (proto : Proto) (n : ℕ) → AreInk word → IsNameNumber n → AreInk (word ++ proto_text proto ++ dot_number n)
one_loss word proto n w h = one_number (word ++ proto_text proto) n (proto_ink word proto w) h

link_name_ink : (link : Link) → IsNamed link → AreInk (link_name link)
unfolding link_name
link_name_ink (In k) h = one_number (codes "in") k (ink_by (codes "in") refl) h
link_name_ink (Peer k s) h = two_numbers (codes "peer") k s (ink_by (codes "peer") refl) h
link_name_ink (Filt k) h = one_number (codes "filt") k (ink_by (codes "filt") refl) h
link_name_ink (Res k) h = one_number (codes "res") k (ink_by (codes "res") refl) h
link_name_ink (Org proto) h = proto_ink (codes "org.") proto (ink_by (codes "org.") refl)
link_name_ink (Lost proto n) h = one_loss (codes "org.") proto n (ink_by (codes "org.") refl) h
link_name_ink (ReadLink j s) h = two_numbers (codes "read") j s (ink_by (codes "read") refl) h
link_name_ink (Outf j s) h = two_numbers (codes "outf") j s (ink_by (codes "outf") refl) h
link_name_ink (Adv j s) h = two_numbers (codes "adv") j s (ink_by (codes "adv") refl) h
link_name_ink other h = ink_by (link_name other) refl

mark_ink : (v6 : Bool) → AreInk (mark v6)
mark_ink true = ink_by (mark true) refl
mark_ink false = tt

link_ink : (v6 : Bool) (link : Link) → IsNamed link → AreInk (link_text v6 link)
unfolding link_text
link_ink v6 link h = both (mark v6) (link_name link) (mark_ink v6) (link_name_ink link h)

task_name_ink : (task : Task) → IsNamedTask task → AreInk (task_name task)
unfolding task_name
task_name_ink (tasks.Del k s) h = two_numbers (codes "del") k s (ink_by (codes "del") refl) h
task_name_ink (tasks.Fin k) h = one_number (codes "fin") k (ink_by (codes "fin") refl) h
task_name_ink (tasks.Nh k) h = one_number (codes "nh") k (ink_by (codes "nh") refl) h
task_name_ink (tasks.Out j) h = one_number (codes "out") j (ink_by (codes "out") refl) h
task_name_ink (tasks.Rdel proto n) h = one_loss (codes "rdel.") proto n (ink_by (codes "rdel.") refl) h
task_name_ink (tasks.Ref j) h = one_number (codes "ref") j (ink_by (codes "ref") refl) h
task_name_ink other h = ink_by (task_name other) refl

task_ink : (v6 : Bool) (task : Task) → IsNamedTask task → AreInk (task_text v6 task)
unfolding task_text
task_ink v6 task h = both (mark v6) (task_name task) (mark_ink v6) (task_name_ink task h)

bracket_ink : (kind : SegmentKind) (text : List ℕ) → AreInk text → AreInk (bracketed kind text)
bracket_ink Sequence text h = both (40 ∷ text) (41 ∷ []) (ink 40 refl text h) (ink_by (41 ∷ []) refl)
bracket_ink Set text h = both (123 ∷ text) (125 ∷ []) (ink 123 refl text h) (ink_by (125 ∷ []) refl)

segment_ink : (s : Segment) → HasNumbers s → AreInk (segment_text s)
unfolding segment_text
segment_ink s h = bracket_ink s.kind (dotted s.numbers) (ink_dotted s.numbers h)

path_ink : (path : List Segment) → AllByRecursion HasNumbers path → AreInk (path_text path)
unfolding path_text
path_ink path h = all_flat HasNumbers IsInk segment_text segment_ink path h

lettered_ink : (letter : ℕ) (n : Option ℕ) → (nat_le 33 letter && nat_le letter 126) ≡ true → IsNumberIfAny n → AreInk (lettered letter n)
lettered_ink letter None e h = tt
lettered_ink letter (Some n) e h = ink 44 refl (letter ∷ decimal n) (ink letter e (decimal n) (ink_decimal n (omega arith)))

partial_ink : (partial : Bool) → AreInk (cond partial (33 ∷ []) [])
partial_ink true = ink_by (33 ∷ []) refl
partial_ink false = tt

aggregator_ink : (g : Option Aggregator) → HasNumber g → AreInk (aggregator_text g)
unfolding aggregator_text
aggregator_ink None h = tt
aggregator_ink (Some g) h =
    both (44 ∷ 103 ∷ decimal g.asn ++ 47 ∷ id_text g.addr) (cond g.partial (33 ∷ []) [])
    (both (44 ∷ 103 ∷ decimal g.asn) (47 ∷ id_text g.addr) (ink 44 refl (103 ∷ decimal g.asn) (ink 103 refl (decimal g.asn) (ink_decimal g.asn (omega arith)))) (ink 47 refl (id_text g.addr) (ink_id g.addr)))
    (partial_ink g.partial)

originator_ink : (originator : Option ℕ) → AreInk (originator_text originator)
unfolding originator_text
originator_ink None = tt
originator_ink (Some id) = ink 44 refl (114 ∷ id_text id) (ink 114 refl (id_text id) (ink_id id))

addresses_ink : (addresses : List ℕ) → AreInk (addresses_text addresses)
addresses_ink [] = tt
addresses_ink (a ∷ []) = ink_id a
addresses_ink (a ∷ b ∷ addresses) = both (id_text a) (59 ∷ addresses_text (b ∷ addresses)) (ink_id a) (ink 59 refl (addresses_text (b ∷ addresses)) (addresses_ink (b ∷ addresses)))

clusters_ink : (clusters : List ℕ) → AreInk (clusters_text clusters)
unfolding clusters_text
clusters_ink [] = tt
clusters_ink (c ∷ cs) = ink 44 refl (99 ∷ addresses_text (c ∷ cs)) (ink 99 refl (addresses_text (c ∷ cs)) (addresses_ink (c ∷ cs)))

reflection_ink : (r : Reflected) → AreInk (reflection_text r)
reflection_ink r = both (originator_text r.originator) (clusters_text r.clusters) (originator_ink r.originator) (clusters_ink r.clusters)

unrecognized_ink : (u : Unrecognized) → HasOctets u → AreInk (unrecognized_text u)
unfolding unrecognized_text
unrecognized_ink u h =
    let small = h.0 in
    both (44 ∷ 120 ∷ decimal u.kind) (58 ∷ encode_lower u.value) (ink 44 refl (120 ∷ decimal u.kind) (ink 120 refl (decimal u.kind) (ink_decimal u.kind (omega arith)))) (ink 58 refl (encode_lower u.value) (ink_hex u.value h.1))

origin_ink : (origin : Origin) → AreInk (decimal (origin_number origin))
origin_ink Igp = ink_decimal 0 (omega arith)
origin_ink Egp = ink_decimal 1 (omega arith)
origin_ink Incomplete = ink_decimal 2 (omega arith)

required_ink : (v6 : Bool) (a : Attrs) → HasRanges a → AreInk (required_text v6 a)
unfolding required_text
required_ink v6 a h =
    let origin = both (codes "o") (decimal (origin_number a.origin)) (ink_by (codes "o") refl) (origin_ink a.origin) in
    let comma = both (codes "o" ++ decimal (origin_number a.origin)) (codes ",p") origin (ink_by (codes ",p") refl) in
    let path = both (codes "o" ++ decimal (origin_number a.origin) ++ codes ",p") (path_text a.path) comma (path_ink a.path h.path) in
    let next = both (codes "o" ++ decimal (origin_number a.origin) ++ codes ",p" ++ path_text a.path) (codes ",n") path (ink_by (codes ",n") refl) in
    both (codes "o" ++ decimal (origin_number a.origin) ++ codes ",p" ++ path_text a.path ++ codes ",n") (addr_text v6 a.next_hop) next (ink_addr v6 a.next_hop)

atomic_ink : (atomic : Bool) → AreInk (cond atomic (codes ",a") [])
atomic_ink true = ink_by (codes ",a") refl
atomic_ink false = tt

optional_ink : (a : Attrs) → HasRanges a → AreInk (optional_text a)
unfolding optional_text
optional_ink a h =
    both (lettered 109 a.med ++ lettered 108 a.local_pref ++ cond a.atomic (codes ",a") []) (aggregator_text a.aggregator)
    (both (lettered 109 a.med ++ lettered 108 a.local_pref) (cond a.atomic (codes ",a") [])
    (both (lettered 109 a.med) (lettered 108 a.local_pref) (lettered_ink 109 a.med refl h.med) (lettered_ink 108 a.local_pref refl h.local_pref)) (atomic_ink a.atomic))
    (aggregator_ink a.aggregator h.aggregator)

attrs_ink : (v6 : Bool) (a : Attrs) → HasRanges a → AreInk (attrs_text v6 a)
unfolding attrs_text
attrs_ink v6 a h =
    both (required_text v6 a ++ optional_text a ++ reflection_text a.reflection) (flat_map unrecognized_text a.unrecognized)
    (both (required_text v6 a ++ optional_text a) (reflection_text a.reflection)
    (both (required_text v6 a) (optional_text a) (required_ink v6 a h) (optional_ink a h)) (reflection_ink a.reflection)) (all_flat HasOctets IsInk unrecognized_text unrecognized_ink a.unrecognized h.unrecognized)

field_ink : (n : ℕ) → n < 2 ^ 32 → AreInk (field_text n)
field_ink n small = both (decimal n) (58 ∷ []) (ink_decimal n (omega arith)) (ink_by (58 ∷ []) refl)

known_ink : (n : Option ℕ) → IsNumberIfAny n → AreInk (known_text n)
known_ink None h = ink_by (codes "-:") refl
known_ink (Some n) h = field_ink n h

route_ink : (v6 : Bool) (r : Route) → HasRouteRanges r → AreInk (route_text v6 r)
unfolding route_text
route_ink v6 r h =
    let number = h.from in
    let times = h.prepend in
    let sender = field_ink (sender_number r.from) (omega (arith, number)) in
    let pref = both (field_text (sender_number r.from)) (field_text r.pref) sender (field_ink r.pref h.pref) in
    let med = both (field_text (sender_number r.from) ++ field_text r.pref) (known_text r.med) pref (known_ink r.med h.med) in
    let prepend = both (field_text (sender_number r.from) ++ field_text r.pref ++ known_text r.med) (field_text r.prepend) med (field_ink r.prepend (omega (arith, times))) in
    let igp = both (field_text (sender_number r.from) ++ field_text r.pref ++ known_text r.med ++ field_text r.prepend) (known_text r.igp) prepend (known_ink r.igp h.igp) in
    both (field_text (sender_number r.from) ++ field_text r.pref ++ known_text r.med ++ field_text r.prepend ++ known_text r.igp) (attrs_text v6 r.attrs) igp (attrs_ink v6 r.attrs h.attrs)

colons_ink : (word : List ℕ) (words : List (List ℕ)) → AllByRecursion AreInk (word ∷ words) → AreInk (with_colons (word ∷ words))
colons_ink word [] h = h.0
colons_ink word (next ∷ words) h = both word (58 ∷ with_colons (next ∷ words)) h.0 (ink 58 refl (with_colons (next ∷ words)) (colons_ink next words h.1))

name_byte_ink : (b : ℕ) → is_name_byte b ≡ true → IsInk b
name_byte_ink b e = (grind (arith, nat_tests), grind (arith, nat_tests))

name_bytes_ink : (name : List ℕ) → list_all is_name_byte name ≡ true → AreInk name
name_bytes_ink [] e = tt
name_bytes_ink (b ∷ name) e = let t = both_true (is_name_byte b) (list_all is_name_byte name) e in (name_byte_ink b t.0, name_bytes_ink name t.1)

iface_ink : (name : List ℕ) → is_iface_name name ≡ true → AreInk name
iface_ink name e = name_bytes_ink name (both_true (nat_le 1 (length name) && nat_le (length name) 15) (list_all is_name_byte name) e).1

gateway_ink : (v6 : Bool) (gateway : Option ℕ) → AreInk (gateway_text v6 gateway)
gateway_ink v6 None = ink_by (codes "direct") refl
gateway_ink v6 (Some addr) = ink_addr v6 addr

interior_ink : (v6 : Bool) (r : Interior) → is_iface_name r.iface ≡ true → r.metric < 2 ^ 32 → AreInk (interior_text v6 r)
unfolding interior_text
interior_ink v6 r name small =
    colons_ink (proto_text r.proto) (gateway_text v6 r.gateway ∷ r.iface ∷ decimal r.metric ∷ [])
    (fib_proto_ink (fib_proto r.proto), (gateway_ink v6 r.gateway, (iface_ink r.iface name, (ink_decimal r.metric (omega arith), tt))))

external_ink : (v6 : Bool) (r : External) → AreInk (external_text v6 r)
unfolding external_text
external_ink v6 r = colons_ink (fib_proto_text (external_proto r)) (addr_text v6 r.next_hop ∷ []) (fib_proto_ink (external_proto r), (ink_addr v6 r.next_hop, tt))

fib_ink : (v6 : Bool) (r : FibRow) → is_iface_name r.iface ≡ true → AreInk (fib_text v6 r)
unfolding fib_text
fib_ink v6 r name = colons_ink (fib_proto_text r.proto) (gateway_text v6 r.gateway ∷ r.iface ∷ []) (fib_proto_ink r.proto, (gateway_ink v6 r.gateway, (iface_ink r.iface name, tt)))

value_ink : (v6 : Bool) (value : Value) → IsValue value → AreInk (value_text v6 value)
value_ink v6 (values.Attrs a) h = attrs_ink v6 a h
value_ink v6 (values.Route r) h = route_ink v6 r h
value_ink v6 (values.Interior r) h = interior_ink v6 r h.0 h.1
value_ink v6 (values.External r) h = external_ink v6 r
value_ink v6 (values.FibRow r) h = fib_ink v6 r h

answer_ink : (v6 : Bool) (row : Option Value) → IsAnswer row → AreInk (answer_text v6 row)
answer_ink v6 None h = ink_by (codes "-") refl
answer_ink v6 (Some value) h = value_ink v6 value h

-- ---- values are read back

-- a first byte, which isn't `-`, and others
record Begins (text : List ℕ) : Type 0 where
  first : ℕ
  others : List ℕ
  parted : text ≡ first ∷ others
  no_dash : nat_eq first 45 ≡ false

digits_begin : (cs : List ℕ) → 0 < length cs → AllDigits 10 cs → Begins cs
digits_begin [] some all = absurd (omega arith)
digits_begin (c ∷ cs) some all = let low = (digit_range c cs all).0 in record { first = c; others = cs; parted = refl; no_dash = grind (arith, nat_tests) }

decimal_begins : (n : ℕ) → n < 2 ^ 64 → Begins (decimal n)
decimal_begins n small = let numeral = decimal_is_IsNumeral n small in digits_begin (decimal n) numeral.0.0 numeral.0.1

front_begins : (text more : List ℕ) → Begins text → Begins (text ++ more)
front_begins text more b = record { first = b.first; others = b.others ++ more; parted = ap (λ t. t ++ more) b.parted; no_dash = b.no_dash }

attrs_begin : (v6 : Bool) (a : Attrs) → Begins (attrs_text v6 a)
unfolding attrs_text required_text
attrs_begin v6 a = record { first = 111; others = _; parted = refl; no_dash = refl }

route_begins : (v6 : Bool) (r : Route) → HasRouteRanges r → Begins (route_text v6 r)
unfolding route_text
route_begins v6 r h =
    let number = h.from in
    let sender = front_begins (decimal (sender_number r.from)) (58 ∷ []) (decimal_begins (sender_number r.from) (omega (arith, number))) in
    let pref = front_begins (field_text (sender_number r.from)) (field_text r.pref) sender in
    let med = front_begins (field_text (sender_number r.from) ++ field_text r.pref) (known_text r.med) pref in
    let prepend = front_begins (field_text (sender_number r.from) ++ field_text r.pref ++ known_text r.med) (field_text r.prepend) med in
    let igp = front_begins (field_text (sender_number r.from) ++ field_text r.pref ++ known_text r.med ++ field_text r.prepend) (known_text r.igp) prepend in
    front_begins (field_text (sender_number r.from) ++ field_text r.pref ++ known_text r.med ++ field_text r.prepend ++ known_text r.igp) (attrs_text v6 r.attrs) igp

proto_begins : (proto : FibProto) → Begins (fib_proto_text proto)
proto_begins Connected = record { first = 99; others = _; parted = refl; no_dash = refl }
proto_begins Static = record { first = 115; others = _; parted = refl; no_dash = refl }
proto_begins Ospf = record { first = 111; others = _; parted = refl; no_dash = refl }
proto_begins Rip = record { first = 114; others = _; parted = refl; no_dash = refl }
proto_begins Ebgp = record { first = 101; others = _; parted = refl; no_dash = refl }
proto_begins Ibgp = record { first = 105; others = _; parted = refl; no_dash = refl }

-- the protocol, and more behind a colon
row_begins : (proto : FibProto) (next : List ℕ) (words : List (List ℕ)) → Begins (with_colons (fib_proto_text proto ∷ next ∷ words))
row_begins proto next words = front_begins (fib_proto_text proto) (58 ∷ with_colons (next ∷ words)) (proto_begins proto)

interior_begins : (v6 : Bool) (r : Interior) → Begins (interior_text v6 r)
unfolding interior_text
interior_begins v6 r = row_begins (fib_proto r.proto) (gateway_text v6 r.gateway) (r.iface ∷ decimal r.metric ∷ [])

external_begins : (v6 : Bool) (r : External) → Begins (external_text v6 r)
unfolding external_text
external_begins v6 r = row_begins (external_proto r) (addr_text v6 r.next_hop) []

fib_begins : (v6 : Bool) (r : FibRow) → Begins (fib_text v6 r)
unfolding fib_text
fib_begins v6 r = row_begins r.proto (gateway_text v6 r.gateway) (r.iface ∷ [])

value_begins : (v6 : Bool) (value : Value) → IsValue value → Begins (value_text v6 value)
value_begins v6 (values.Attrs a) h = attrs_begin v6 a
value_begins v6 (values.Route r) h = route_begins v6 r h
value_begins v6 (values.Interior r) h = interior_begins v6 r
value_begins v6 (values.External r) h = external_begins v6 r
value_begins v6 (values.FibRow r) h = fib_begins v6 r

not_dash : (first : ℕ) (rest : List ℕ) → nat_eq first 45 ≡ false → bytes_eq (first ∷ rest) (codes "-") ≡ false
not_dash first rest e = ap (λ b. b && bytes_eq rest []) e

value_by : (first : ℕ) (rest : List ℕ) → nat_eq first 45 ≡ false → value_of (first ∷ rest) ≡ Some (first ∷ rest)
unfolding value_of
value_by first rest e =
    let some : nat_eq (length (first ∷ rest)) 0 ≡ false = grind (arith, nat_tests) in
    let dash = not_dash first rest e in
    λ i. cond (some i || dash i) None (Some (first ∷ rest))

value_back : (v6 : Bool) (value : Value) → IsValue value → value_of (value_text v6 value) ≡ Some (value_text v6 value)
value_back v6 value h = let b = value_begins v6 value h in ap value_of b.parted ∙ (value_by b.first b.others b.no_dash ∙ ap Some (sym b.parted))

answer_by : (first : ℕ) (rest : List ℕ) → nat_eq first 45 ≡ false → answer_of (first ∷ rest) ≡ option_map (λ text. Some text) (value_of (first ∷ rest))
unfolding answer_of
answer_by first rest e = ap (λ b. cond b (Some None) (option_map (λ text. Some text) (value_of (first ∷ rest)))) (not_dash first rest e)

answer_back : (v6 : Bool) (row : Option Value) → IsAnswer row → answer_of (answer_text v6 row) ≡ Some (option_map (value_text v6) row)
unfolding answer_of
answer_back v6 None h = refl
answer_back v6 (Some value) h =
    let b = value_begins v6 value h in
    ap answer_of b.parted ∙ (answer_by b.first b.others b.no_dash ∙ (ap (option_map (λ text. Some text)) (value_by b.first b.others b.no_dash) ∙ ap (λ text. Some (Some text)) (sym b.parted)))

-- ---- entries are read back

-- the entry of a family
abbrev of : Bool → TextEntry → FamilyEntry
of v6 e = record { v6 = v6; entry = e }

on_one : (v6 : Bool) (c a : List ℕ) (link : Link) → link_in a ≡ Some (v6, link) → entry_of_two c a ≡ as_of v6 (entry_on_one c link)
unfolding entry_of_two
on_one v6 c a link is = ap (λ (o : Option (Bool × Link)). o >>= λ l. as_of l.0 (entry_on_one c l.1)) is

same_itself : (v6 : Bool) → same_family v6 v6 ≡ true
same_itself true = refl
same_itself false = refl

on_two : (v6 : Bool) (c a b : List ℕ) (link other : Link) → link_in a ≡ Some (v6, link) → link_in b ≡ Some (v6, other) → entry_of_three c a b ≡ as_of v6 (entry_on_two c link other)
unfolding entry_of_three
on_two v6 c a b link other first second =
    ap (λ (o : Option (Bool × Link)). o >>= λ l. link_in b >>= λ m. cond (same_family l.0 m.0) (as_of l.0 (entry_on_two c l.1 m.1)) None) first
    ∙ (ap (λ (o : Option (Bool × Link)). o >>= λ m. cond (same_family v6 m.0) (as_of v6 (entry_on_two c link m.1)) None) second
    ∙ ap (λ same. cond same (as_of v6 (entry_on_two c link other)) None) (same_itself v6))

on_row : (v6 : Bool) (c a b v : List ℕ) (link : Link) (p : AddressPrefix) → link_in a ≡ Some (v6, link) → printed_prefix v6 b ≡ Some p → entry_of_four c a b v ≡ as_of v6 (entry_on_row c link p v)
unfolding entry_of_four
on_row v6 c a b v link p first second =
    ap (λ (o : Option (Bool × Link)). o >>= λ l. printed_prefix l.0 b >>= λ q. as_of l.0 (entry_on_row c l.1 q v)) first
    ∙ ap (λ (o : Option AddressPrefix). o >>= λ q. as_of v6 (entry_on_row c link q v)) second

on_both : (v6 : Bool) (a b v w old new : List ℕ) (link : Link) (p : AddressPrefix) → link_in a ≡ Some (v6, link) → printed_prefix v6 b ≡ Some p → value_of v ≡ Some old → value_of w ≡ Some new
    → entry_of_five (codes "=") a b v w ≡ Some (of v6 (Replace link p old new))
unfolding entry_of_five
on_both v6 a b v w old new link p first second third fourth =
    ap (λ (o : Option (Bool × Link)). o >>= λ l. printed_prefix l.0 b >>= λ q. as_of l.0 (value_of v >>= λ x. value_of w >>= λ y. Some (Replace l.1 q x y))) first
    ∙ (ap (λ (o : Option AddressPrefix). o >>= λ q. as_of v6 (value_of v >>= λ x. value_of w >>= λ y. Some (Replace link q x y))) second
    ∙ (ap (λ (o : Option (List ℕ)). as_of v6 (o >>= λ x. value_of w >>= λ y. Some (Replace link p x y))) third
    ∙ ap (λ (o : Option (List ℕ)). as_of v6 (o >>= λ y. Some (Replace link p old y))) fourth))

entry_back : (v6 : Bool) (entry : Entry Value) → IsEntry v6 entry → entry_from (entry_words v6 entry) ≡ Some (of v6 (texts_of v6 entry))
unfolding entry_words entry_from entry_on_one entry_on_two entry_on_row
entry_back v6 (Begin link) h = on_one v6 (codes "b") (link_text v6 link) link (link_back_in v6 link h)
entry_back v6 (Inherit link from) h = on_two v6 (codes "i") (link_text v6 link) (link_text v6 from) link from (link_back_in v6 link h.0) (link_back_in v6 from h.1)
entry_back v6 (Add link p new) h =
    on_row v6 (codes "+") (link_text v6 link) (prefix_text v6 p) (value_text v6 new) link p (link_back_in v6 link h.0) (printed_back v6 p h.1)
    ∙ ap (λ (o : Option (List ℕ)). as_of v6 (option_map (λ v. Add link p v) o)) (value_back v6 new h.2)
entry_back v6 (Delete link p old) h =
    on_row v6 (codes "-") (link_text v6 link) (prefix_text v6 p) (value_text v6 old) link p (link_back_in v6 link h.0) (printed_back v6 p h.1)
    ∙ ap (λ (o : Option (List ℕ)). as_of v6 (option_map (λ v. Delete link p v) o)) (value_back v6 old h.2)
entry_back v6 (Replace link p old new) h =
    on_both v6 (link_text v6 link) (prefix_text v6 p) (value_text v6 old) (value_text v6 new) (value_text v6 old) (value_text v6 new) link p (link_back_in v6 link h.0) (printed_back v6 p h.1) (value_back v6 old h.2) (value_back v6 new h.3)
entry_back v6 (Asked link p row) h =
    on_row v6 (codes "?") (link_text v6 link) (prefix_text v6 p) (answer_text v6 row) link p (link_back_in v6 link h.0) (printed_back v6 p h.1)
    ∙ ap (λ (o : Option (Option (List ℕ))). as_of v6 (option_map (λ r. Asked link p r) o)) (answer_back v6 row h.2)
entry_back v6 (Weld upper lower) h = on_two v6 (codes "w") (link_text v6 upper) (link_text v6 lower) upper lower (link_back_in v6 upper h.0) (link_back_in v6 lower h.1)
entry_back v6 (End link) h = on_one v6 (codes "e") (link_text v6 link) link (link_back_in v6 link h)

-- ---- lines

-- a first word, and others
record HasWords (words : List (List ℕ)) (reading : Reading) : Type 0 where
  first : List ℕ
  others : List (List ℕ)
  parted : words ≡ first ∷ others
  inked : AllByRecursion AreInk (first ∷ others)
  reads : reading_from (first ∷ others) ≡ reading

clean_by : (text : List ℕ) → length text ≤ 65536 → list_all printable text ≡ true → is_clean text ≡ true
unfolding is_clean
clean_by text short passes = let few : nat_le (length text) 65536 ≡ true = grind (arith, nat_tests) in (λ i. few i && passes i)

read_by : (text : List ℕ) → is_clean text ≡ true → reading_of text ≡ reading_from (parts 32 text)
unfolding reading_of
read_by text clean = ap (λ b. cond b (reading_from (parts 32 text)) NotALine) clean

words_read : (text : List ℕ) (words : List (List ℕ)) (reading : Reading) → HasWords words reading → words_line words ≡ text ++ 10 ∷ [] → length text ≤ 65536 → reading_of text ≡ reading
words_read text words reading h is short =
    let same : text ≡ join_with_byte 32 (h.first ∷ h.others) = sym (append_cancel_right (join_with_byte 32 words) text (10 ∷ []) is) ∙ ap (join_with_byte 32) h.parted in
    let passes : list_all printable text ≡ true = ap (list_all printable) same ∙ line_passes h.first h.others h.inked in
    read_by text (clean_by text short passes) ∙ (ap (λ t. reading_from (parts 32 t)) same ∙ (ap reading_from (words_parted h.first h.others h.inked) ∙ h.reads))

-- the words of an entry
has_entry : (first : List ℕ) (others : List (List ℕ)) (entry : FamilyEntry) → list_all inky first ≡ true → is_skipped first ≡ false → AllByRecursion AreInk others → entry_from (first ∷ others) ≡ Some entry → HasWords (first ∷ others) (Read entry)
has_entry first others entry word not_skipped inked is = record {
  first = first;
  others = others;
  parted = refl;
  inked = (ink_by first word, inked);
  reads = ap (λ b. cond b Skipped (read_or_not (entry_from (first ∷ others)))) not_skipped ∙ ap read_or_not is;
}

-- the words of a line that is skipped
has_skipped : (first : List ℕ) (others : List (List ℕ)) → list_all inky first ≡ true → is_skipped first ≡ true → AllByRecursion AreInk others → HasWords (first ∷ others) Skipped
has_skipped first others word skipped inked = record {
  first = first;
  others = others;
  parted = refl;
  inked = (ink_by first word, inked);
  reads = ap (λ b. cond b Skipped (read_or_not (entry_from (first ∷ others)))) skipped;
}

row_ink : (v6 : Bool) (link : Link) (p : AddressPrefix) (value : Value) → IsNamed link × IsPrefixOf v6 p × IsValue value → AllByRecursion AreInk (link_text v6 link ∷ prefix_text v6 p ∷ value_text v6 value ∷ [])
row_ink v6 link p value h = (link_ink v6 link h.0, (ink_prefix v6 p h.1, (value_ink v6 value h.2, tt)))

links_ink : (v6 : Bool) (link other : Link) → IsNamed link × IsNamed other → AllByRecursion AreInk (link_text v6 link ∷ link_text v6 other ∷ [])
links_ink v6 link other h = (link_ink v6 link h.0, (link_ink v6 other h.1, tt))

entry_has : (v6 : Bool) (entry : Entry Value) → IsEntry v6 entry → HasWords (entry_words v6 entry) (Read (of v6 (texts_of v6 entry)))
unfolding entry_words is_skipped
entry_has v6 (Begin link) h = has_entry (codes "b") (link_text v6 link ∷ []) (of v6 (Begin link)) refl refl (link_ink v6 link h, tt) (entry_back v6 (Begin link) h)
entry_has v6 (Inherit link from) h = has_entry (codes "i") (link_text v6 link ∷ link_text v6 from ∷ []) (of v6 (Inherit link from)) refl refl (links_ink v6 link from h) (entry_back v6 (Inherit link from) h)
entry_has v6 (Add link p new) h = has_entry (codes "+") (link_text v6 link ∷ prefix_text v6 p ∷ value_text v6 new ∷ []) (of v6 (Add link p (value_text v6 new))) refl refl (row_ink v6 link p new h) (entry_back v6 (Add link p new) h)
entry_has v6 (Delete link p old) h = has_entry (codes "-") (link_text v6 link ∷ prefix_text v6 p ∷ value_text v6 old ∷ []) (of v6 (Delete link p (value_text v6 old))) refl refl (row_ink v6 link p old h) (entry_back v6 (Delete link p old) h)
entry_has v6 (Replace link p old new) h =
    has_entry (codes "=") (link_text v6 link ∷ prefix_text v6 p ∷ value_text v6 old ∷ value_text v6 new ∷ []) (of v6 (Replace link p (value_text v6 old) (value_text v6 new))) refl refl
    (link_ink v6 link h.0, (ink_prefix v6 p h.1, (value_ink v6 old h.2, (value_ink v6 new h.3, tt)))) (entry_back v6 (Replace link p old new) h)
entry_has v6 (Asked link p row) h =
    has_entry (codes "?") (link_text v6 link ∷ prefix_text v6 p ∷ answer_text v6 row ∷ []) (of v6 (Asked link p (option_map (value_text v6) row))) refl refl
    (link_ink v6 link h.0, (ink_prefix v6 p h.1, (answer_ink v6 row h.2, tt))) (entry_back v6 (Asked link p row) h)
entry_has v6 (Weld upper lower) h = has_entry (codes "w") (link_text v6 upper ∷ link_text v6 lower ∷ []) (of v6 (Weld upper lower)) refl refl (links_ink v6 upper lower h) (entry_back v6 (Weld upper lower) h)
entry_has v6 (End link) h = has_entry (codes "e") (link_text v6 link ∷ []) (of v6 (End link)) refl refl (link_ink v6 link h, tt) (entry_back v6 (End link) h)

match_ink : (v6 : Bool) (found : Option AddressPrefix) → IsMatch v6 found → AreInk (match_text v6 found)
match_ink v6 None h = ink_by (codes "-") refl
match_ink v6 (Some p) h = ink_prefix v6 p h

held_ink : (v6 : Bool) (held : Option Task) → IsNamedIfAny held → AllByRecursion AreInk (held_words v6 held)
held_ink v6 None h = (ink_by (codes "yes") refl, tt)
held_ink v6 (Some task) h = (ink_by (codes "no") refl, (task_ink v6 task h, tt))

code_ink : (code : Code) → AreInk (code_text code)
code_ink E1 = ink_by (code_text E1) refl
code_ink E2 = ink_by (code_text E2) refl
code_ink E3 = ink_by (code_text E3) refl
code_ink E4 = ink_by (code_text E4) refl
code_ink E5 = ink_by (code_text E5) refl
code_ink E6 = ink_by (code_text E6) refl
code_ink E7 = ink_by (code_text E7) refl
code_ink E8 = ink_by (code_text E8) refl
code_ink E9 = ink_by (code_text E9) refl

line_has : (v6 : Bool) (line : Line) → IsLine v6 line → HasWords (line_words v6 line) (said v6 line)
unfolding is_skipped
line_has v6 (Journal entry) h = entry_has v6 entry h
line_has v6 (Out k octets) h = let small = h.0 in has_skipped (codes "out") (decimal k ∷ encode_lower octets ∷ []) refl refl (ink_decimal k (omega arith), (ink_hex octets h.1, tt))
line_has v6 (Note k octets) h = let small = h.0 in has_skipped (codes "note") (decimal k ∷ encode_lower octets ∷ []) refl refl (ink_decimal k (omega arith), (ink_hex octets h.1, tt))
line_has v6 (Row link p value) h = has_skipped (codes "row") (link_text v6 link ∷ prefix_text v6 p ∷ value_text v6 value ∷ []) refl refl (row_ink v6 link p value h)
line_has v6 (Rows link count) h = has_skipped (codes "rows") (link_text v6 link ∷ decimal count ∷ []) refl refl (link_ink v6 link h.0, (ink_wide count h.1, tt))
line_has v6 (Cover addr found subnet) h = has_skipped (codes "cover") (addr_text v6 addr ∷ match_text v6 found ∷ prefix_text v6 subnet ∷ []) refl refl (ink_addr v6 addr, (match_ink v6 found h.1, (ink_prefix v6 subnet h.2, tt)))
line_has v6 (Settled p held) h = has_skipped (codes "settled") (prefix_text v6 p ∷ held_words v6 held) refl refl (ink_prefix v6 p h.0, held_ink v6 held h.1)
line_has v6 (Work turns) h = has_skipped (codes "work") (decimal turns ∷ []) refl refl (ink_wide turns h, tt)
line_has v6 (Bound turns) h = has_skipped (codes "bound") (decimal turns ∷ []) refl refl (ink_wide turns h, tt)
line_has v6 (Idle turns) h = has_skipped (codes "idle") (decimal turns ∷ []) refl refl (ink_wide turns h, tt)
line_has v6 Ignored h = has_skipped (codes "ignored") [] refl refl tt
line_has v6 Absent h = has_skipped (codes "absent") [] refl refl tt
line_has v6 (Refused number code) h = has_skipped (codes "refused") (decimal number ∷ code_text code ∷ []) refl refl (ink_decimal number h, (code_ink code, tt))

pub lines_back : PrintedLinesAreReadBack
unfolding line_text
lines_back v6 line text h is short = words_read text (line_words v6 line) (said v6 line) (line_has v6 line h) is short
