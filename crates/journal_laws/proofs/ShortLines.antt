-- Printed lines are short.
use Rattle.std.proofs.Common.{◌≡◌, ℕ, ◌+◌, ◌^◌, ◌<◌, ◌≤◌, Bool, true, List, [], ◌∷◌, ◌++◌, length, Option, Some, None, arith, codes}
use Rattle.std.specs.List.{AllByRecursion, join_with_byte}
use Rattle.std.specs.Fmt.{decimal}
use Rattle.std.proofs.lemmas.List.{length-append}
use Rattle.hex.specs.Hex.{encode_lower, lower_digits}
use Rattle.hex.proofs.HexLemmas.{length-encode_with}
use Rattle.addr4.specs.Families.{IsPrefixOf}
use Rattle.addr4.specs.Prefixes.{AddressPrefix}
use Rattle.addr4.specs.Texts.{addr_text, prefix_text}
use Rattle.bgp_attr.specs.Attributes.{Attrs}
use Rattle.bgp_attr.specs.Routes.{Route}
use Rattle.rib_route.specs.Rows.{Interior}
use Rattle.rib_route.specs.Rows.{External}
use Rattle.rib_route.specs.Rows.{FibRow}
use Rattle.rib_route.specs.Distances.{fib_proto, external_proto}
use Rattle.rib_route.specs.Ifaces.{is_iface_name}
use Rattle.journal_text.specs.Names.{IsNamed}
use Rattle.journal_text.specs.Texts.{attrs_text, sender_number, field_text, known_text, route_text, fib_proto_text, proto_text, gateway_text, interior_text, external_text, fib_text, value_text, answer_text, match_text, code_text, link_text, words_line, entry_words, line_words, line_text, held_words, task_text}
use Rattle.journal_text.specs.declared.link.Link.{Link}
use Rattle.journal_text.specs.declared.link.Task.{Task}
use Rattle.journal_text.specs.Lines.{Value}
use Rattle.journal_text.specs.declared.value.Value.TheVariants as values
use Rattle.journal_text.specs.Lines.{Entry}
use Rattle.journal_text.specs.declared.entry.Entry.TheVariants.{Begin, Inherit, Add, Delete, Replace, Asked, Weld, End}
use Rattle.journal_text.specs.declared.line.Code.{Code}
use Rattle.journal_text.specs.declared.line.Code.TheVariants.{E1}
use Rattle.journal_text.specs.Lines.{Line}
use Rattle.journal_text.specs.declared.line.Line.TheVariants.{Journal, Out, Note, Row, Rows, Cover, Settled, Work, Bound, Idle, Ignored, Absent, Refused}
use Rattle.journal_check.specs.Laws.{IsNumberIfAny, HasRanges, HasRouteRanges, IsValue, IsAnswer, IsMatch, IsNamedIfAny, IsEntry, IsLine}
use Rattle.journal_laws.specs.Printed.{HasRoom, HasShortText, answer_values, values_of, values_in, octets_in}
use Rattle.journal_laws.specs.Laws.{PrintedLinesAreShort}
use Rattle.journal_laws.proofs.ShortNumbers.{short_number, short_long, short_wide, short_addr, short_prefix, short_link, short_fib_proto, short_name, short_task}
use Rattle.journal_laws.proofs.ShortAttrs.{short_attrs}

-- ---- values

attrs_short : (v6 : Bool) (a : Attrs) → HasRanges a → HasRoom v6 a → length (attrs_text v6 a) ≤ 24576
attrs_short v6 a h fits = omega (arith, short_attrs v6 fits.0 a h, fits.1)

short_field : (n : ℕ) → n < 2 ^ 32 → length (field_text n) ≤ 11
short_field n small = omega (arith, short_number n small, length-append (decimal n) (58 ∷ []))

short_known : (n : Option ℕ) → IsNumberIfAny n → length (known_text n) ≤ 11
short_known None h = omega arith
short_known (Some n) h = short_field n h

route_short : (v6 : Bool) (r : Route) → HasRouteRanges r → HasRoom v6 r.attrs → length (route_text v6 r) ≤ 24631
unfolding route_text
route_short v6 r h fits =
    let number = h.from in
    let times = h.prepend in
    let n = field_text (sender_number r.from) in
    let p = field_text r.pref in
    let m = known_text r.med in
    let t = field_text r.prepend in
    omega (
      arith,
      short_field (sender_number r.from) (omega (arith, number)),
      short_field r.pref h.pref,
      short_known r.med h.med,
      short_field r.prepend (omega (arith, times)),
      short_known r.igp h.igp,
      attrs_short v6 r.attrs h.attrs fits,
      length-append n p,
      length-append (n ++ p) m,
      length-append (n ++ p ++ m) t,
      length-append (n ++ p ++ m ++ t) (known_text r.igp),
      length-append (n ++ p ++ m ++ t ++ known_text r.igp) (attrs_text v6 r.attrs),
    )

-- of each word its bytes and one more
abbrev room : List (List ℕ) → ℕ
room [] = 0
room (word ∷ words) = length word + 1 + room words

joined : (separator : ℕ) (words : List (List ℕ)) → length (join_with_byte separator words) ≤ room words
joined separator [] = omega arith
joined separator (word ∷ []) = omega arith
joined separator (word ∷ next ∷ words) = omega (arith, joined separator (next ∷ words), length-append word (separator ∷ join_with_byte separator (next ∷ words)))

short_gateway : (v6 : Bool) (g : Option ℕ) → length (gateway_text v6 g) ≤ 39
short_gateway v6 None = omega arith
short_gateway v6 (Some a) = short_addr v6 a

interior_short : (v6 : Bool) (r : Interior) → is_iface_name r.iface ≡ true → r.metric < 2 ^ 32 → length (interior_text v6 r) ≤ 100
unfolding interior_text
interior_short v6 r name small =
    omega (arith, short_fib_proto (fib_proto r.proto), short_gateway v6 r.gateway, short_name r.iface name, short_number r.metric small, joined 58 (proto_text r.proto ∷ gateway_text v6 r.gateway ∷ r.iface ∷ decimal r.metric ∷ []))

external_short : (v6 : Bool) (r : External) → length (external_text v6 r) ≤ 100
unfolding external_text
external_short v6 r = omega (arith, short_fib_proto (external_proto r), short_addr v6 r.next_hop, joined 58 (fib_proto_text (external_proto r) ∷ addr_text v6 r.next_hop ∷ []))

fib_short : (v6 : Bool) (r : FibRow) → is_iface_name r.iface ≡ true → length (fib_text v6 r) ≤ 100
unfolding fib_text
fib_short v6 r name = omega (arith, short_fib_proto r.proto, short_gateway v6 r.gateway, short_name r.iface name, joined 58 (fib_proto_text r.proto ∷ gateway_text v6 r.gateway ∷ r.iface ∷ []))

value_short : (v6 : Bool) (value : Value) → IsValue value → HasShortText v6 value → length (value_text v6 value) ≤ 24631
value_short v6 (values.Attrs a) h short = omega (arith, attrs_short v6 a h short)
value_short v6 (values.Route r) h short = route_short v6 r h short
value_short v6 (values.Interior r) h short = omega (arith, interior_short v6 r h.0 h.1)
value_short v6 (values.External r) h short = omega (arith, external_short v6 r)
value_short v6 (values.FibRow r) h short = omega (arith, fib_short v6 r h)

answer_short : (v6 : Bool) (row : Option Value) → IsAnswer row → AllByRecursion (HasShortText v6) (answer_values row) → length (answer_text v6 row) ≤ 24631
answer_short v6 None h short = omega arith
answer_short v6 (Some value) h short = value_short v6 value h short.0

-- ---- lines

-- a line of a link, a prefix and a value
row_line : (v6 : Bool) (word : List ℕ) (link : Link) (p : AddressPrefix) (text : List ℕ) → length word ≤ 4 → IsNamed link → IsPrefixOf v6 p → length text ≤ 24631 → length (words_line (word ∷ link_text v6 link ∷ prefix_text v6 p ∷ text ∷ [])) ≤ 65537
row_line v6 word link p text few named prefix short =
    let words = word ∷ link_text v6 link ∷ prefix_text v6 p ∷ text ∷ [] in
    omega (arith, short_link v6 link named, short_prefix v6 p prefix, joined 32 words, length-append (join_with_byte 32 words) (10 ∷ []))

-- a line of two links
links_line : (v6 : Bool) (word : List ℕ) (link other : Link) → length word ≤ 1 → IsNamed link → IsNamed other → length (words_line (word ∷ link_text v6 link ∷ link_text v6 other ∷ [])) ≤ 65537
links_line v6 word link other few named known =
    let words = word ∷ link_text v6 link ∷ link_text v6 other ∷ [] in
    omega (arith, short_link v6 link named, short_link v6 other known, joined 32 words, length-append (join_with_byte 32 words) (10 ∷ []))

-- a line of one link
link_line : (v6 : Bool) (word : List ℕ) (link : Link) → length word ≤ 1 → IsNamed link → length (words_line (word ∷ link_text v6 link ∷ [])) ≤ 65537
link_line v6 word link few named =
    let words = word ∷ link_text v6 link ∷ [] in
    omega (arith, short_link v6 link named, joined 32 words, length-append (join_with_byte 32 words) (10 ∷ []))

-- a line of two short words
pair_line : (word text : List ℕ) → length word ≤ 8 → length text ≤ 39 → length (words_line (word ∷ text ∷ [])) ≤ 65537
pair_line word text few short =
    let words = word ∷ text ∷ [] in
    omega (arith, joined 32 words, length-append (join_with_byte 32 words) (10 ∷ []))

entry_line : (v6 : Bool) (entry : Entry Value) → IsEntry v6 entry → AllByRecursion (HasShortText v6) (values_of entry) → length (words_line (entry_words v6 entry)) ≤ 65537
unfolding entry_words
entry_line v6 (Begin link) h short = link_line v6 (codes "b") link (omega arith) h
entry_line v6 (Inherit link from) h short = links_line v6 (codes "i") link from (omega arith) h.0 h.1
entry_line v6 (Add link p new) h short = row_line v6 (codes "+") link p (value_text v6 new) (omega arith) h.0 h.1 (value_short v6 new h.2 short.0)
entry_line v6 (Delete link p old) h short = row_line v6 (codes "-") link p (value_text v6 old) (omega arith) h.0 h.1 (value_short v6 old h.2 short.0)
entry_line v6 (Replace link p old new) h short =
    let words = codes "=" ∷ link_text v6 link ∷ prefix_text v6 p ∷ value_text v6 old ∷ value_text v6 new ∷ [] in
    omega (
      arith,
      short_link v6 link h.0,
      short_prefix v6 p h.1,
      value_short v6 old h.2 short.0,
      value_short v6 new h.3 short.1.0,
      joined 32 words,
      length-append (join_with_byte 32 words) (10 ∷ []),
    )
entry_line v6 (Asked link p row) h short = row_line v6 (codes "?") link p (answer_text v6 row) (omega arith) h.0 h.1 (answer_short v6 row h.2 short)
entry_line v6 (Weld upper lower) h short = links_line v6 (codes "w") upper lower (omega arith) h.0 h.1
entry_line v6 (End link) h short = link_line v6 (codes "e") link (omega arith) h

short_match : (v6 : Bool) (found : Option AddressPrefix) → IsMatch v6 found → length (match_text v6 found) ≤ 43
short_match v6 None h = omega arith
short_match v6 (Some p) h = short_prefix v6 p h

short_code : (code : Code) → length (code_text code) ≤ 2
short_code E1 = omega arith
short_code other = omega arith

-- the words of whether a prefix is settled
settled_short : (v6 : Bool) (p : AddressPrefix) (held : Option Task) → IsPrefixOf v6 p → IsNamedIfAny held → length (words_line (codes "settled" ∷ prefix_text v6 p ∷ held_words v6 held)) ≤ 65537
settled_short v6 p None prefix named =
    let words = codes "settled" ∷ prefix_text v6 p ∷ codes "yes" ∷ [] in
    omega (arith, short_prefix v6 p prefix, joined 32 words, length-append (join_with_byte 32 words) (10 ∷ []))
settled_short v6 p (Some task) prefix named =
    let words = codes "settled" ∷ prefix_text v6 p ∷ codes "no" ∷ task_text v6 task ∷ [] in
    omega (arith, short_prefix v6 p prefix, short_task v6 task named, joined 32 words, length-append (join_with_byte 32 words) (10 ∷ []))

line_short : (v6 : Bool) (line : Line) → IsLine v6 line → AllByRecursion (HasShortText v6) (values_in line) → length (octets_in line) ≤ 4096 → length (words_line (line_words v6 line)) ≤ 65537
line_short v6 (Journal entry) h short few = entry_line v6 entry h short
line_short v6 (Out k octets) h short few =
    let words = codes "out" ∷ decimal k ∷ encode_lower octets ∷ [] in
    omega (arith, short_number k h.0, length-encode_with lower_digits octets, joined 32 words, length-append (join_with_byte 32 words) (10 ∷ []))
line_short v6 (Note k octets) h short few =
    let words = codes "note" ∷ decimal k ∷ encode_lower octets ∷ [] in
    omega (arith, short_number k h.0, length-encode_with lower_digits octets, joined 32 words, length-append (join_with_byte 32 words) (10 ∷ []))
line_short v6 (Row link p value) h short few = row_line v6 (codes "row") link p (value_text v6 value) (omega arith) h.0 h.1 (value_short v6 value h.2 short.0)
line_short v6 (Rows link count) h short few =
    let words = codes "rows" ∷ link_text v6 link ∷ decimal count ∷ [] in
    omega (arith, short_link v6 link h.0, short_wide count h.1, joined 32 words, length-append (join_with_byte 32 words) (10 ∷ []))
line_short v6 (Cover addr found subnet) h short few =
    let words = codes "cover" ∷ addr_text v6 addr ∷ match_text v6 found ∷ prefix_text v6 subnet ∷ [] in
    omega (arith, short_addr v6 addr, short_match v6 found h.1, short_prefix v6 subnet h.2, joined 32 words, length-append (join_with_byte 32 words) (10 ∷ []))
line_short v6 (Settled p held) h short few = settled_short v6 p held h.0 h.1
line_short v6 (Work turns) h short few = pair_line (codes "work") (decimal turns) (omega arith) (short_wide turns h)
line_short v6 (Bound turns) h short few = pair_line (codes "bound") (decimal turns) (omega arith) (short_wide turns h)
line_short v6 (Idle turns) h short few = pair_line (codes "idle") (decimal turns) (omega arith) (short_wide turns h)
line_short v6 Ignored h short few = omega arith
line_short v6 Absent h short few = omega arith
line_short v6 (Refused number code) h short few =
    let words = codes "refused" ∷ decimal number ∷ code_text code ∷ [] in
    omega (arith, short_long number h, short_code code, joined 32 words, length-append (join_with_byte 32 words) (10 ∷ []))

pub lines_short : PrintedLinesAreShort
unfolding line_text
lines_short v6 line h = line_short v6 line h.ranges h.values h.octets
