-- Values are told by their texts.
use Rattle.std.proofs.Common.{◌≡◌, ℕ, ◌+◌, ◌-◌, ◌^◌, ◌<◌, ◌≤◌, nat_le, Bool, true, false, cond, List, [], ◌∷◌, ◌++◌, length, drop, Option, Some, None, refl, sym, ap, ◌∙◌, inl, inr, arith, append_assoc, append-nil, length-append}
use Rattle.std.proofs.lemmas.Bool.Decides.{nat_tests}
use Rattle.std.specs.Char.{is_ascii_digit}
use Rattle.std.specs.Fmt.{decimal}
use Rattle.addr4.specs.Texts.{parts, addr_text}
use Rattle.bgp_attr.specs.Attributes.{Attrs}
use Rattle.bgp_attr.specs.declared.attrs.Origin.{Origin}
use Rattle.bgp_attr.specs.declared.attrs.Origin.TheVariants.{Igp, Egp, Incomplete}
use Rattle.bgp_attr.specs.declared.speaker.Neighbour.{Neighbour}
use Rattle.bgp_attr.specs.Routes.{Route}
use Rattle.rib_route.specs.declared.protocol.FibProto.{FibProto}
use Rattle.rib_route.specs.declared.protocol.FibProto.TheVariants.{Connected}
use Rattle.rib_route.specs.Distances.{fib_proto, external_proto}
use Rattle.journal_text.specs.Texts.{origin_number, attrs_text, sender_number, field_text, known_text, route_text, fib_proto_text, interior_text, external_text, fib_text, with_colons, gateway_text, proto_text, value_text}
use Rattle.journal_text.specs.Lines.{Value}
use Rattle.journal_text.specs.declared.value.Value.TheVariants as values
use Rattle.journal_check.specs.Laws.{IsNumberIfAny, HasRouteRanges}
use Rattle.journal_laws.specs.Printed.{Printing, IsFromOneOf, IsWellTold, HasAddresses}
use Rattle.journal_laws.specs.Laws.{ValuesAreTold}
use Rattle.journal_laws.proofs.Spans.{begins, clash, rest_same}
use Rattle.journal_laws.proofs.NumberTexts.{number_told, decimal_begins}
use Rattle.journal_laws.proofs.AttrsTexts.{attrs_parted, behind_origin, attrs_told}
use Rattle.journal_laws.proofs.RowTexts.{IsCount, addr_parted, gateway_parted, interior_parts, external_parts, fib_parts, interior_told, external_told, fib_told}

-- ---- routes

field_told : (m n : ℕ) (s t : List ℕ) → m < 2 ^ 32 → n < 2 ^ 32 → field_text m ++ s ≡ field_text n ++ t → (m ≡ n) × (s ≡ t)
field_told m n s t hm hn e =
    let told = number_told m n (58 ∷ s) (58 ∷ t) (omega arith) (omega arith) refl refl (sym (append_assoc (decimal m) (58 ∷ []) s) ∙ (e ∙ append_assoc (decimal n) (58 ∷ []) t)) in
    (told.0, rest_same 58 58 s t told.1)

field_begins : (n : ℕ) (s : List ℕ) → n < 2 ^ 32 → begins is_ascii_digit (field_text n ++ s) ≡ true
field_begins n s small = ap (begins is_ascii_digit) (append_assoc (decimal n) (58 ∷ []) s) ∙ decimal_begins n (58 ∷ s) (omega arith)

known_told : (m n : Option ℕ) (s t : List ℕ) → IsNumberIfAny m → IsNumberIfAny n → known_text m ++ s ≡ known_text n ++ t → (m ≡ n) × (s ≡ t)
known_told None None s t hm hn e = (refl, rest_same 58 58 s t (rest_same 45 45 (58 ∷ s) (58 ∷ t) e))
known_told None (Some n) s t hm hn e = absurd (clash (begins is_ascii_digit (known_text None ++ s)) refl (ap (begins is_ascii_digit) e ∙ field_begins n t hn))
known_told (Some m) None s t hm hn e = absurd (clash (begins is_ascii_digit (known_text None ++ t)) refl (ap (begins is_ascii_digit) (sym e) ∙ field_begins m s hm))
known_told (Some m) (Some n) s t hm hn e = let told = field_told m n s t hm hn e in (ap Some told.0, told.1)

abbrev behind_prepend : Bool → Route → List ℕ
behind_prepend v6 r = known_text r.igp ++ attrs_text v6 r.attrs

abbrev behind_med : Bool → Route → List ℕ
behind_med v6 r = field_text r.prepend ++ behind_prepend v6 r

abbrev behind_pref : Bool → Route → List ℕ
behind_pref v6 r = known_text r.med ++ behind_med v6 r

abbrev behind_sender : Bool → Route → List ℕ
behind_sender v6 r = field_text r.pref ++ behind_pref v6 r

route_parted : (v6 : Bool) (r : Route) → route_text v6 r ≡ field_text (sender_number r.from) ++ behind_sender v6 r
unfolding route_text
route_parted v6 r =
    let n = field_text (sender_number r.from) in
    let p = field_text r.pref in
    let m = known_text r.med in
    let t = field_text r.prepend in
    append_assoc (n ++ p ++ m ++ t) (known_text r.igp) (attrs_text v6 r.attrs)
    ∙ (append_assoc (n ++ p ++ m) t (behind_prepend v6 r)
    ∙ (append_assoc (n ++ p) m (behind_med v6 r)
    ∙ append_assoc n p (behind_pref v6 r)))

route_told : (v6 : Bool) (peers : ℕ → Option Neighbour) (a b : Route) → HasRouteRanges a → HasRouteRanges b → HasAddresses v6 a.attrs → HasAddresses v6 b.attrs → IsFromOneOf peers a → IsFromOneOf peers b → route_text v6 a ≡ route_text v6 b → a ≡ b
route_told v6 peers a b ha hb aa ab fa fb e =
    let number_a = ha.from in
    let number_b = hb.from in
    let times_a = ha.prepend in
    let times_b = hb.prepend in
    let sender = field_told (sender_number a.from) (sender_number b.from) (behind_sender v6 a) (behind_sender v6 b) (omega (arith, number_a)) (omega (arith, number_b)) (sym (route_parted v6 a) ∙ (e ∙ route_parted v6 b)) in
    let pref = field_told a.pref b.pref (behind_pref v6 a) (behind_pref v6 b) ha.pref hb.pref sender.1 in
    let med = known_told a.med b.med (behind_med v6 a) (behind_med v6 b) ha.med hb.med pref.1 in
    let prepend = field_told a.prepend b.prepend (behind_prepend v6 a) (behind_prepend v6 b) (omega (arith, times_a)) (omega (arith, times_b)) med.1 in
    let igp = known_told a.igp b.igp (attrs_text v6 a.attrs) (attrs_text v6 b.attrs) ha.igp hb.igp prepend.1 in
    let attrs = attrs_told v6 a.attrs b.attrs ha.attrs hb.attrs aa ab igp.1 in
    let from : a.from ≡ b.from = fa ∙ (ap peers sender.0 ∙ sym fb) in
    λ i. record { attrs = attrs i; pref = pref.0 i; med = med.0 i; prepend = prepend.0 i; igp = igp.0 i; from = from i }

-- ---- which kind of value a text is of

-- of so many parts with colons between them: seven are more where one is an address of IPv6
abbrev row_kind : ℕ → ℕ
row_kind count = cond (nat_le 9 count) (count - 7) count

-- by its first byte, its second, and the number of its parts
abbrev kind_by : List ℕ → ℕ
kind_by text = cond (begins is_ascii_digit text) 1 (cond (begins is_ascii_digit (drop 1 text)) 0 (row_kind (length (parts 58 text))))

abbrev kind_of : Value → ℕ
kind_of (values.Attrs a) = 0
kind_of (values.Route r) = 1
kind_of (values.External r) = 2
kind_of (values.FibRow r) = 3
kind_of (values.Interior r) = 4

by_tests : (text : List ℕ) (a b : Bool) → begins is_ascii_digit text ≡ a → begins is_ascii_digit (drop 1 text) ≡ b → kind_by text ≡ cond a 1 (cond b 0 (row_kind (length (parts 58 text))))
by_tests text a b first second = λ i. cond (first i) 1 (cond (second i) 0 (row_kind (length (parts 58 text))))

origin_digit : (o : Origin) (s : List ℕ) → begins is_ascii_digit (decimal (origin_number o) ++ s) ≡ true
origin_digit Igp s = decimal_begins 0 s (omega arith)
origin_digit Egp s = decimal_begins 1 s (omega arith)
origin_digit Incomplete s = decimal_begins 2 s (omega arith)

attrs_kind : (v6 : Bool) (a : Attrs) → kind_by (attrs_text v6 a) ≡ 0
attrs_kind v6 a = ap kind_by (attrs_parted v6 a) ∙ by_tests (111 ∷ (decimal (origin_number a.origin) ++ behind_origin v6 a)) false true refl (origin_digit a.origin (behind_origin v6 a))

route_kind : (v6 : Bool) (r : Route) → HasRouteRanges r → kind_by (route_text v6 r) ≡ 1
route_kind v6 r h =
    let number = h.from in
    ap (λ b. cond b 1 (cond (begins is_ascii_digit (drop 1 (route_text v6 r))) 0 (row_kind (length (parts 58 (route_text v6 r))))))
    (ap (begins is_ascii_digit) (route_parted v6 r) ∙ field_begins (sender_number r.from) (behind_sender v6 r) (omega (arith, number)))

-- a protocol and more: neither of its first bytes is a digit
proto_kind : (p : FibProto) (next : List ℕ) (words : List (List ℕ)) → kind_by (with_colons (fib_proto_text p ∷ next ∷ words)) ≡ row_kind (length (parts 58 (with_colons (fib_proto_text p ∷ next ∷ words))))
proto_kind Connected next words = refl
proto_kind other next words = refl

-- a protocol, an address or none, and more
counted : (proto : List ℕ) (address ends : List (List ℕ)) → IsCount (length address) → length ends ≤ 2 → row_kind (length (proto ∷ (address ++ ends))) ≡ 2 + length ends
counted proto address ends count few = elim count [
  | inl one ↦ ap row_kind (all one) ∙ low (length ends) few
  | inr eight ↦ ap row_kind (all eight) ∙ high (length ends)
]
  where
    all : {n : ℕ} → length address ≡ n → length (proto ∷ (address ++ ends)) ≡ 1 + n + length ends
    all is = omega (arith, is, length-append address ends)

    low : (n : ℕ) → n ≤ 2 → row_kind (2 + n) ≡ 2 + n
    low n few = grind (arith, nat_tests)

    high : (n : ℕ) → row_kind (9 + n) ≡ 2 + n
    high n = grind (arith, nat_tests)

kind_told : (printing : Printing) (value : Value) → IsWellTold printing value → kind_by (value_text printing.v6 value) ≡ kind_of value
unfolding interior_text external_text fib_text
kind_told printing (values.Attrs a) h = attrs_kind printing.v6 a
kind_told printing (values.Route r) h = route_kind printing.v6 r h.ranges
kind_told printing (values.Interior r) h =
    let gateway = gateway_text printing.v6 r.gateway in
    let ends = r.iface ∷ decimal r.metric ∷ [] in
    proto_kind (fib_proto r.proto) gateway ends
    ∙ (ap (λ ws. row_kind (length ws)) (interior_parts printing.v6 r h.ranges.0 h.ranges.1)
    ∙ counted (proto_text r.proto) (parts 58 gateway) ends (gateway_parted printing.v6 r.gateway) (omega arith))
kind_told printing (values.External r) h =
    let address = addr_text printing.v6 r.next_hop in
    proto_kind (external_proto r) address []
    ∙ (ap (λ ws. row_kind (length ws)) (external_parts printing.v6 r)
    ∙ (ap (λ (ws : List (List ℕ)). row_kind (length (fib_proto_text (external_proto r) ∷ ws))) (sym (append-nil (parts 58 address)))
    ∙ counted (fib_proto_text (external_proto r)) (parts 58 address) [] (addr_parted printing.v6 r.next_hop) (omega arith)))
kind_told printing (values.FibRow r) h =
    let gateway = gateway_text printing.v6 r.gateway in
    proto_kind r.proto gateway (r.iface ∷ [])
    ∙ (ap (λ ws. row_kind (length ws)) (fib_parts printing.v6 r h.ranges)
    ∙ counted (fib_proto_text r.proto) (parts 58 gateway) (r.iface ∷ []) (gateway_parted printing.v6 r.gateway) (omega arith))

-- ---- all values

by_kinds : (printing : Printing) (a b : Value) → IsWellTold printing a → IsWellTold printing b → kind_of a ≡ kind_of b → value_text printing.v6 a ≡ value_text printing.v6 b → a ≡ b
by_kinds printing (values.Attrs a) (values.Attrs b) ha hb same e = ap (λ x. values.Attrs x) (attrs_told printing.v6 a b ha.ranges hb.ranges ha.told hb.told e)
by_kinds printing (values.Attrs a) other ha hb same e = absurd (omega arith)
by_kinds printing (values.Route a) (values.Route b) ha hb same e = ap (λ x. values.Route x) (route_told printing.v6 printing.peers a b ha.ranges hb.ranges ha.told.0 hb.told.0 ha.told.1 hb.told.1 e)
by_kinds printing (values.Route a) other ha hb same e = absurd (omega arith)
by_kinds printing (values.Interior a) (values.Interior b) ha hb same e = ap (λ x. values.Interior x) (interior_told printing.v6 a b ha.ranges.0 hb.ranges.0 ha.ranges.1 hb.ranges.1 ha.told hb.told e)
by_kinds printing (values.Interior a) other ha hb same e = absurd (omega arith)
by_kinds printing (values.External a) (values.External b) ha hb same e = ap (λ x. values.External x) (external_told printing.v6 a b ha.told hb.told e)
by_kinds printing (values.External a) other ha hb same e = absurd (omega arith)
by_kinds printing (values.FibRow a) (values.FibRow b) ha hb same e = ap (λ x. values.FibRow x) (fib_told printing.v6 a b ha.ranges hb.ranges ha.told hb.told e)
by_kinds printing (values.FibRow a) other ha hb same e = absurd (omega arith)

pub values_told : ValuesAreTold
values_told printing a b ha hb e = by_kinds printing a b ha hb (sym (kind_told printing a ha) ∙ (ap kind_by e ∙ kind_told printing b hb)) e
