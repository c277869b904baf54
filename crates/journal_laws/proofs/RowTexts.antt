-- Interior, external and forwarding rows are told by their texts.
use Rattle.std.proofs.Common.{◌≡◌, ◌⊎◌, ℕ, zero, suc, ◌/◌, ◌%◌, ◌^◌, ◌<◌, ◌≤◌, ◌&&◌, Bool, true, false, cond, nat_eq, nat_le, List, [], ◌∷◌, ◌++◌, length, drop, flat_map, Option, Some, None, refl, sym, ap, ◌∙◌, inl, inr, arith, append-nil, length-append}
use Rattle.std.proofs.lemmas.Bool.Decides.{nat_tests}
use Rattle.std.proofs.lemmas.Fmt.{decimal_injective}
use Rattle.std.proofs.lemmas.List.Splits.{length-slice_split, join_with_byte-slice_split}
use Rattle.std.specs.Char.{digit_char}
use Rattle.std.specs.Fmt.{decimal}
use Rattle.std.specs.List.{AllByRecursion, list_all, join_with_byte, onto_first}
use Rattle.std.specs.Net.Text.{hex, leading_zero_digits}
use Rattle.addr4.specs.Texts.{parts, addr_text, addr_of, id_of, addr6_of, addr6_text, groups_of}
use Rattle.addr4.specs.Families.{IsAddress}
use Rattle.rib_route.specs.declared.Proto.{Proto}
use Rattle.rib_route.specs.declared.Proto.TheVariants as interior
use Rattle.rib_route.specs.declared.protocol.FibProto.{FibProto}
use Rattle.rib_route.specs.declared.protocol.FibProto.TheVariants.{Connected, Static, Ospf, Rip, Ebgp, Ibgp}
use Rattle.rib_route.specs.Rows.{Interior}
use Rattle.rib_route.specs.Rows.{External}
use Rattle.rib_route.specs.Rows.{FibRow}
use Rattle.rib_route.specs.Distances.{fib_proto, external_proto}
use Rattle.rib_route.specs.Ifaces.{is_name_byte, is_iface_name}
use Rattle.journal_text.specs.Texts.{fib_proto_text, proto_text, gateway_text, with_colons, interior_text, external_text, fib_text}
use Rattle.journal_check.proofs.InkLemmas.{apart_then, apart_alone, both_true, decimal_are}
use Rattle.journal_laws.specs.Printed.{IsAddressIfAny}
use Rattle.journal_laws.proofs.NumberTexts.{addr_told_back, addr_same, addr_colonless}

-- ---- words with colons between them

abbrev pub Colonless : List ℕ → Type 0
Colonless text = AllByRecursion (λ c. nat_eq c 58 ≡ false) text

-- of two texts with a colon between them the parts are those of the first and those of the second
onto_some : (c : ℕ) (ws vs : List (List ℕ)) → 0 < length ws → onto_first c (ws ++ vs) ≡ onto_first c ws ++ vs
onto_some c [] vs some = absurd (omega arith)
onto_some c (w ∷ ws) vs some = refl

pub parted : (xs ys : List ℕ) → parts 58 (xs ++ 58 ∷ ys) ≡ parts 58 xs ++ parts 58 ys
parted [] ys = refl
parted (c ∷ xs) ys = by (nat_eq c 58) (parted xs ys)
  where
    by : (b : Bool) → parts 58 (xs ++ 58 ∷ ys) ≡ parts 58 xs ++ parts 58 ys
        → cond b ([] ∷ parts 58 (xs ++ 58 ∷ ys)) (onto_first c (parts 58 (xs ++ 58 ∷ ys))) ≡ cond b ([] ∷ parts 58 xs) (onto_first c (parts 58 xs)) ++ parts 58 ys
    by true later = ap (λ (ws : List (List ℕ)). [] ∷ ws) later
    by false later = ap (onto_first c) later ∙ onto_some c (parts 58 xs) (parts 58 ys) (omega (arith, length-slice_split (λ b. nat_eq b 58) xs))

-- a text is told by its parts
parts_told : (xs ys : List ℕ) → parts 58 xs ≡ parts 58 ys → xs ≡ ys
parts_told xs ys e = sym (join_with_byte-slice_split 58 xs) ∙ (ap (join_with_byte 58) e ∙ join_with_byte-slice_split 58 ys)

-- what stands before as many parts
ends_told : (xs ys us vs : List (List ℕ)) → length us ≡ length vs → xs ++ us ≡ ys ++ vs → (xs ≡ ys) × (us ≡ vs)
ends_told [] [] us vs same e = (refl, e)
ends_told [] (y ∷ ys) us vs same e = absurd (omega (arith, same, ap length e, length-append ys vs))
ends_told (x ∷ xs) [] us vs same e = absurd (omega (arith, same, ap length e, length-append xs us))
ends_told (x ∷ xs) (y ∷ ys) us vs same e =
    let first : x ≡ y = cc in
    let later = ends_told xs ys us vs same (let rest : xs ++ us ≡ ys ++ vs = cc in rest) in
    ((λ i. first i ∷ later.0 i), later.1)

digit_colonless : (c : ℕ) → 48 ≤ c → c ≤ 57 → nat_eq c 58 ≡ false
digit_colonless c low high = grind (arith, nat_tests)

decimal_colonless : (n : ℕ) → n < 2 ^ 64 → Colonless (decimal n)
decimal_colonless n small = decimal_are (λ c. nat_eq c 58 ≡ false) digit_colonless n small

proto_colonless : (p : FibProto) → Colonless (fib_proto_text p)
proto_colonless Connected = (refl, (refl, (refl, (refl, (refl, (refl, (refl, (refl, (refl, tt)))))))))
proto_colonless Static = (refl, (refl, (refl, (refl, (refl, (refl, tt))))))
proto_colonless Ospf = (refl, (refl, (refl, (refl, tt))))
proto_colonless Rip = (refl, (refl, (refl, tt)))
proto_colonless Ebgp = (refl, (refl, (refl, (refl, tt))))
proto_colonless Ibgp = (refl, (refl, (refl, (refl, tt))))

byte_colonless : (b : ℕ) → is_name_byte b ≡ true → nat_eq b 58 ≡ false
byte_colonless b e = grind (arith, nat_tests)

bytes_colonless : (name : List ℕ) → list_all is_name_byte name ≡ true → Colonless name
bytes_colonless [] e = tt
bytes_colonless (b ∷ name) e = let t = both_true (is_name_byte b) (list_all is_name_byte name) e in (byte_colonless b t.0, bytes_colonless name t.1)

name_colonless : (name : List ℕ) → is_iface_name name ≡ true → Colonless name
name_colonless name e = bytes_colonless name (both_true (nat_le 1 (length name) && nat_le (length name) 15) (list_all is_name_byte name) e).1

-- ---- how many parts an address has: one of IPv4, and eight of IPv6

all_dropped : (P : ℕ → Type 0) (n : ℕ) (xs : List ℕ) → AllByRecursion P xs → AllByRecursion P (drop n xs)
all_dropped P zero xs h = h
all_dropped P (suc n) [] h = tt
all_dropped P (suc n) (x ∷ xs) h = all_dropped P n xs h.1

hex_digit_colonless : (d : ℕ) → nat_eq (digit_char d) 58 ≡ false
hex_digit_colonless d = grind (arith, nat_tests)

hex_colonless : (n : ℕ) → Colonless (hex n)
unfolding hex
hex_colonless n =
    let a = n / 0x1000 in
    let b = n / 0x100 % 16 in
    let c = n / 0x10 % 16 in
    let d = n % 16 in
    all_dropped (λ c. nat_eq c 58 ≡ false) (leading_zero_digits n) (digit_char a ∷ digit_char b ∷ digit_char c ∷ digit_char d ∷ []) (hex_digit_colonless a, (hex_digit_colonless b, (hex_digit_colonless c, (hex_digit_colonless d, tt))))

groups_parted : (word : List ℕ) (groups : List ℕ) → Colonless word → length (parts 58 (word ++ flat_map (λ t. 58 ∷ hex t) groups)) ≡ suc (length groups)
groups_parted word [] h = ap (λ t. length (parts 58 t)) (append-nil word) ∙ ap length (apart_alone 58 word h)
groups_parted word (g ∷ groups) h = ap length (apart_then 58 word (hex g ++ flat_map (λ t. 58 ∷ hex t) groups) refl h) ∙ ap suc (groups_parted (hex g) groups (hex_colonless g))

addr6_parted : (a : ℕ) → length (parts 58 (addr6_text a)) ≡ 8
unfolding addr6_text
addr6_parted a = groups_parted (hex (a / 2 ^ 112 % 65536)) (drop 1 (groups_of a)) (hex_colonless (a / 2 ^ 112 % 65536))

abbrev pub IsCount : ℕ → Type 0
IsCount n = (n ≡ 1) ⊎ (n ≡ 8)

pub addr_parted : (v6 : Bool) (a : ℕ) → IsCount (length (parts 58 (addr_text v6 a)))
addr_parted false a = inl (ap length (apart_alone 58 (addr_text false a) (addr_colonless a)))
addr_parted true a = inr (addr6_parted a)

pub gateway_parted : (v6 : Bool) (g : Option ℕ) → IsCount (length (parts 58 (gateway_text v6 g)))
gateway_parted v6 None = inl refl
gateway_parted v6 (Some a) = addr_parted v6 a

-- ---- protocols and gateways

abbrev first_byte : List ℕ → ℕ
first_byte [] = 0
first_byte (c ∷ cs) = c

abbrev proto_by : ℕ → FibProto
proto_by c = cond (nat_eq c 99) Connected (cond (nat_eq c 115) Static (cond (nat_eq c 111) Ospf (cond (nat_eq c 114) Rip (cond (nat_eq c 101) Ebgp Ibgp))))

proto_back : (p : FibProto) → proto_by (first_byte (fib_proto_text p)) ≡ p
proto_back Connected = refl
proto_back other = refl

fib_proto_told : (p q : FibProto) → fib_proto_text p ≡ fib_proto_text q → p ≡ q
fib_proto_told p q e = sym (proto_back p) ∙ (ap (λ t. proto_by (first_byte t)) e ∙ proto_back q)

abbrev interior_by : FibProto → Proto
interior_by Connected = interior.Connected
interior_by Static = interior.Static
interior_by Ospf = interior.Ospf
interior_by other = interior.Rip

interior_back : (p : Proto) → interior_by (fib_proto p) ≡ p
interior_back interior.Connected = refl
interior_back other = refl

proto_told : (p q : Proto) → proto_text p ≡ proto_text q → p ≡ q
proto_told p q e = sym (interior_back p) ∙ (ap interior_by (fib_proto_told (fib_proto p) (fib_proto q) e) ∙ interior_back q)

abbrev is_internal : FibProto → Bool
is_internal Ibgp = true
is_internal other = false

internal_back : (b : Bool) → is_internal (cond b Ibgp Ebgp) ≡ b
internal_back true = refl
internal_back false = refl

-- `direct` is no address
not_direct : (v6 : Bool) → addr_of v6 (gateway_text v6 None) ≡ None
unfolding id_of addr6_of
not_direct false = refl
not_direct true = refl

gateway_back : (v6 : Bool) (g : Option ℕ) → IsAddressIfAny v6 g → addr_of v6 (gateway_text v6 g) ≡ g
gateway_back v6 None h = not_direct v6
gateway_back v6 (Some a) h = addr_told_back v6 a h

gateway_told : (v6 : Bool) (g h : Option ℕ) → IsAddressIfAny v6 g → IsAddressIfAny v6 h → parts 58 (gateway_text v6 g) ≡ parts 58 (gateway_text v6 h) → g ≡ h
gateway_told v6 g h hg hh e = sym (gateway_back v6 g hg) ∙ (ap (addr_of v6) (parts_told (gateway_text v6 g) (gateway_text v6 h) e) ∙ gateway_back v6 h hh)

-- ---- rows

-- behind a word without colons
behind_word : (word rest : List ℕ) → Colonless word → parts 58 (word ++ 58 ∷ rest) ≡ word ∷ parts 58 rest
behind_word word rest h = apart_then 58 word rest refl h

pub interior_parts : (v6 : Bool) (r : Interior) → is_iface_name r.iface ≡ true → r.metric < 2 ^ 32 → parts 58 (interior_text v6 r) ≡ proto_text r.proto ∷ (parts 58 (gateway_text v6 r.gateway) ++ r.iface ∷ decimal r.metric ∷ [])
unfolding interior_text
interior_parts v6 r name small =
    let metric = apart_alone 58 (decimal r.metric) (decimal_colonless r.metric (omega arith)) in
    let ends = behind_word r.iface (decimal r.metric) (name_colonless r.iface name) ∙ ap (λ ws. r.iface ∷ ws) metric in
    behind_word (proto_text r.proto) (with_colons (gateway_text v6 r.gateway ∷ r.iface ∷ decimal r.metric ∷ [])) (proto_colonless (fib_proto r.proto))
    ∙ ap (λ ws. proto_text r.proto ∷ ws) (parted (gateway_text v6 r.gateway) (with_colons (r.iface ∷ decimal r.metric ∷ [])) ∙ ap (λ ws. parts 58 (gateway_text v6 r.gateway) ++ ws) ends)

pub external_parts : (v6 : Bool) (r : External) → parts 58 (external_text v6 r) ≡ fib_proto_text (external_proto r) ∷ parts 58 (addr_text v6 r.next_hop)
unfolding external_text
external_parts v6 r = behind_word (fib_proto_text (external_proto r)) (addr_text v6 r.next_hop) (proto_colonless (external_proto r))

pub fib_parts : (v6 : Bool) (r : FibRow) → is_iface_name r.iface ≡ true → parts 58 (fib_text v6 r) ≡ fib_proto_text r.proto ∷ (parts 58 (gateway_text v6 r.gateway) ++ r.iface ∷ [])
unfolding fib_text
fib_parts v6 r name =
    behind_word (fib_proto_text r.proto) (with_colons (gateway_text v6 r.gateway ∷ r.iface ∷ [])) (proto_colonless r.proto)
    ∙ ap (λ ws. fib_proto_text r.proto ∷ ws) (parted (gateway_text v6 r.gateway) r.iface ∙ ap (λ ws. parts 58 (gateway_text v6 r.gateway) ++ ws) (apart_alone 58 r.iface (name_colonless r.iface name)))

first_told : (a b : List ℕ) (xs ys : List (List ℕ)) → a ∷ xs ≡ b ∷ ys → (a ≡ b) × (xs ≡ ys)
first_told a b xs ys e = (cc, cc)

pub interior_told : (v6 : Bool) (a b : Interior) → is_iface_name a.iface ≡ true → is_iface_name b.iface ≡ true → a.metric < 2 ^ 32 → b.metric < 2 ^ 32 → IsAddressIfAny v6 a.gateway → IsAddressIfAny v6 b.gateway → interior_text v6 a ≡ interior_text v6 b → a ≡ b
interior_told v6 a b na nb ma mb ga gb e =
    let words = first_told (proto_text a.proto) (proto_text b.proto) _ _ (sym (interior_parts v6 a na ma) ∙ (ap (parts 58) e ∙ interior_parts v6 b nb mb)) in
    let behind = ends_told (parts 58 (gateway_text v6 a.gateway)) (parts 58 (gateway_text v6 b.gateway)) (a.iface ∷ decimal a.metric ∷ []) (b.iface ∷ decimal b.metric ∷ []) refl words.1 in
    let ends = first_told a.iface b.iface (decimal a.metric ∷ []) (decimal b.metric ∷ []) behind.1 in
    let last = first_told (decimal a.metric) (decimal b.metric) [] [] ends.1 in
    let proto = proto_told a.proto b.proto words.0 in
    let gateway = gateway_told v6 a.gateway b.gateway ga gb behind.0 in
    let metric = decimal_injective a.metric b.metric (omega arith) (omega arith) last.0 in
    λ i. record { proto = proto i; gateway = gateway i; iface = ends.0 i; metric = metric i }

pub external_told : (v6 : Bool) (a b : External) → IsAddress v6 a.next_hop → IsAddress v6 b.next_hop → external_text v6 a ≡ external_text v6 b → a ≡ b
external_told v6 a b ha hb e =
    let words = first_told (fib_proto_text (external_proto a)) (fib_proto_text (external_proto b)) _ _ (sym (external_parts v6 a) ∙ (ap (parts 58) e ∙ external_parts v6 b)) in
    let protos = fib_proto_told (external_proto a) (external_proto b) words.0 in
    let internal : a.internal ≡ b.internal = sym (internal_back a.internal) ∙ (ap is_internal protos ∙ internal_back b.internal) in
    let next_hop = addr_same v6 a.next_hop b.next_hop ha hb (parts_told (addr_text v6 a.next_hop) (addr_text v6 b.next_hop) words.1) in
    λ i. record { internal = internal i; next_hop = next_hop i }

pub fib_told : (v6 : Bool) (a b : FibRow) → is_iface_name a.iface ≡ true → is_iface_name b.iface ≡ true → IsAddressIfAny v6 a.gateway → IsAddressIfAny v6 b.gateway → fib_text v6 a ≡ fib_text v6 b → a ≡ b
fib_told v6 a b na nb ga gb e =
    let words = first_told (fib_proto_text a.proto) (fib_proto_text b.proto) _ _ (sym (fib_parts v6 a na) ∙ (ap (parts 58) e ∙ fib_parts v6 b nb)) in
    let behind = ends_told (parts 58 (gateway_text v6 a.gateway)) (parts 58 (gateway_text v6 b.gateway)) (a.iface ∷ []) (b.iface ∷ []) refl words.1 in
    let ends = first_told a.iface b.iface [] [] behind.1 in
    let proto = fib_proto_told a.proto b.proto words.0 in
    let gateway = gateway_told v6 a.gateway b.gateway ga gb behind.0 in
    λ i. record { proto = proto i; gateway = gateway i; iface = ends.0 i }
