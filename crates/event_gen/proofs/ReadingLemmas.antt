-- Each line is read as the event that it is.
use Rattle.std.proofs.Common.{◌≡◌, ℕ, ◌^◌, ◌<◌, ◌≤◌, Bool, true, false, cond, nat_eq, List, [], ◌∷◌, ◌++◌, length, Option, Some, None, Ok, refl, ap, ◌∙◌, arith, codes}
use Rattle.std.proofs.lemmas.Bool.Decides.{nat_tests}
use Rattle.std.specs.Fmt.{decimal}
use Rattle.std.specs.Option.{option_and_then}
use Rattle.std.specs.Result.{result_ok}
use Rattle.std.specs.Str.{bytes_eq}
use Rattle.std.specs.List.{join_with_byte}
use Rattle.hex.specs.Hex.{encode_lower}
use Rattle.hex.proofs.HexLemmas.{decode_of-encode_lower}
use Rattle.addr4.specs.Families.{IsIpv4Prefix}
use Rattle.addr4.specs.Prefixes.{AddressPrefix}
use Rattle.addr4.specs.Texts.{number_of, prefix_of, prefix_text}
use Rattle.addr4.proofs.NumberBack.{number_back}
use Rattle.rib_route.specs.declared.Proto.TheVariants.{Static}
use Rattle.rib_route.specs.Rows.{Interior}
use Rattle.policy_rules.specs.declared.rule.Condition.TheVariants.{Any}
use Rattle.policy_rules.specs.declared.rule.Action.TheVariants.{Pref}
use Rattle.policy_rules.specs.declared.rule.Verdict.TheVariants.{Accept}
use Rattle.policy_rules.specs.Words.{◌>>=◌, verdict_of, setting_of}
use Rattle.policy_rules.specs.Grammar.{rules_of, behind}
use Rattle.journal_text.specs.declared.link.Task.{Task}
use Rattle.journal_text.specs.declared.link.Task.TheVariants.{Fin, Nh, ReadRib, Out}
use Rattle.journal_text.specs.Names.{from_one as name_from_one, proto_of, name_number, peer_task, task_from_parts, task_of_two, task_of}
use Rattle.journal_check.specs.Readings.{◌>>=◌ as ◌>>>◌, as_printed, printed_prefix}
use Rattle.journal_check.proofs.InkLemmas.{IsInk, all_append, ink_by, decimal_are, apart_alone}
use Rattle.journal_check.proofs.PrefixBack.{printed_back}
use Rattle.event_text.specs.declared.event.Event.TheVariants as events
use Rattle.event_text.specs.Words.{from_one, octets_of, way_out, interior_of, task_named}
use Rattle.event_text.specs.Events.{one_number, bgp_of, filter_on, filter_of, route_add_of, route_del_of, route_of, interior_event, work_of, plain_event, named_event, event_of, in_grammar, read_event}
use Rattle.event_text.specs.Declarations.{plain}
use Rattle.event_gen.specs.Lines.{host}
use Rattle.event_gen.proofs.OctetLemmas.{AreOctets, bytes}
use Rattle.event_gen.proofs.WordLemmas.{IsPlain, plain_by, plain_decimal, plain_hex, plain_prefix, octet_short, line_read}

-- a number from 1 of a name or an event
abbrev pub IsCount : ℕ → Type 0
IsCount k = (0 < k) × (k < 256)

-- ---- words

number_told : (n : ℕ) → n < 2 ^ 32 → number_of (decimal n) ≡ Some n
number_told n small = number_back (2 ^ 32) n small (omega arith)

from_one_told : (k : ℕ) → IsCount k → from_one (decimal k) ≡ Some k
unfolding from_one
from_one_told k h =
    let other : nat_eq k 0 ≡ false = grind (arith, nat_tests, h) in
    ap (λ o. o >>= λ n. cond (nat_eq n 0) None (Some n)) (number_told k (omega (arith, h))) ∙ ap (λ b. cond b None (Some k)) other

octets_told : (octets : List ℕ) → AreOctets octets → 0 < length octets → octets_of (encode_lower octets) ≡ Some octets
unfolding octets_of
octets_told octets small some =
    let other : nat_eq (length octets) 0 ≡ false = grind (arith, nat_tests) in
    ap (λ r. result_ok r >>= λ os. cond (nat_eq (length os) 0) None (Some os)) (decode_of-encode_lower octets (bytes octets small)) ∙ ap (λ b. cond b None (Some octets)) other

as_it_is : (b : Bool) (q p : AddressPrefix) → cond b (Some q) None ≡ Some p → Some q ≡ Some p
as_it_is true q p e = e
as_it_is false q p e = absurd (cc)

prefix_by : (word : List ℕ) (o : Option AddressPrefix) (p : AddressPrefix) → (o >>> λ q. as_printed false word q) ≡ Some p → o ≡ Some p
unfolding as_printed
prefix_by word None p e = absurd (cc)
prefix_by word (Some q) p e = as_it_is (bytes_eq word (prefix_text false q)) q p e

prefix_told : (p : AddressPrefix) → IsIpv4Prefix p → prefix_of false (prefix_text false p) ≡ Some p
unfolding printed_prefix
prefix_told p h = prefix_by (prefix_text false p) (prefix_of false (prefix_text false p)) p (printed_back false p h)

pub host_is : (k : ℕ) → k < 256 → IsIpv4Prefix (host k)
host_is k small = record { masked = (omega arith, omega arith); fits = omega arith; short = omega arith }

-- ---- events by their words

up_told : (k : ℕ) → IsCount k → event_of plain (codes "up" ∷ decimal k ∷ []) ≡ Some (events.Up k)
unfolding event_of named_event plain_event one_number
up_told k h = ap (λ o. o >>= λ n. Some (events.Up n)) (from_one_told k h)

down_told : (k : ℕ) → IsCount k → event_of plain (codes "down" ∷ decimal k ∷ []) ≡ Some (events.Down k)
unfolding event_of named_event plain_event one_number
down_told k h = ap (λ o. o >>= λ n. Some (events.Down n)) (from_one_told k h)

idle_told : event_of plain (codes "idle" ∷ []) ≡ Some events.Idle
unfolding event_of named_event plain_event
idle_told = refl

bgp_told : (k : ℕ) (octets : List ℕ) → IsCount k → AreOctets octets → 0 < length octets → event_of plain (codes "bgp" ∷ decimal k ∷ encode_lower octets ∷ []) ≡ Some (events.Bgp k octets)
unfolding event_of named_event bgp_of
bgp_told k octets h small some =
    ap (λ o. o >>= λ n. octets_of (encode_lower octets) >>= λ os. Some (events.Bgp n os)) (from_one_told k h)
    ∙ ap (λ o. o >>= λ os. Some (events.Bgp k os)) (octets_told octets small some)

rules_told : (n : ℕ) → n < 2 ^ 32 → rules_of false false (codes "any" ∷ codes "pref" ∷ decimal n ∷ codes "accept" ∷ []) ≡ Some (record { condition = Any; actions = Pref n ∷ []; verdict = Accept } ∷ [])
unfolding rules_of verdict_of setting_of
rules_told n small = ap (λ o. (o >>= λ m. Some (Pref m)) >>= λ a. behind false false Any (a ∷ []) (codes "accept" ∷ [])) (number_told n small)

filter_told : (k n : ℕ) → IsCount k → n < 2 ^ 32 → event_of plain (codes "filter" ∷ codes "in" ∷ decimal k ∷ codes "any" ∷ codes "pref" ∷ decimal n ∷ codes "accept" ∷ []) ≡ Some (events.FilterIn k (record { condition = Any; actions = Pref n ∷ []; verdict = Accept } ∷ []))
unfolding event_of named_event filter_of filter_on
filter_told k n h small =
    ap (λ o. o >>= λ m. rules_of false false (codes "any" ∷ codes "pref" ∷ decimal n ∷ codes "accept" ∷ []) >>= λ rules. Some (events.FilterIn m rules)) (from_one_told k h)
    ∙ ap (λ o. o >>= λ rules. Some (events.FilterIn k rules)) (rules_told n small)

-- the interior route of a host
abbrev pub host_row : ℕ → Interior
host_row n = record { proto = Static; gateway = None; iface = codes "eth1"; metric = n }

interior_told : (n : ℕ) → n < 2 ^ 32 → interior_of false Static (codes "direct" ∷ codes "eth1" ∷ decimal n ∷ []) ≡ Some (host_row n)
unfolding interior_of way_out
interior_told n small = ap (λ o. o >>= λ m. Some (host_row m)) (number_told n small)

add_told : (p : AddressPrefix) (n : ℕ) → IsIpv4Prefix p → n < 2 ^ 32 → event_of plain (codes "route" ∷ codes "add" ∷ codes "static" ∷ prefix_text false p ∷ codes "direct" ∷ codes "eth1" ∷ decimal n ∷ []) ≡ Some (events.RouteAdd p (host_row n))
unfolding event_of named_event plain_event interior_event route_of route_add_of proto_of
add_told p n h small =
    ap (λ o. o >>= λ q. interior_of false Static (codes "direct" ∷ codes "eth1" ∷ decimal n ∷ []) >>= λ row. Some (events.RouteAdd q row)) (prefix_told p h)
    ∙ ap (λ o. o >>= λ row. Some (events.RouteAdd p row)) (interior_told n small)

del_told : (p : AddressPrefix) → IsIpv4Prefix p → event_of plain (codes "route" ∷ codes "del" ∷ codes "static" ∷ prefix_text false p ∷ []) ≡ Some (events.RouteDel Static p)
unfolding event_of named_event plain_event interior_event route_of route_del_of proto_of
del_told p h = ap (λ o. o >>= λ q. Some (events.RouteDel Static q)) (prefix_told p h)

not_dot : (c : ℕ) → 48 ≤ c → c ≤ 57 → nat_eq c 46 ≡ false
not_dot c low high = grind (arith, nat_tests)

name_told : (k : ℕ) → IsCount k → name_number (decimal k) ≡ Some k
unfolding name_number
name_told k h =
    let other : nat_eq k 0 ≡ false = grind (arith, nat_tests, h) in
    ap (option_and_then name_from_one) (number_told k (omega (arith, h))) ∙ ap (λ b. cond b None (Some k)) other

fin_told : (k : ℕ) → IsCount k → task_of (codes "fin." ++ decimal k) ≡ Some (Fin k)
unfolding task_from_parts task_of_two peer_task
fin_told k h =
    ap (λ ps. task_from_parts (codes "fin" ∷ ps)) (apart_alone 46 (decimal k) (decimal_are (λ c. nat_eq c 46 ≡ false) not_dot k (omega (arith, h))))
    ∙ ap (option_and_then (λ j. Some (Fin j))) (name_told k h)

nh_told : (k : ℕ) → IsCount k → task_of (codes "nh." ++ decimal k) ≡ Some (Nh k)
unfolding task_from_parts task_of_two peer_task
nh_told k h =
    ap (λ ps. task_from_parts (codes "nh" ∷ ps)) (apart_alone 46 (decimal k) (decimal_are (λ c. nat_eq c 46 ≡ false) not_dot k (omega (arith, h))))
    ∙ ap (option_and_then (λ j. Some (Nh j))) (name_told k h)

out_told : (k : ℕ) → IsCount k → task_of (codes "out." ++ decimal k) ≡ Some (Out k)
unfolding task_from_parts task_of_two peer_task
out_told k h =
    ap (λ ps. task_from_parts (codes "out" ∷ ps)) (apart_alone 46 (decimal k) (decimal_are (λ c. nat_eq c 46 ≡ false) not_dot k (omega (arith, h))))
    ∙ ap (option_and_then (λ j. Some (Out j))) (name_told k h)

rib_told : task_of (codes "rd.rib") ≡ Some ReadRib
unfolding task_from_parts task_of_two
rib_told = refl

work_told : (word : List ℕ) (task : Task) (n : ℕ) → task_of word ≡ Some task → n < 2 ^ 32 → event_of plain (codes "work" ∷ word ∷ decimal n ∷ []) ≡ Some (events.Work task n)
unfolding event_of named_event plain_event work_of task_named task_from_parts
work_told word task n told small =
    ap (λ o. o >>= λ t. number_of (decimal n) >>= λ m. Some (events.Work t m)) told
    ∙ ap (λ o. o >>= λ m. Some (events.Work task m)) (number_told n small)

-- ---- lines

plain_count : (k : ℕ) → IsCount k → IsPlain (decimal k)
plain_count k h = plain_decimal k (omega (arith, h))

pub up_read : (k : ℕ) → IsCount k → read_event plain (join_with_byte 32 (codes "up" ∷ decimal k ∷ [])) ≡ Ok (events.Up k)
up_read k h = line_read (codes "up") (decimal k ∷ []) (plain_by (codes "up") refl, (plain_count k h, tt)) (omega arith) ∙ ap in_grammar (up_told k h)

pub down_read : (k : ℕ) → IsCount k → read_event plain (join_with_byte 32 (codes "down" ∷ decimal k ∷ [])) ≡ Ok (events.Down k)
down_read k h = line_read (codes "down") (decimal k ∷ []) (plain_by (codes "down") refl, (plain_count k h, tt)) (omega arith) ∙ ap in_grammar (down_told k h)

pub idle_read : read_event plain (join_with_byte 32 (codes "idle" ∷ [])) ≡ Ok events.Idle
idle_read = line_read (codes "idle") [] (plain_by (codes "idle") refl, tt) (omega arith) ∙ ap in_grammar idle_told

pub bgp_read : (k : ℕ) (octets : List ℕ) → IsCount k → AreOctets octets → 0 < length octets → length octets ≤ 100 → read_event plain (join_with_byte 32 (codes "bgp" ∷ decimal k ∷ encode_lower octets ∷ [])) ≡ Ok (events.Bgp k octets)
bgp_read k octets h small some few =
    line_read (codes "bgp") (decimal k ∷ encode_lower octets ∷ []) (plain_by (codes "bgp") refl, (plain_count k h, (plain_hex octets small some few, tt))) (omega arith)
    ∙ ap in_grammar (bgp_told k octets h small some)

pub filter_read : (k n : ℕ) → IsCount k → n < 2 ^ 32 → read_event plain (join_with_byte 32 (codes "filter" ∷ codes "in" ∷ decimal k ∷ codes "any" ∷ codes "pref" ∷ decimal n ∷ codes "accept" ∷ [])) ≡ Ok (events.FilterIn k (record { condition = Any; actions = Pref n ∷ []; verdict = Accept } ∷ []))
filter_read k n h small =
    line_read (codes "filter") (codes "in" ∷ decimal k ∷ codes "any" ∷ codes "pref" ∷ decimal n ∷ codes "accept" ∷ [])
    (plain_by (codes "filter") refl, (plain_by (codes "in") refl, (plain_count k h, (plain_by (codes "any") refl, (plain_by (codes "pref") refl, (plain_decimal n small, (plain_by (codes "accept") refl, tt))))))) (omega arith)
    ∙ ap in_grammar (filter_told k n h small)

pub add_read : (p : AddressPrefix) (n : ℕ) → IsIpv4Prefix p → n < 2 ^ 32 → read_event plain (join_with_byte 32 (codes "route" ∷ codes "add" ∷ codes "static" ∷ prefix_text false p ∷ codes "direct" ∷ codes "eth1" ∷ decimal n ∷ [])) ≡ Ok (events.RouteAdd p (host_row n))
add_read p n h small =
    line_read (codes "route") (codes "add" ∷ codes "static" ∷ prefix_text false p ∷ codes "direct" ∷ codes "eth1" ∷ decimal n ∷ [])
    (plain_by (codes "route") refl, (plain_by (codes "add") refl, (plain_by (codes "static") refl, (plain_prefix p h, (plain_by (codes "direct") refl, (plain_by (codes "eth1") refl, (plain_decimal n small, tt))))))) (omega arith)
    ∙ ap in_grammar (add_told p n h small)

pub del_read : (p : AddressPrefix) → IsIpv4Prefix p → read_event plain (join_with_byte 32 (codes "route" ∷ codes "del" ∷ codes "static" ∷ prefix_text false p ∷ [])) ≡ Ok (events.RouteDel Static p)
del_read p h =
    line_read (codes "route") (codes "del" ∷ codes "static" ∷ prefix_text false p ∷ [])
    (plain_by (codes "route") refl, (plain_by (codes "del") refl, (plain_by (codes "static") refl, (plain_prefix p h, tt)))) (omega arith)
    ∙ ap in_grammar (del_told p h)

plain_fin : (k : ℕ) → IsCount k → IsPlain (codes "fin." ++ decimal k)
plain_fin k h =
    let number = plain_count k h in
    record { ink = all_append IsInk (codes "fin.") (decimal k) (ink_by (codes "fin.") refl) number.ink; some = omega arith; short = omega (arith, octet_short k (omega (arith, h))) }

plain_nh : (k : ℕ) → IsCount k → IsPlain (codes "nh." ++ decimal k)
plain_nh k h =
    let number = plain_count k h in
    record { ink = all_append IsInk (codes "nh.") (decimal k) (ink_by (codes "nh.") refl) number.ink; some = omega arith; short = omega (arith, octet_short k (omega (arith, h))) }

plain_out : (k : ℕ) → IsCount k → IsPlain (codes "out." ++ decimal k)
plain_out k h =
    let number = plain_count k h in
    record { ink = all_append IsInk (codes "out.") (decimal k) (ink_by (codes "out.") refl) number.ink; some = omega arith; short = omega (arith, octet_short k (omega (arith, h))) }

work_read : (word : List ℕ) (task : Task) (n : ℕ) → IsPlain word → task_of word ≡ Some task → n < 2 ^ 32 → read_event plain (join_with_byte 32 (codes "work" ∷ word ∷ decimal n ∷ [])) ≡ Ok (events.Work task n)
work_read word task n shape told small =
    line_read (codes "work") (word ∷ decimal n ∷ []) (plain_by (codes "work") refl, (shape, (plain_decimal n small, tt))) (omega arith)
    ∙ ap in_grammar (work_told word task n told small)

pub fin_read : (k n : ℕ) → IsCount k → n < 2 ^ 32 → read_event plain (join_with_byte 32 (codes "work" ∷ (codes "fin." ++ decimal k) ∷ decimal n ∷ [])) ≡ Ok (events.Work (Fin k) n)
fin_read k n h small = work_read (codes "fin." ++ decimal k) (Fin k) n (plain_fin k h) (fin_told k h) small

pub nh_read : (k n : ℕ) → IsCount k → n < 2 ^ 32 → read_event plain (join_with_byte 32 (codes "work" ∷ (codes "nh." ++ decimal k) ∷ decimal n ∷ [])) ≡ Ok (events.Work (Nh k) n)
nh_read k n h small = work_read (codes "nh." ++ decimal k) (Nh k) n (plain_nh k h) (nh_told k h) small

pub out_read : (k n : ℕ) → IsCount k → n < 2 ^ 32 → read_event plain (join_with_byte 32 (codes "work" ∷ (codes "out." ++ decimal k) ∷ decimal n ∷ [])) ≡ Ok (events.Work (Out k) n)
out_read k n h small = work_read (codes "out." ++ decimal k) (Out k) n (plain_out k h) (out_told k h) small

pub rib_read : (n : ℕ) → n < 2 ^ 32 → read_event plain (join_with_byte 32 (codes "work" ∷ codes "rd.rib" ∷ decimal n ∷ [])) ≡ Ok (events.Work ReadRib n)
rib_read n small = work_read (codes "rd.rib") ReadRib n (plain_by (codes "rd.rib") refl) rib_told small
