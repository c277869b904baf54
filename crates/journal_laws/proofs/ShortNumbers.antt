-- How long the texts of numbers, addresses, prefixes and links are at most.
use Rattle.std.proofs.Common.{◌≡◌, ℕ, ◌+◌, ◌*◌, ◌/◌, ◌%◌, ◌^◌, ◌<◌, ◌≤◌, ◌&&◌, Bool, true, false, nat_le, List, [], ◌∷◌, ◌++◌, length, arith, codes}
use Rattle.std.proofs.lemmas.Bool.Decides.{nat_tests}
use Rattle.std.proofs.lemmas.List.{length-append}
use Rattle.std.proofs.lemmas.Fmt.{length-decimal-le, length-decimal-le_wide}
use Rattle.std.specs.Fmt.{decimal}
use Rattle.std.specs.List.{AllByRecursion, list_all}
use Rattle.addr4.specs.Families.{bits_of, IsPrefixOf}
use Rattle.addr4.specs.Prefixes.{AddressPrefix}
use Rattle.addr4.specs.Texts.{dotted, addr_text, prefix_text, id_text}
use Rattle.addr6.proofs.PrintedLemmas.{addr_short}
use Rattle.rib_route.specs.declared.Proto.{Proto}
use Rattle.rib_route.specs.declared.protocol.FibProto.{FibProto}
use Rattle.rib_route.specs.declared.protocol.FibProto.TheVariants.{Connected}
use Rattle.rib_route.specs.Distances.{fib_proto}
use Rattle.rib_route.specs.Ifaces.{is_name_byte, is_iface_name}
use Rattle.journal_text.specs.Names.{IsNameNumber, IsNamed, IsNamedTask, mark}
use Rattle.journal_text.specs.Texts.{addresses_text, fib_proto_text, proto_text, dot_number, link_text, link_name, task_text, task_name}
use Rattle.journal_text.specs.declared.link.Link.{Link}
use Rattle.journal_text.specs.declared.link.Task.{Task}
use Rattle.journal_text.specs.declared.link.Task.TheVariants as tasks
use Rattle.journal_text.specs.declared.link.Link.TheVariants.{In, Peer, Filt, Res, Org, Lost, Read, Outf, Adv}
use Rattle.journal_check.proofs.InkLemmas.{both_true}

-- ---- numbers

pub short_number : (n : ℕ) → n < 2 ^ 32 → length (decimal n) ≤ 10
short_number n small = length-decimal-le 10 n (omega arith) (omega arith) (omega arith)

pub short_octet : (n : ℕ) → n < 256 → length (decimal n) ≤ 3
short_octet n small = length-decimal-le 3 n (omega arith) (omega arith) (omega arith)

pub short_long : (n : ℕ) → n < 2 ^ 64 → length (decimal n) ≤ 20
short_long n small = length-decimal-le 20 n (omega arith) (omega arith) small

pub short_wide : (n : ℕ) → n < 2 ^ 128 → length (decimal n) ≤ 39
short_wide n small = length-decimal-le_wide 39 n (omega arith) (omega arith) (omega arith)

-- each number of a row of them has a dot at most beside its digits
pub short_dotted : (ns : List ℕ) → AllByRecursion (λ n. n < 2 ^ 32) ns → length (dotted ns) ≤ 11 * length ns
short_dotted [] h = omega arith
short_dotted (n ∷ []) h = let first = short_number n h.0 in omega arith
short_dotted (n ∷ m ∷ ns) h = omega (arith, short_number n h.0, short_dotted (m ∷ ns) h.1, length-append (decimal n) (46 ∷ dotted (m ∷ ns)))

-- ---- addresses

four_dotted : (a b c d : ℕ) → a < 256 → b < 256 → c < 256 → d < 256 → length (dotted (a ∷ b ∷ c ∷ d ∷ [])) ≤ 15
four_dotted a b c d ha hb hc hd =
    omega (
      arith,
      short_octet a ha,
      short_octet b hb,
      short_octet c hc,
      short_octet d hd,
      length-append (decimal a) (46 ∷ dotted (b ∷ c ∷ d ∷ [])),
      length-append (decimal b) (46 ∷ dotted (c ∷ d ∷ [])),
      length-append (decimal c) (46 ∷ dotted (d ∷ [])),
    )

low_octet : (n : ℕ) → n % 256 < 256
low_octet n = omega arith

pub short_id : (a : ℕ) → length (id_text a) ≤ 15
unfolding id_text
short_id a = four_dotted (a / 16777216 % 256) (a / 65536 % 256) (a / 256 % 256) (a % 256) (low_octet (a / 16777216)) (low_octet (a / 65536)) (low_octet (a / 256)) (low_octet a)

pub short_addr : (v6 : Bool) (a : ℕ) → length (addr_text v6 a) ≤ 39
short_addr false a = omega (arith, short_id (a / 2 ^ 96))
short_addr true a = addr_short a

-- each has a semicolon at most beside it
pub short_addresses : (addresses : List ℕ) → length (addresses_text addresses) ≤ 16 * length addresses
short_addresses [] = omega arith
short_addresses (a ∷ []) = omega (arith, short_id a)
short_addresses (a ∷ b ∷ addresses) = omega (arith, short_id a, short_addresses (b ∷ addresses), length-append (id_text a) (59 ∷ addresses_text (b ∷ addresses)))

few_bits : (v6 : Bool) → bits_of v6 ≤ 128
few_bits true = omega arith
few_bits false = omega arith

pub short_prefix : (v6 : Bool) (p : AddressPrefix) → IsPrefixOf v6 p → length (prefix_text v6 p) ≤ 43
unfolding prefix_text
short_prefix v6 p h = omega (arith, short_addr v6 p.address, short_octet p.length (omega (arith, h.short, few_bits v6)), length-append (addr_text v6 p.address) (47 ∷ decimal p.length))

-- ---- links

one_number : (word : List ℕ) (n : ℕ) → length word ≤ 14 → IsNameNumber n → length (word ++ dot_number n) ≤ length word + 11
one_number word n few h = omega (arith, short_number n h.1, length-append word (dot_number n))

two_numbers : (word : List ℕ) (k s : ℕ) → length word ≤ 4 → IsNameNumber k × IsNameNumber s → length (word ++ dot_number k ++ dot_number s) ≤ 26
two_numbers word k s few h = omega (arith, short_number k h.0.1, short_number s h.1.1, length-append word (dot_number k), length-append (word ++ dot_number k) (dot_number s))

pub short_fib_proto : (p : FibProto) → length (fib_proto_text p) ≤ 9
short_fib_proto Connected = omega arith
short_fib_proto other = omega arith

short_org : (p : Proto) → length (codes "org." ++ proto_text p) ≤ 13
short_org p = omega (arith, short_fib_proto (fib_proto p))

short_rdel : (p : Proto) → length (codes "rdel." ++ proto_text p) ≤ 14
short_rdel p = omega (arith, short_fib_proto (fib_proto p))

short_task_name : (task : Task) → IsNamedTask task → length (task_name task) ≤ 26
unfolding task_name
short_task_name (tasks.Del k s) h = two_numbers (codes "del") k s (omega arith) h
short_task_name (tasks.Fin k) h = omega (arith, one_number (codes "fin") k (omega arith) h)
short_task_name (tasks.Nh k) h = omega (arith, one_number (codes "nh") k (omega arith) h)
short_task_name (tasks.Out j) h = omega (arith, one_number (codes "out") j (omega arith) h)
short_task_name (tasks.Ref j) h = omega (arith, one_number (codes "ref") j (omega arith) h)
short_task_name (tasks.Rdel proto n) h = omega (arith, short_rdel proto, one_number (codes "rdel." ++ proto_text proto) n (short_rdel proto) h)
short_task_name other h = omega arith

short_link_name : (link : Link) → IsNamed link → length (link_name link) ≤ 26
unfolding link_name
short_link_name (In k) h = omega (arith, one_number (codes "in") k (omega arith) h)
short_link_name (Peer k s) h = two_numbers (codes "peer") k s (omega arith) h
short_link_name (Filt k) h = omega (arith, one_number (codes "filt") k (omega arith) h)
short_link_name (Res k) h = omega (arith, one_number (codes "res") k (omega arith) h)
short_link_name (Org proto) h = omega (arith, short_org proto)
short_link_name (Lost proto n) h = omega (arith, short_org proto, one_number (codes "org." ++ proto_text proto) n (omega (arith, short_org proto)) h)
short_link_name (Read j s) h = two_numbers (codes "read") j s (omega arith) h
short_link_name (Outf j s) h = two_numbers (codes "outf") j s (omega arith) h
short_link_name (Adv j s) h = two_numbers (codes "adv") j s (omega arith) h
short_link_name other h = omega arith

-- the second network's names have a mark of two bytes
short_mark : (v6 : Bool) → length (mark v6) ≤ 2
short_mark true = omega arith
short_mark false = omega arith

pub short_task : (v6 : Bool) (task : Task) → IsNamedTask task → length (task_text v6 task) ≤ 28
unfolding task_text
short_task v6 task h = omega (arith, short_mark v6, short_task_name task h, length-append (mark v6) (task_name task))

pub short_link : (v6 : Bool) (link : Link) → IsNamed link → length (link_text v6 link) ≤ 28
unfolding link_text
short_link v6 link h = omega (arith, short_mark v6, short_link_name link h, length-append (mark v6) (link_name link))

pub short_name : (name : List ℕ) → is_iface_name name ≡ true → length name ≤ 15
short_name name e =
    let ends = (both_true (nat_le 1 (length name) && nat_le (length name) 15) (list_all is_name_byte name) e).0 in
    let most = (both_true (nat_le 1 (length name)) (nat_le (length name) 15) ends).1 in
    grind (arith, nat_tests)
