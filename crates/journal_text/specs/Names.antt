-- Reading the names of links and tasks: words with dots between them, in front of which the second network's have a mark.
use Rattle.std.specs.Prelude.{ℕ, ◌^◌, ◌<◌, ◌==◌, nat_eq, Bool, true, false, if◌then◌else◌, List, [], ◌∷◌, drop, Option, Some, None, option_map, codes}
use Rattle.std.specs.List.{starts_with}
use Rattle.std.specs.Option.{option_and_then}
use Rattle.std.specs.Str.{bytes_eq}
use Rattle.addr4.specs.Texts.{number_of, parts}
use Rattle.rib_route.specs.declared.Proto.{Proto}
use Rattle.rib_route.specs.declared.Proto.TheVariants.{Connected, Static, Ospf, Rip}
use Rattle.journal_text.specs.declared.link.Link.{Link}
use Rattle.journal_text.specs.declared.link.Link.TheVariants.{In, Peer, Filt, Res, Org, Lost, Low, Dyn, Int, Red, Best, ReadRib, Ebgp, Ibgp, Ext, Fib, Read, Outf, Adv}
use Rattle.journal_text.specs.declared.link.Task.{Task}
use Rattle.journal_text.specs.declared.link.Task.TheVariants.{Del, Fin, Nh, ReadRib as RibReads, Out, Rdel, Red as RedWalks, Ext as ExtWalks, Ref}

-- the number, if it is not 0
abbrev pub from_one : ℕ → Option ℕ
from_one n = if n == 0 then None else Some n

-- a number of a name: from 1 and below 2^32, in digits without a leading zero
unfoldable pub name_number : List ℕ → Option ℕ
name_number text = option_and_then from_one (number_of text)

-- what both make, where both are there
abbrev pub with_both : {A B C : Type 0} → (A → B → Option C) → Option A → Option B → Option C
with_both make (Some a) (Some b) = make a b
with_both make (Some a) None = None
with_both make None b = None

-- the protocol of a word
unfoldable pub proto_of : List ℕ → Option Proto
proto_of w =
    if bytes_eq w (codes "connected") then Some Connected
    else if bytes_eq w (codes "static") then Some Static
    else if bytes_eq w (codes "ospf") then Some Ospf
    else if bytes_eq w (codes "rip") then Some Rip
    else None

-- `low`, `dyn`, `int`, `red`, `best`
unfoldable pub inner_link : List ℕ → Option Link
inner_link w =
    if bytes_eq w (codes "low") then Some Low
    else if bytes_eq w (codes "dyn") then Some Dyn
    else if bytes_eq w (codes "int") then Some Int
    else if bytes_eq w (codes "red") then Some Red
    else if bytes_eq w (codes "best") then Some Best
    else None

-- a word alone: one of those, or `ebgp`, `ibgp`, `ext`, `fib`
unfoldable pub plain_link : List ℕ → Option Link
plain_link w =
    if bytes_eq w (codes "ebgp") then Some Ebgp
    else if bytes_eq w (codes "ibgp") then Some Ibgp
    else if bytes_eq w (codes "ext") then Some Ext
    else if bytes_eq w (codes "fib") then Some Fib
    else inner_link w

-- `in`, `filt`, `res` of a peer
unfoldable pub peer_link : List ℕ → ℕ → Option Link
peer_link w k =
    if bytes_eq w (codes "in") then Some (In k)
    else if bytes_eq w (codes "filt") then Some (Filt k)
    else if bytes_eq w (codes "res") then Some (Res k)
    else None

-- two words: `org.PROTO`, `read.rib`, or a word and a peer's number
unfoldable pub link_of_two : List ℕ → List ℕ → Option Link
link_of_two w a =
    if bytes_eq w (codes "org") then option_map (λ proto. Org proto) (proto_of a)
    else if bytes_eq w (codes "read") then (if bytes_eq a (codes "rib") then Some ReadRib else None)
    else option_and_then (peer_link w) (name_number a)

-- `peer`, `read`, `outf`, `adv` of a peer and a session
unfoldable pub session_link : List ℕ → ℕ → ℕ → Option Link
session_link w k s =
    if bytes_eq w (codes "peer") then Some (Peer k s)
    else if bytes_eq w (codes "read") then Some (Read k s)
    else if bytes_eq w (codes "outf") then Some (Outf k s)
    else if bytes_eq w (codes "adv") then Some (Adv k s)
    else None

-- three words: `org.PROTO.N`, or a word, a peer's number and a session's
unfoldable pub link_of_three : List ℕ → List ℕ → List ℕ → Option Link
link_of_three w a b =
    if bytes_eq w (codes "org") then with_both (λ proto n. Some (Lost proto n)) (proto_of a) (name_number b)
    else with_both (session_link w) (name_number a) (name_number b)

unfoldable pub link_from_parts : List (List ℕ) → Option Link
link_from_parts (w ∷ []) = plain_link w
link_from_parts (w ∷ a ∷ []) = link_of_two w a
link_from_parts (w ∷ a ∷ b ∷ []) = link_of_three w a b
link_from_parts other = None

-- the link of a name, and none where it is no link's
abbrev pub link_of : List ℕ → Option Link
link_of text = link_from_parts (parts 46 text)

-- `red`, `ext`
unfoldable pub plain_task : List ℕ → Option Task
plain_task w =
    if bytes_eq w (codes "red") then Some RedWalks
    else if bytes_eq w (codes "ext") then Some ExtWalks
    else None

-- `fin`, `nh`, `out`, `ref` of a peer
unfoldable pub peer_task : List ℕ → ℕ → Option Task
peer_task w k =
    if bytes_eq w (codes "fin") then Some (Fin k)
    else if bytes_eq w (codes "nh") then Some (Nh k)
    else if bytes_eq w (codes "out") then Some (Out k)
    else if bytes_eq w (codes "ref") then Some (Ref k)
    else None

-- two words: `rd.rib`, or a word and a peer's number
unfoldable pub task_of_two : List ℕ → List ℕ → Option Task
task_of_two w a =
    if bytes_eq w (codes "rd") then (if bytes_eq a (codes "rib") then Some RibReads else None)
    else option_and_then (peer_task w) (name_number a)

-- three words: `del`, a peer's number and a session's; or `rdel`, a protocol and the number of its loss
unfoldable pub task_of_three : List ℕ → List ℕ → List ℕ → Option Task
task_of_three w a b =
    if bytes_eq w (codes "del") then with_both (λ k s. Some (Del k s)) (name_number a) (name_number b)
    else if bytes_eq w (codes "rdel") then with_both (λ proto n. Some (Rdel proto n)) (proto_of a) (name_number b)
    else None

unfoldable pub task_from_parts : List (List ℕ) → Option Task
task_from_parts (w ∷ []) = plain_task w
task_from_parts (w ∷ a ∷ []) = task_of_two w a
task_from_parts (w ∷ a ∷ b ∷ []) = task_of_three w a b
task_from_parts other = None

-- the task of a name, and none where it is no task's
abbrev pub task_of : List ℕ → Option Task
task_of text = task_from_parts (parts 46 text)

-- what stands in front of the names of the second network: nothing in front of those of the first
abbrev pub mark : Bool → List ℕ
mark true = codes "6."
mark false = []

abbrev pub is_marked : List ℕ → Bool
is_marked word = starts_with nat_eq word (mark true)

-- the family that is asked for, and what was found
abbrev pub with_family : {A : Type 0} → Bool → Option A → Option (Bool × A)
with_family v6 found = option_map (λ a. (v6, a)) found

-- the link of a name of either network, and whether its network is the second, IPv6's
unfoldable pub link_in : List ℕ → Option (Bool × Link)
link_in word = if is_marked word then with_family true (link_of (drop 2 word)) else with_family false (link_of word)

-- the task, likewise
unfoldable pub task_in : List ℕ → Option (Bool × Task)
task_in word = if is_marked word then with_family true (task_of (drop 2 word)) else with_family false (task_of word)

-- from 1 and below 2^32
abbrev pub IsNameNumber : ℕ → Type 0
IsNameNumber n = (0 < n) × (n < 2 ^ 32)

-- each number in the link's name is from 1 and below 2^32
abbrev pub IsNamed : Link → Type 0
IsNamed (In k) = IsNameNumber k
IsNamed (Peer k s) = IsNameNumber k × IsNameNumber s
IsNamed (Filt k) = IsNameNumber k
IsNamed (Res k) = IsNameNumber k
IsNamed (Lost proto n) = IsNameNumber n
IsNamed (Read j s) = IsNameNumber j × IsNameNumber s
IsNamed (Outf j s) = IsNameNumber j × IsNameNumber s
IsNamed (Adv j s) = IsNameNumber j × IsNameNumber s
IsNamed other = Unit {0}

-- each number in the task's name is from 1 and below 2^32
abbrev pub IsNamedTask : Task → Type 0
IsNamedTask (Del k s) = IsNameNumber k × IsNameNumber s
IsNamedTask (Fin k) = IsNameNumber k
IsNamedTask (Nh k) = IsNameNumber k
IsNamedTask (Out j) = IsNameNumber j
IsNamedTask (Rdel proto n) = IsNameNumber n
IsNamedTask (Ref j) = IsNameNumber j
IsNamedTask other = Unit {0}
