-- Names are read back from their texts.
use Rattle.std.proofs.Common.{◌≡◌, ℕ, ◌^◌, ◌<◌, ◌≤◌, Bool, true, false, cond, List, [], ◌∷◌, ◌++◌, drop, Option, Some, nat_eq, refl, ap, ◌∙◌, arith, codes}
use Rattle.std.proofs.lemmas.Bool.Decides.{nat_tests}
use Rattle.std.specs.List.{onto_first}
use Rattle.std.specs.Option.{option_and_then}
use Rattle.std.specs.Str.Parse.{AllDigits}
use Rattle.std.proofs.lemmas.Str.Parse.{digit_at}
use Rattle.std.specs.Fmt.{decimal}
use Rattle.std.proofs.lemmas.Fmt.{decimal_is_IsNumeral}
use Rattle.std.proofs.lemmas.List.Splits.{slice_split-cons_no}
use Rattle.addr4.specs.Texts.{number_of, parts}
use Rattle.addr4.proofs.NumberBack.{number_back as decimal_back}
use Rattle.rib_route.specs.declared.Proto.{Proto}
use Rattle.rib_route.specs.declared.Proto.TheVariants.{Connected, Static, Ospf, Rip}
use Rattle.journal_text.specs.declared.link.Link.{Link}
use Rattle.journal_text.specs.declared.link.Link.TheVariants.{In, Peer, Filt, Res, Org, Lost, Read, Outf, Adv}
use Rattle.journal_text.specs.declared.link.Task.{Task}
use Rattle.journal_text.specs.declared.link.Task.TheVariants as tasks
use Rattle.journal_text.specs.Texts.{proto_text, link_name, link_text, task_name, task_text}
use Rattle.journal_text.specs.Names.{from_one, name_number, with_both, proto_of, inner_link, plain_link, peer_link, link_of_two, session_link, link_of_three, link_from_parts, link_of, plain_task, peer_task, task_of_two, task_of_three, task_from_parts, task_of, is_marked, with_family, link_in, task_in, IsNameNumber, IsNamed, IsNamedTask}

-- ---- numbers

digit_range : (c : ℕ) (cs : List ℕ) → AllDigits 10 (c ∷ cs) → (48 ≤ c) × (c ≤ 57)
digit_range c cs all = let range = digit_at (c ∷ cs) 0 all (omega arith) in (omega (arith, range), omega (arith, range))

number_back : (n : ℕ) → IsNameNumber n → number_of (decimal n) ≡ Some n
number_back n named = decimal_back (2 ^ 32) n named.1 (omega (arith, named))

from_one_back : (n : ℕ) → 0 < n → from_one n ≡ Some n
from_one_back n some = grind (arith, nat_tests)

name_number_back : (n : ℕ) → IsNameNumber n → name_number (decimal n) ≡ Some n
unfolding name_number
name_number_back n named = ap (option_and_then from_one) (number_back n named) ∙ from_one_back n named.0

-- ---- parts

no_dot : (c : ℕ) → (48 ≤ c) × (c ≤ 57) → nat_eq c 46 ≡ false
no_dot c range = grind (arith, nat_tests)

digits_then : (cs rest : List ℕ) → AllDigits 10 cs → parts 46 (cs ++ 46 ∷ rest) ≡ cs ∷ parts 46 rest
digits_then [] rest all = refl
digits_then (c ∷ cs) rest all = slice_split-cons_no (λ b. nat_eq b 46) c (cs ++ 46 ∷ rest) (no_dot c (digit_range c cs all)) ∙ ap (onto_first c) (digits_then cs rest all.1)

digits_alone : (cs : List ℕ) → AllDigits 10 cs → parts 46 cs ≡ cs ∷ []
digits_alone [] all = refl
digits_alone (c ∷ cs) all = slice_split-cons_no (λ b. nat_eq b 46) c cs (no_dot c (digit_range c cs all)) ∙ ap (onto_first c) (digits_alone cs all.1)

decimal_then : (n : ℕ) (rest : List ℕ) → IsNameNumber n → parts 46 (decimal n ++ 46 ∷ rest) ≡ decimal n ∷ parts 46 rest
decimal_then n rest named = digits_then (decimal n) rest (decimal_is_IsNumeral n (omega (arith, named))).0.1

decimal_alone : (n : ℕ) → IsNameNumber n → parts 46 (decimal n) ≡ decimal n ∷ []
decimal_alone n named = digits_alone (decimal n) (decimal_is_IsNumeral n (omega (arith, named))).0.1

-- ---- names of two and three words

two_numbers : (k s : ℕ) → IsNameNumber k → IsNameNumber s → parts 46 (decimal k ++ 46 ∷ decimal s) ≡ decimal k ∷ decimal s ∷ []
two_numbers k s hk hs = decimal_then k (decimal s) hk ∙ ap (λ t. decimal k ∷ t) (decimal_alone s hs)

one_back : {A : Type 0} (make : ℕ → Option A) (k : ℕ) (x : A) → IsNameNumber k → make k ≡ Some x → option_and_then make (name_number (decimal k)) ≡ Some x
one_back make k x hk is = ap (option_and_then make) (name_number_back k hk) ∙ is

both_back : {A : Type 0} (make : ℕ → ℕ → Option A) (k s : ℕ) (x : A) → IsNameNumber k → IsNameNumber s → make k s ≡ Some x → with_both make (name_number (decimal k)) (name_number (decimal s)) ≡ Some x
both_back make k s x hk hs is = (λ i. with_both make (name_number_back k hk i) (name_number_back s hs i)) ∙ is

lost_back : {A : Type 0} (make : Proto → ℕ → Option A) (proto : Proto) (n : ℕ) (x : A) → IsNameNumber n → proto_of (proto_text proto) ≡ Some proto → make proto n ≡ Some x → with_both make (proto_of (proto_text proto)) (name_number (decimal n)) ≡ Some x
lost_back make proto n x hn of is = (λ i. with_both make (of i) (name_number_back n hn i)) ∙ is

-- ---- links

pub link_back : (link : Link) → IsNamed link → link_of (link_text false link) ≡ Some link
unfolding link_text link_name link_from_parts link_of_two link_of_three plain_link inner_link peer_link session_link proto_of
link_back (In k) h = ap (λ ps. link_from_parts (codes "in" ∷ ps)) (decimal_alone k h) ∙ one_back (peer_link (codes "in")) k (In k) h refl
link_back (Peer k s) h = ap (λ ps. link_from_parts (codes "peer" ∷ ps)) (two_numbers k s h.0 h.1) ∙ both_back (session_link (codes "peer")) k s (Peer k s) h.0 h.1 refl
link_back (Filt k) h = ap (λ ps. link_from_parts (codes "filt" ∷ ps)) (decimal_alone k h) ∙ one_back (peer_link (codes "filt")) k (Filt k) h refl
link_back (Res k) h = ap (λ ps. link_from_parts (codes "res" ∷ ps)) (decimal_alone k h) ∙ one_back (peer_link (codes "res")) k (Res k) h refl
link_back (Org Connected) h = refl
link_back (Org Static) h = refl
link_back (Org Ospf) h = refl
link_back (Org Rip) h = refl
link_back (Lost Connected n) h = ap (λ ps. link_from_parts (codes "org" ∷ codes "connected" ∷ ps)) (decimal_alone n h) ∙ lost_back (λ p m. Some (Lost p m)) Connected n (Lost Connected n) h refl refl
link_back (Lost Static n) h = ap (λ ps. link_from_parts (codes "org" ∷ codes "static" ∷ ps)) (decimal_alone n h) ∙ lost_back (λ p m. Some (Lost p m)) Static n (Lost Static n) h refl refl
link_back (Lost Ospf n) h = ap (λ ps. link_from_parts (codes "org" ∷ codes "ospf" ∷ ps)) (decimal_alone n h) ∙ lost_back (λ p m. Some (Lost p m)) Ospf n (Lost Ospf n) h refl refl
link_back (Lost Rip n) h = ap (λ ps. link_from_parts (codes "org" ∷ codes "rip" ∷ ps)) (decimal_alone n h) ∙ lost_back (λ p m. Some (Lost p m)) Rip n (Lost Rip n) h refl refl
link_back (Read j s) h = ap (λ ps. link_from_parts (codes "read" ∷ ps)) (two_numbers j s h.0 h.1) ∙ both_back (session_link (codes "read")) j s (Read j s) h.0 h.1 refl
link_back (Outf j s) h = ap (λ ps. link_from_parts (codes "outf" ∷ ps)) (two_numbers j s h.0 h.1) ∙ both_back (session_link (codes "outf")) j s (Outf j s) h.0 h.1 refl
link_back (Adv j s) h = ap (λ ps. link_from_parts (codes "adv" ∷ ps)) (two_numbers j s h.0 h.1) ∙ both_back (session_link (codes "adv")) j s (Adv j s) h.0 h.1 refl
link_back other h = refl

-- ---- tasks

pub task_back : (task : Task) → IsNamedTask task → task_of (task_text false task) ≡ Some task
unfolding task_text task_name task_from_parts task_of_two task_of_three plain_task peer_task proto_of
task_back (tasks.Del k s) h = ap (λ ps. task_from_parts (codes "del" ∷ ps)) (two_numbers k s h.0 h.1) ∙ both_back (λ j t. Some (tasks.Del j t)) k s (tasks.Del k s) h.0 h.1 refl
task_back (tasks.Fin k) h = ap (λ ps. task_from_parts (codes "fin" ∷ ps)) (decimal_alone k h) ∙ one_back (peer_task (codes "fin")) k (tasks.Fin k) h refl
task_back (tasks.Nh k) h = ap (λ ps. task_from_parts (codes "nh" ∷ ps)) (decimal_alone k h) ∙ one_back (peer_task (codes "nh")) k (tasks.Nh k) h refl
task_back (tasks.Out j) h = ap (λ ps. task_from_parts (codes "out" ∷ ps)) (decimal_alone j h) ∙ one_back (peer_task (codes "out")) j (tasks.Out j) h refl
task_back (tasks.Rdel Connected n) h = ap (λ ps. task_from_parts (codes "rdel" ∷ codes "connected" ∷ ps)) (decimal_alone n h) ∙ lost_back (λ p m. Some (tasks.Rdel p m)) Connected n (tasks.Rdel Connected n) h refl refl
task_back (tasks.Rdel Static n) h = ap (λ ps. task_from_parts (codes "rdel" ∷ codes "static" ∷ ps)) (decimal_alone n h) ∙ lost_back (λ p m. Some (tasks.Rdel p m)) Static n (tasks.Rdel Static n) h refl refl
task_back (tasks.Rdel Ospf n) h = ap (λ ps. task_from_parts (codes "rdel" ∷ codes "ospf" ∷ ps)) (decimal_alone n h) ∙ lost_back (λ p m. Some (tasks.Rdel p m)) Ospf n (tasks.Rdel Ospf n) h refl refl
task_back (tasks.Rdel Rip n) h = ap (λ ps. task_from_parts (codes "rdel" ∷ codes "rip" ∷ ps)) (decimal_alone n h) ∙ lost_back (λ p m. Some (tasks.Rdel p m)) Rip n (tasks.Rdel Rip n) h refl refl
task_back (tasks.Ref j) h = ap (λ ps. task_from_parts (codes "ref" ∷ ps)) (decimal_alone j h) ∙ one_back (peer_task (codes "ref")) j (tasks.Ref j) h refl
task_back other h = refl

-- ---- names of either network

-- no name within a network begins with the mark of the second one
link_unmarked : (link : Link) → is_marked (link_name link) ≡ false
unfolding link_name
link_unmarked (Org Connected) = refl
link_unmarked (Org Static) = refl
link_unmarked (Org Ospf) = refl
link_unmarked (Org Rip) = refl
link_unmarked (Lost Connected n) = refl
link_unmarked (Lost Static n) = refl
link_unmarked (Lost Ospf n) = refl
link_unmarked (Lost Rip n) = refl
link_unmarked other = refl

task_unmarked : (task : Task) → is_marked (task_name task) ≡ false
unfolding task_name
task_unmarked (tasks.Rdel Connected n) = refl
task_unmarked (tasks.Rdel Static n) = refl
task_unmarked (tasks.Rdel Ospf n) = refl
task_unmarked (tasks.Rdel Rip n) = refl
task_unmarked other = refl

pub link_back_in : (v6 : Bool) (link : Link) → IsNamed link → link_in (link_text v6 link) ≡ Some (v6, link)
unfolding link_in link_text
link_back_in true link h = ap (with_family true) (link_back link h)
link_back_in false link h =
    ap (λ b. cond b (with_family true (link_of (drop 2 (link_name link)))) (with_family false (link_of (link_name link)))) (link_unmarked link) ∙ ap (with_family false) (link_back link h)

pub task_back_in : (v6 : Bool) (task : Task) → IsNamedTask task → task_in (task_text v6 task) ≡ Some (v6, task)
unfolding task_in task_text
task_back_in true task h = ap (with_family true) (task_back task h)
task_back_in false task h =
    ap (λ b. cond b (with_family true (task_of (drop 2 (task_name task)))) (with_family false (task_of (task_name task)))) (task_unmarked task) ∙ ap (with_family false) (task_back task h)
