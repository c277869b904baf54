-- The numbers of names that are read.
use Rattle.std.proofs.Common.{◌≡◌, ℕ, ◌^◌, ◌<◌, Bool, true, false, cond, List, [], ◌∷◌, drop, Option, Some, None, nat_eq, nat_lt, refl, subst, ap, arith, codes}
use Rattle.std.proofs.lemmas.Bool.Decides.{nat_tests}
use Rattle.std.specs.Option.{option_and_then, option_map}
use Rattle.std.specs.Str.{bytes_eq}
use Rattle.std.specs.Str.Parse.{digits_value}
use Rattle.addr4.specs.Texts.{is_numeral, value_below, number_below, number_of, parts}
use Rattle.rib_route.specs.declared.Proto.{Proto}
use Rattle.journal_text.specs.declared.link.Link.{Link}
use Rattle.journal_text.specs.declared.link.Link.TheVariants.{In, Peer, Filt, Res, Org, Lost, Low, Dyn, Int, Red, Best, ReadRib, Ebgp, Ibgp, Ext, Fib, Read, Outf, Adv}
use Rattle.journal_text.specs.Names.{from_one, name_number, with_both, proto_of, inner_link, plain_link, peer_link, link_of_two, session_link, link_of_three, link_from_parts, link_of, with_family, is_marked, link_in, IsNameNumber, IsNamed}

-- ---- numbers

some_of : (b : Bool) (o : Option ℕ) (n : ℕ) → cond b o None ≡ Some n → (b ≡ true) × (o ≡ Some n)
some_of true o n e = (refl, e)
some_of false o n e = absurd (cc)

small_number : (text : List ℕ) (n : ℕ) → number_of text ≡ Some n → n < 2 ^ 32
unfolding number_below
small_number text n e =
    let value = some_of (is_numeral text) (value_below (2 ^ 32) text) n e in
    let small = some_of (nat_lt (digits_value 10 text) (2 ^ 32)) (Some (digits_value 10 text)) n value.1 in
    let same : digits_value 10 text ≡ n = let is : Some (digits_value 10 text) ≡ Some n = small.1 in cc in
    let below : nat_lt (digits_value 10 text) (2 ^ 32) ≡ true = small.0 in
    subst (λ (v : ℕ). v < 2 ^ 32) same (grind (arith, nat_tests))

counted_number : (m n : ℕ) → m < 2 ^ 32 → from_one m ≡ Some n → IsNameNumber n
counted_number m n small e = elim (nat_eq m 0) as (λ b. nat_eq m 0 ≡ b → cond b None (Some m) ≡ Some n → IsNameNumber n) [
  | true ↦ λ is made. absurd (cc)
  | false ↦ λ is made. let same : m ≡ n = cc in (grind (arith, nat_tests), omega arith)
] refl e

pub read_number_named : (text : List ℕ) (n : ℕ) → name_number text ≡ Some n → IsNameNumber n
unfolding name_number
read_number_named text n e = elim (number_of text) as (λ o. number_of text ≡ o → option_and_then from_one o ≡ Some n → IsNameNumber n) [
  | Some m ↦ λ is made. counted_number m n (small_number text m is) made
  | None ↦ λ is made. absurd (cc)
] refl e

-- ---- links

-- the link, if there is one, has numbers that can stand in a name
record Named (o : Option Link) : Type 0 where
  named : (link : Link) → o ≡ Some link → IsNamed link

none_named : Named None
none_named = record { named = λ link e. absurd (cc) }

some_named : (x : Link) → IsNamed x → Named (Some x)
some_named x h = record { named = λ link e. let same : x ≡ link = cc in subst IsNamed same h }

if_named : (b : Bool) {x y : Option Link} → Named x → Named y → Named (cond b x y)
if_named true hx hy = hx
if_named false hx hy = hy

-- a word and its link, and what else there is
word_named : (w word : List ℕ) (x : Link) {rest : Option Link} → IsNamed x → Named rest → Named (cond (bytes_eq w word) (Some x) rest)
word_named w word x h others = if_named (bytes_eq w word) (some_named x h) others

inner_named : (w : List ℕ) → Named (inner_link w)
unfolding inner_link
inner_named w =
    word_named w (codes "low") Low tt (word_named w (codes "dyn") Dyn tt (word_named w (codes "int") Int tt
    (word_named w (codes "red") Red tt (word_named w (codes "best") Best tt none_named))))

plain_named : (w : List ℕ) → Named (plain_link w)
unfolding plain_link
plain_named w =
    word_named w (codes "ebgp") Ebgp tt (word_named w (codes "ibgp") Ibgp tt (word_named w (codes "ext") Ext tt
    (word_named w (codes "fib") Fib tt (inner_named w))))

peer_named : (w : List ℕ) (k : ℕ) → IsNameNumber k → Named (peer_link w k)
unfolding peer_link
peer_named w k h = word_named w (codes "in") (In k) h (word_named w (codes "filt") (Filt k) h (word_named w (codes "res") (Res k) h none_named))

session_named : (w : List ℕ) (k s : ℕ) → IsNameNumber k → IsNameNumber s → Named (session_link w k s)
unfolding session_link
session_named w k s hk hs =
    word_named w (codes "peer") (Peer k s) (hk, hs) (word_named w (codes "read") (Read k s) (hk, hs)
    (word_named w (codes "outf") (Outf k s) (hk, hs) (word_named w (codes "adv") (Adv k s) (hk, hs) none_named)))

org_named : (o : Option Proto) → Named (option_map (λ proto. Org proto) o)
org_named None = none_named
org_named (Some proto) = some_named (Org proto) tt

one_named : (w : List ℕ) (o : Option ℕ) → ((k : ℕ) → o ≡ Some k → IsNameNumber k) → Named (option_and_then (peer_link w) o)
one_named w None h = none_named
one_named w (Some k) h = peer_named w k (h k refl)

lost_named : (oa : Option Proto) (ob : Option ℕ) → ((n : ℕ) → ob ≡ Some n → IsNameNumber n) → Named (with_both (λ proto n. Some (Lost proto n)) oa ob)
lost_named None ob h = none_named
lost_named (Some proto) None h = none_named
lost_named (Some proto) (Some n) h = some_named (Lost proto n) (h n refl)

both_named : (w : List ℕ) (oa ob : Option ℕ) → ((n : ℕ) → oa ≡ Some n → IsNameNumber n) → ((n : ℕ) → ob ≡ Some n → IsNameNumber n) → Named (with_both (session_link w) oa ob)
both_named w None ob ha hb = none_named
both_named w (Some k) None ha hb = none_named
both_named w (Some k) (Some s) ha hb = session_named w k s (ha k refl) (hb s refl)

two_named : (w a : List ℕ) → Named (link_of_two w a)
unfolding link_of_two
two_named w a =
    if_named (bytes_eq w (codes "org")) (org_named (proto_of a))
    (if_named (bytes_eq w (codes "read")) (word_named a (codes "rib") ReadRib tt none_named) (one_named w (name_number a) (read_number_named a)))

three_named : (w a b : List ℕ) → Named (link_of_three w a b)
unfolding link_of_three
three_named w a b =
    if_named (bytes_eq w (codes "org")) (lost_named (proto_of a) (name_number b) (read_number_named b))
    (both_named w (name_number a) (name_number b) (read_number_named a) (read_number_named b))

parts_named : (ps : List (List ℕ)) → Named (link_from_parts ps)
unfolding link_from_parts
parts_named [] = none_named
parts_named (w ∷ []) = plain_named w
parts_named (w ∷ a ∷ []) = two_named w a
parts_named (w ∷ a ∷ b ∷ []) = three_named w a b
parts_named (w ∷ a ∷ b ∷ c ∷ ps) = none_named

pub read_link_named : (text : List ℕ) (link : Link) → link_of text ≡ Some link → IsNamed link
read_link_named text link e = (parts_named (parts 46 text)).named link e

family_named : (v6 u6 : Bool) (o : Option Link) (link : Link) → Named o → with_family v6 o ≡ Some (u6, link) → IsNamed link
family_named v6 u6 None link named e = absurd (cc)
family_named v6 u6 (Some x) link named e =
    let pair : (v6, x) ≡ (u6, link) = cc in
    named.named link (ap (λ (p : Bool × Link). Some p.1) pair)

pub read_link_named_in : (text : List ℕ) (v6 : Bool) (link : Link) → link_in text ≡ Some (v6, link) → IsNamed link
unfolding link_in
read_link_named_in text v6 link e = elim (is_marked text) as (λ b. cond b (with_family true (link_of (drop 2 text))) (with_family false (link_of text)) ≡ Some (v6, link) → IsNamed link) [
  | true ↦ λ is. family_named true v6 (link_of (drop 2 text)) link (parts_named (parts 46 (drop 2 text))) is
  | false ↦ λ is. family_named false v6 (link_of text) link (parts_named (parts 46 text)) is
] e
