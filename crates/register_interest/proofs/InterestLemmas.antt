-- Interests as a finite map, their order, and those that a change reaches.
use Rattle.std.proofs.Common.{◌≡◌, ◌⊎◌, ◌≤◌, ◌<◌, ◌+◌, ◌-◌, ◌%◌, ◌^◌, ◌&&◌, ℕ, Bool, true, false, not, cond, List, [], ◌∷◌, ◌++◌, refl, sym, ap, ◌∙◌, subst, inl, inr, Option, Some, None, length, arith, zero, suc}
use Rattle.std.proofs.lemmas.Bool.{cases_lt, cases_eq}
use Rattle.std.proofs.lemmas.Bool.Decides.{nat_tests}
use Rattle.std.specs.List.{Contains}
use Rattle.std.specs.List.Sorted.{IsStrictlySortedBy}
use Rattle.std.specs.Ordering.{nat_cmp, ordering_then, ordering_reverse, is_gt, is_le, is_lt}
use Rattle.std.specs.declared.cmp.Ordering.{Ordering}
use Rattle.std.specs.declared.cmp.Ordering.TheVariants.{Less, Equal, Greater}
use Rattle.std.specs.declared.ops.Bound.TheVariants.{Included}
use Rattle.std.specs.Cmp.{IsTotalOrder, nat_cmp_total}
use Rattle.std.specs.FinMap.{IsAntisymmetric, get, remove, from_entries, get-remove}
use Rattle.std.specs.BTreeMap.{BTreeMap, is_at, IsOrdered}
use Rattle.std.specs.BTreeMap.Range.{range_contains, entries_between, IsLeBy}
use Rattle.std.specs.Map.{lookup, keys_of}
use Rattle.std.proofs.lemmas.Cmp.{on_total, then_total}
use Rattle.std.proofs.lemmas.List.{append_assoc, append-nil}
use Rattle.std.proofs.lemmas.List.Kept.{IsStrictlySortedBy-filter}
use Rattle.std.proofs.lemmas.Map.Views.{btree_map_get_iff}
use Rattle.std.proofs.lemmas.Map.Lookups.{exact_pairs, exact_unsigned}
use Rattle.std.proofs.lemmas.List.Elements.{Contains-append_left, Contains-append_right, Contains-append_cases, Contains-push, Contains-push_cases}
use Rattle.addr4.specs.Prefixes.{AddressPrefix, prefix_cmp, ComesBefore, IsMasked, Covers, Holds, behind, block}
use Rattle.addr4.specs.Blocks.{size_of_length}
use Rattle.addr4.proofs.BlockLemmas.{size_pos, size_falls, covers_length, covers_holds}
use Rattle.addr4.proofs.HalfLemmas.{same_from_covers}
use Rattle.addr4.proofs.PrefixOrder.{prefixes_total, exact_prefixes}
use Rattle.link_change.proofs.MapLemmas.{map_read, read_in, removed_at, removed_apart, by_key}
use Rattle.register_interest.specs.Covers.{IsHit}
use Rattle.register_interest.specs.Interests.{Interest}
use Rattle.register_interest.specs.Interests.{Interests, interest_cmp, IsProper, AreProper, AreShortIn, Pushes, IsBetween, Appends, AreReached, without}
use Rattle.register_interest.proofs.CoverLemmas.{block_masked, block_holds, block_is, nested}
use Rattle.register_interest.proofs.OrderLemmas.{before_address, before_length, before_by_address, before_by_length, cases_before, not_itself, inside, between}
use Rattle.register_interest.proofs.ListLemmas.{sorted_append, sorted_front, contains_filter, filter_contains, keys_pushed, has_key, keys_filter}

pub interests_total : IsTotalOrder interest_cmp
interests_total = then_total (on_total (λ (p : Interest). p.subnet) prefixes_total) (on_total (λ (p : Interest). p.client) nat_cmp_total)

pub exact_interests : IsAntisymmetric interest_cmp
exact_interests p q h = ap (λ (k : AddressPrefix × ℕ). record { subnet = k.0; client = k.1 }) (exact_pairs prefix_cmp nat_cmp exact_prefixes exact_unsigned (p.subnet, p.client) (q.subnet, q.client) h)

abbrev pub Kept : Type 0
Kept = Interest × Option AddressPrefix

-- ---- the part of a map that a change reaches

-- appended were those of the entries seen that a change at p reaches
pub record IsHitsOf (width : ℕ) (p : AddressPrefix) (seen : List Kept) (before out : List Interest) : Type 0 where
  pub hits : List Interest
  pub is : out ≡ before ++ hits
  pub only : (k : Interest) → Contains hits k → (m : Option AddressPrefix) × Contains seen (k, m) × IsHit width p k.subnet m
  pub all : (k : Interest) (m : Option AddressPrefix) → Contains seen (k, m) → IsHit width p k.subnet m → Contains hits k
  pub sorted : IsStrictlySortedBy interest_cmp (keys_of seen) → IsStrictlySortedBy interest_cmp hits

pub no_hits : (w : ℕ) (p : AddressPrefix) (before : List Interest) → IsHitsOf w p [] before before
unfolding IsStrictlySortedBy
no_hits w p before = record { hits = []; is = sym (append-nil before); only = λ k h. absurd (omega (arith, h.1)); all = λ k m h _. absurd (omega (arith, h.1)); sorted = λ s. s }

last_sorted : (seen : List Kept) (e : Kept) (hits : List Interest) → ((k : Interest) → Contains hits k → (m : Option AddressPrefix) × Contains seen (k, m)) → (IsStrictlySortedBy interest_cmp (keys_of seen) → IsStrictlySortedBy interest_cmp hits)
    → IsStrictlySortedBy interest_cmp (keys_of (seen ++ e ∷ [])) → IsStrictlySortedBy interest_cmp (hits ++ e.0 ∷ [])
unfolding IsStrictlySortedBy
last_sorted seen e hits only sorted s =
    let front = sorted_front interest_cmp (keys_of seen) e.0 (subst (λ (l : List Interest). IsStrictlySortedBy interest_cmp l) (keys_pushed seen e) s) in
    sorted_append interest_cmp hits (e.0 ∷ []) (sorted front.0) (tt, tt) (λ x y hx hy. elim (Contains-push_cases [] e.0 y hy) [
      | inl none ↦ absurd (omega (arith, none.1))
      | inr same ↦ let o = only x hx in subst (λ (z : Interest). interest_cmp x z ≡ Less) same (front.1 x (has_key seen (x, o.0) o.1))
    ])

pub hits_more : (w : ℕ) (p : AddressPrefix) (seen : List Kept) (before out now : List Interest) (e : Kept) → IsHitsOf w p seen before out → Pushes w p e out now → IsHitsOf w p (seen ++ e ∷ []) before now
hits_more w p seen before out now e is (inl h) = record {
  hits = is.hits ++ e.0 ∷ [];
  is = h.1 ∙ ap (λ l. l ++ e.0 ∷ []) is.is ∙ append_assoc before is.hits (e.0 ∷ []);
  only = λ k c. elim (Contains-push_cases is.hits e.0 k c) [
    | inl old ↦ let o = is.only k old in (o.0, Contains-append_left seen (e ∷ []) (k, o.0) o.1, o.2)
    | inr same ↦ (
      e.1,
      subst (λ (x : Interest). Contains (seen ++ e ∷ []) (x, e.1)) same (Contains-push seen e),
      subst (λ (x : Interest). IsHit w p x.subnet e.1) same h.0,
    )
  ];
  all = λ k m c hit. elim (Contains-push_cases seen e (k, m) c) [
    | inl old ↦ Contains-append_left is.hits (e.0 ∷ []) k (is.all k m old hit)
    | inr same ↦ subst (λ (x : Interest). Contains (is.hits ++ e.0 ∷ []) x) (ap (λ (x : Kept). x.0) same) (Contains-push is.hits e.0)
  ];
  sorted = last_sorted seen e is.hits (λ k c. let o = is.only k c in (o.0, o.1)) is.sorted;
}
hits_more w p seen before out now e is (inr h) = record {
  hits = is.hits;
  is = h.1 ∙ is.is;
  only = λ k c. let o = is.only k c in (o.0, Contains-append_left seen (e ∷ []) (k, o.0) o.1, o.2);
  all = λ k m c hit. elim (Contains-push_cases seen e (k, m) c) [
    | inl old ↦ is.all k m old hit
    | inr same ↦ absurd (h.0 (subst (λ (x : Kept). IsHit w p x.0.subnet x.1) (sym same) hit))
  ];
  sorted = λ s. is.sorted (sorted_front interest_cmp (keys_of seen) e.0 (subst (λ (l : List Interest). IsStrictlySortedBy interest_cmp l) (keys_pushed seen e) s)).0;
}

both_true : (a b : Bool) → a && b ≡ true → (a ≡ true) × (b ≡ true)
both_true true true h = (refl, refl)
both_true true false h = absurd (cc)
both_true false b h = absurd (cc)

le_not_gt : (o : Ordering) → is_le o ≡ true → is_gt o ≡ false
le_not_gt Less h = refl
le_not_gt Equal h = refl
le_not_gt Greater h = absurd (cc)

not_gt_le : (o : Ordering) → is_gt o ≡ false → is_le o ≡ true
not_gt_le Less h = refl
not_gt_le Equal h = refl
not_gt_le Greater h = absurd (cc)

turned : (o : Ordering) → not (is_lt o) ≡ true → is_gt (ordering_reverse o) ≡ false
turned Less h = absurd (cc)
turned Equal h = refl
turned Greater h = refl

turned_back : (o : Ordering) → is_gt (ordering_reverse o) ≡ false → not (is_lt o) ≡ true
turned_back Less h = absurd (cc)
turned_back Equal h = refl
turned_back Greater h = refl

in_range_between : (from to k : Interest) → range_contains interest_cmp (Included from) (Included to) k ≡ true → IsBetween from to k
in_range_between from to k h =
    let b = both_true (is_le (interest_cmp from k)) (not (is_lt (interest_cmp to k))) h in
    (le_not_gt (interest_cmp from k) b.0, ap is_gt (interests_total.antisymm k to) ∙ turned (interest_cmp to k) b.1)

between_in_range : (from to k : Interest) → IsBetween from to k → range_contains interest_cmp (Included from) (Included to) k ≡ true
between_in_range from to k h =
    let e : is_le (interest_cmp from k) ≡ true = not_gt_le (interest_cmp from k) h.0 in
    let f : not (is_lt (interest_cmp to k)) ≡ true = turned_back (interest_cmp to k) (sym (ap is_gt (interests_total.antisymm k to)) ∙ h.1) in
    ap (λ b. b && not (is_lt (interest_cmp to k))) e ∙ f

-- the entries of a part of the map
pub part_hits : (w : ℕ) (p : AddressPrefix) (m : BTreeMap Interest (Option AddressPrefix)) (now : Interests) (from to : Interest) (seen : List Kept) (before out : List Interest) → IsOrdered interest_cmp m → from_entries m.entries ≡ now
    → seen ≡ entries_between interest_cmp (Included from) (Included to) m.entries → IsHitsOf w p seen before out → Appends w p (get now) (IsBetween from to) before out
part_hits w p m now from to seen before out ordered view part is =
    let test : Interest → Bool = λ k. range_contains interest_cmp (Included from) (Included to) k in
    let at : (k : Interest) → get now k ≡ lookup (is_at (interest_cmp k)) m.entries = λ k. read_in interests_total m now k view in
    let sorted_part : IsStrictlySortedBy interest_cmp (keys_of seen) = subst (λ (l : List Interest). IsStrictlySortedBy interest_cmp l) (sym (ap keys_of part ∙ keys_filter test m.entries)) (IsStrictlySortedBy-filter interest_cmp test (keys_of m.entries) ordered) in
    record {
      hits = is.hits;
      is = is.is;
      sorted = is.sorted sorted_part;
      only = λ k c.
          let o = is.only k c in
          let f = contains_filter (λ (e : Kept). test e.0) m.entries (k, o.0) (subst (λ (x : List Kept). Contains x (k, o.0)) part o.1) in
          (o.0, at k ∙ (btree_map_get_iff interests_total exact_interests m ordered k o.0).1 f.0, o.2, in_range_between from to k f.1);
      all = λ k f e hit range. is.all k f (subst (λ (x : List Kept). Contains x (k, f)) (sym part)
          (filter_contains (λ (x : Kept). test x.0) m.entries (k, f) ((btree_map_get_iff interests_total exact_interests m ordered k f).0 (sym (at k) ∙ e)) (between_in_range from to k range))) hit;
    }

-- a map without entries has no interest that a change could reach
pub none_reached : (w : ℕ) (p : AddressPrefix) (es : List Kept) (now : Interests) (out : List Interest) → from_entries es ≡ now → length es ≡ 0 → out ≡ [] → AreReached w p (get now) out
unfolding IsStrictlySortedBy
none_reached w p [] now out view none is = record {
  only = λ k h. absurd (let c : Contains [] k = subst (λ (l : List Interest). Contains l k) is h in omega (arith, c.1));
  all = λ k f e hit. absurd (let n : None ≡ Some f = sym (map_read interests_total [] k) ∙ ap (λ x. get x k) view ∙ e in cc);
  sorted = subst (λ (l : List Interest). IsStrictlySortedBy interest_cmp l) (sym is) tt;
}
none_reached w p (e ∷ es) now out view none is = absurd (omega (arith, none))

-- ---- subnets in order

-- the one is the other or comes before it
abbrev pub IsFrom : AddressPrefix → AddressPrefix → Type 0
IsFrom p q = (p ≡ q) ⊎ ComesBefore p q

then_le : (r s : Ordering) → is_gt (ordering_then r s) ≡ false → (r ≡ Equal) ⊎ (r ≡ Less)
then_le Less s h = inr refl
then_le Equal s h = inl refl
then_le Greater s h = absurd (cc)

le_then : (r s : Ordering) → is_gt s ≡ false → (r ≡ Equal) ⊎ (r ≡ Less) → is_gt (ordering_then r s) ≡ false
le_then Less s h c = refl
le_then Equal s h c = h
le_then Greater s h c = absurd (elim c [ inl x ↦ cc | inr x ↦ cc ])

from_order : (a b : Interest) → IsLeBy interest_cmp a b → IsFrom a.subnet b.subnet
from_order a b h = elim (then_le (prefix_cmp a.subnet b.subnet) (nat_cmp a.client b.client) h) [
  | inl e ↦ inl (exact_prefixes a.subnet b.subnet e)
  | inr l ↦ inr l
]

order_itself : (p : AddressPrefix) → prefix_cmp p p ≡ Equal
order_itself p = elim (cases_before p p) [
  | inl before ↦ absurd (not_itself p p before refl)
  | inr o ↦ grind (arith, nat_tests)
]

client_le : (a b : ℕ) → a ≤ b → is_gt (nat_cmp a b) ≡ false
client_le a b le = grind (arith, nat_tests, le)

pub order_from : (a b : Interest) → a.client ≤ b.client → IsFrom a.subnet b.subnet → IsLeBy interest_cmp a b
order_from a b le h =
    le_then (prefix_cmp a.subnet b.subnet) (nat_cmp a.client b.client) (client_le a.client b.client le) (elim h [
      | inl e ↦ inl (subst (λ (x : AddressPrefix). prefix_cmp a.subnet x ≡ Equal) e (order_itself a.subnet))
      | inr l ↦ inr l
    ])

pub order_before : (a b : Interest) → ComesBefore a.subnet b.subnet → interest_cmp a b ≡ Less
order_before a b h = ap (λ o. ordering_then o (nat_cmp a.client b.client)) h

-- of all clients the interests in the subnets from p to q
abbrev pub first_of : AddressPrefix → Interest
first_of p = record { subnet = p; client = 0 }

abbrev pub last_of : AddressPrefix → Interest
last_of q = record { subnet = q; client = 255 }

between_subnets : (p q : AddressPrefix) (k : Interest) → IsBetween (first_of p) (last_of q) k → IsFrom p k.subnet × IsFrom k.subnet q
between_subnets p q k h = (from_order (first_of p) k h.0, from_order k (last_of q) h.1)

subnets_between : (p q : AddressPrefix) (k : Interest) → k.client < 256 → IsFrom p k.subnet → IsFrom k.subnet q → IsBetween (first_of p) (last_of q) k
subnets_between p q k lt f t = (order_from (first_of p) k (omega arith) f, order_from k (last_of q) (omega arith) t)

both_from : (p q : AddressPrefix) → IsFrom p q → IsFrom q p → q ≡ p
both_from p q (inl e) b = sym e
both_from p q (inr lt) (inl e) = e
both_from p q (inr lt) (inr gt) = absurd (let a = before_address p q lt in let b = before_address q p gt in let e : p.address ≡ q.address = omega arith in let l = before_length p q lt e in let m = before_length q p gt (sym e) in omega arith)

-- ---- which interests are chosen

choose : (w : ℕ) (p : AddressPrefix) (m : Interests) (P Q : Interest → Type 0) (before now : List Interest) → AreProper w m → ((k : Interest) → IsProper w k → P k → Q k) → ((k : Interest) → IsProper w k → Q k → P k) → Appends w p (get m) P before now → Appends w p (get m) Q before now
choose w p m P Q before now proper onward back is = record {
  hits = is.hits;
  is = is.is;
  sorted = is.sorted;
  only = λ k c. let o = is.only k c in (o.0, o.1, o.2, onward k (proper k o.0 o.1) o.3);
  all = λ k f e hit q. is.all k f e hit (back k (proper k f e) q);
}

choose_short : (w most : ℕ) (p : AddressPrefix) (m : Interests) (P Q : Interest → Type 0) (before now : List Interest) → AreProper w m → AreShortIn most m → ((k : Interest) → IsProper w k → P k → Q k) → ((k : Interest) → IsProper w k → k.subnet.length ≤ most → Q k → P k) → Appends w p (get m) P before now → Appends w p (get m) Q before now
choose_short w most p m P Q before now proper short onward back is = record {
  hits = is.hits;
  is = is.is;
  sorted = is.sorted;
  only = λ k c. let o = is.only k c in (o.0, o.1, o.2, onward k (proper k o.0 o.1) o.3);
  all = λ k f e hit q. is.all k f e hit (back k (proper k f e) (short k f e) q);
}

-- those in one subnet
pub at_subnet : (w : ℕ) (p s : AddressPrefix) (m : Interests) (before now : List Interest) → AreProper w m → Appends w p (get m) (IsBetween (first_of s) (last_of s)) before now → Appends w p (get m) (λ k. k.subnet ≡ s) before now
at_subnet w p s m before now proper is =
    choose w p m (IsBetween (first_of s) (last_of s)) (λ k. k.subnet ≡ s) before now proper
    (λ k _ h. let b = between_subnets s s k h in both_from s k.subnet b.0 b.1)
    (λ k ok e. subnets_between s s k ok.1 (inl (sym e)) (inl e)) is

-- a prefix of so many bits begins at each of their multiples
masked_down : (w most a : ℕ) → most ≤ w → a % 2 ^ (w - most) ≡ 0 → (block w a most).address ≡ a
masked_down w most a top rest = omega (arith, rest)

-- the last prefix that p covers, of so many bits
last_covered : (w most : ℕ) (p : AddressPrefix) (a : ℕ) (q : AddressPrefix) → most ≤ w → p.length ≤ most → IsMasked w p → a + 2 ^ (w - most) ≡ behind w p → a % 2 ^ (w - most) ≡ 0 → q ≡ block w a most → Covers w p q × (q.address ≡ a) × (q.length ≡ most)
last_covered w most p a q top few mp a_is rest q_is =
    let pos = size_pos w most in
    let size : size_of_length w most ≤ size_of_length w p.length = size_falls w p.length most few in
    let here : Holds w p a = record { from = omega arith; to = omega arith } in
    let c : Covers w p (block w a most) = nested w a p (block w a most) mp (block_masked w a most top) few here (block_holds w a most) in
    (subst (λ (x : AddressPrefix). Covers w p x) (sym q_is) c, ap (λ (x : AddressPrefix). x.address) q_is ∙ masked_down w most a top rest, ap (λ (x : AddressPrefix). x.length) q_is)

covered_from : (w : ℕ) (p q : AddressPrefix) → IsMasked w p → IsMasked w q → Covers w p q → IsFrom p q
covered_from w p q mp mq c = inside w p.address p q mp mq c

-- those in subnets that p covers
pub within_subnets : (w most : ℕ) (p q : AddressPrefix) (a : ℕ) (m : Interests) (before now : List Interest) → most ≤ w → p.length ≤ most → IsMasked w p → a + 2 ^ (w - most) ≡ behind w p → a % 2 ^ (w - most) ≡ 0 → q ≡ block w a most → AreProper w m → AreShortIn most m
    → Appends w p (get m) (IsBetween (first_of p) (last_of q)) before now → Appends w p (get m) (λ k. Covers w p k.subnet) before now
within_subnets w most p q a m before now top few mp a_is rest q_is proper short is =
    let last = last_covered w most p a q top few mp a_is rest q_is in
    choose_short w most p m (IsBetween (first_of p) (last_of q)) (λ k. Covers w p k.subnet) before now proper short
    (λ k ok h. let b = between_subnets p q k h in elim b.0 [
      | inl same ↦ subst (λ (x : AddressPrefix). Covers w p x) same (record { from = omega arith; to = omega arith })
      | inr after ↦ elim b.1 [
        | inl end ↦ subst (λ (x : AddressPrefix). Covers w p x) (sym end) last.0
        | inr before_last ↦ between w p k.subnet q mp ok.0 last.0 after before_last
      ]
    ])
    (λ k ok bits c. subnets_between p q k ok.1 (covered_from w p k.subnet mp ok.0 c) (elim (cases_before k.subnet q) [
      | inl before_last ↦ inr before_last
      | inr o ↦ elim o [
        | inl same ↦ inl same
        | inr after ↦ absurd (
            let low = before_address q k.subnet after in
            let end = c.to in
            let size : size_of_length w most ≤ size_of_length w k.subnet.length = size_falls w k.subnet.length most bits in
            let addr = last.1 in
            let e : q.address ≡ k.subnet.address = omega arith in
            let longer = before_length q k.subnet after e in
            let whole = last.2 in
            omega arith)
      ]
    ])) is

-- the range is no empty one
pub within_forward : (w most : ℕ) (p q : AddressPrefix) (a : ℕ) → most ≤ w → p.length ≤ most → IsMasked w p → a + 2 ^ (w - most) ≡ behind w p → a % 2 ^ (w - most) ≡ 0 → q ≡ block w a most → IsLeBy interest_cmp (first_of p) (last_of q)
within_forward w most p q a top few mp a_is rest q_is =
    let last = last_covered w most p a q top few mp a_is rest q_is in
    order_from (first_of p) (last_of q) (omega arith) (covered_from w p q mp (subst (λ (x : AddressPrefix). IsMasked w x) (sym q_is) (block_masked w a most top)) last.0)

pub at_forward : (s : AddressPrefix) → IsLeBy interest_cmp (first_of s) (last_of s)
at_forward s = order_from (first_of s) (last_of s) (omega arith) (inl refl)

-- ---- all that a change reaches

-- in a subnet that covers p, with less than so many bits
abbrev pub IsAbove : ℕ → AddressPrefix → ℕ → Interest → Type 0
IsAbove w p n k = Covers w k.subnet p × (k.subnet.length < n)

own_address : (w : ℕ) (p : AddressPrefix) → Holds w p p.address
own_address w p = record { from = omega arith; to = omega (arith, size_pos w p.length) }

block_covers : (w n : ℕ) (p : AddressPrefix) → IsMasked w p → n ≤ p.length → Covers w (block w p.address n) p
block_covers w n p mp le = let top = mp.0 in nested w p.address (block w p.address n) p (block_masked w p.address n (omega arith)) mp le (block_holds w p.address n) (own_address w p)

earlier : (w : ℕ) (p q s : AddressPrefix) → IsMasked w q → IsMasked w s → Covers w q p → Covers w s p → q.length < s.length → ComesBefore q s
earlier w p q s mq ms cq cs lt =
    let around = nested w p.address q s mq ms (omega arith) (covers_holds w q p cq) (covers_holds w s p cs) in
    let f = around.from in
    elim (cases_lt q.address s.address) [
      | inl less ↦ before_by_address q s less
      | inr le ↦ let e : q.address ≡ s.address = omega arith in before_by_length q s e lt
    ]

pub above_first : (w : ℕ) (p : AddressPrefix) (m : Interests) → Appends w p (get m) (IsAbove w p 0) [] []
unfolding IsStrictlySortedBy
above_first w p m = record { hits = []; is = refl; sorted = tt; only = λ k h. absurd (omega (arith, h.1)); all = λ k f e hit a. let lt = a.1 in absurd (omega arith) }

pub above_more : (w n : ℕ) (p : AddressPrefix) (m : Interests) (out now : List Interest) → IsMasked w p → n < p.length → AreProper w m
    → Appends w p (get m) (IsAbove w p n) [] out → Appends w p (get m) (λ k. k.subnet ≡ block w p.address n) out now → Appends w p (get m) (IsAbove w p (n + 1)) [] now
above_more w n p m out now mp lt proper a b =
    let s = block w p.address n in
    let cs = block_covers w n p mp (omega arith) in
    let top = mp.0 in
    let ms = block_masked w p.address n (omega arith) in
    record {
      hits = a.hits ++ b.hits;
      is = b.is ∙ ap (λ l. l ++ b.hits) a.is;
      sorted = sorted_append interest_cmp a.hits b.hits a.sorted b.sorted (λ x y hx hy.
          let ox = a.only x hx in
          let oy = b.only y hy in
          order_before x y (subst (λ (z : AddressPrefix). ComesBefore x.subnet z) (sym oy.3) (earlier w p x.subnet s (proper x ox.0 ox.1).0 ms ox.3.0 cs ox.3.1)));
      only = λ k c. elim (Contains-append_cases a.hits b.hits k c) [
        | inl old ↦ let o = a.only k old in let short = o.3.1 in (o.0, o.1, o.2, (o.3.0, omega arith))
        | inr new ↦ let o = b.only k new in (o.0, o.1, o.2, (subst (λ (z : AddressPrefix). Covers w z p) (sym o.3) cs, let l : k.subnet.length ≡ n = ap (λ (z : AddressPrefix). z.length) o.3 in omega arith))
      ];
      all = λ k f e hit chosen. let short = chosen.1 in elim (cases_eq k.subnet.length n) [
        | inl l ↦ Contains-append_right a.hits b.hits k (b.all k f e hit (block_is w p.address k.subnet (proper k f e).0 (covers_holds w k.subnet p chosen.0) ∙ ap (block w p.address) l))
        | inr ne ↦ Contains-append_left a.hits b.hits k (a.all k f e hit (chosen.0, omega arith))
      ];
    }

pub above_all : (w n : ℕ) (p : AddressPrefix) (m : Interests) (out now : List Interest) → IsMasked w p → n ≡ p.length → AreProper w m
    → Appends w p (get m) (IsAbove w p n) [] out → Appends w p (get m) (λ k. Covers w p k.subnet) out now → AreReached w p (get m) now
above_all w n p m out now mp n_is proper a b =
    let now_is : now ≡ a.hits ++ b.hits = b.is ∙ ap (λ l. l ++ b.hits) a.is in
    record {
      only = λ k c. elim (Contains-append_cases a.hits b.hits k (subst (λ (l : List Interest). Contains l k) now_is c)) [
        | inl old ↦ let o = a.only k old in (o.0, o.1, o.2)
        | inr new ↦ let o = b.only k new in (o.0, o.1, o.2)
      ];
      all = λ k f e hit.
          let ok = (proper k f e).0 in
          subst (λ (l : List Interest). Contains l k) (sym now_is) (elim hit.0 [
            | inl around ↦ elim (cases_lt k.subnet.length n) [
              | inl short ↦ Contains-append_left a.hits b.hits k (a.all k f e hit (around, short))
              | inr long ↦
                  let le = covers_length w k.subnet p ok around in
                  let l : k.subnet.length ≡ p.length = omega arith in
                  let same = same_from_covers w k.subnet p around l in
                  Contains-append_right a.hits b.hits k (b.all k f e hit (subst (λ (x : AddressPrefix). Covers w p x) (sym same) (record { from = omega arith; to = omega arith })))
            ]
            | inr c ↦ Contains-append_right a.hits b.hits k (b.all k f e hit c)
          ]);
      sorted = subst (λ (l : List Interest). IsStrictlySortedBy interest_cmp l) (sym now_is) (sorted_append interest_cmp a.hits b.hits a.sorted b.sorted (λ x y hx hy.
          let ox = a.only x hx in
          let oy = b.only y hy in
          let mx = (proper x ox.0 ox.1).0 in
          let my = (proper y oy.0 oy.1).0 in
          let le = covers_length w p y.subnet mp oy.3 in
          let short = ox.3.1 in
          let c = ox.3.0 in
          let d = oy.3 in
          let cf = c.from in
          let ct = c.to in
          let df = d.from in
          let dt = d.to in
          let c2 : Covers w x.subnet y.subnet = record { from = omega arith; to = omega arith } in
          let own : Covers w y.subnet y.subnet = record { from = omega arith; to = omega arith } in
          order_before x y (earlier w y.subnet x.subnet y.subnet mx my c2 own (omega arith))));
    }

-- ---- giving up a list of interests

-- an interest that is not on the list stays
pub without_others : (m : Interests) (ks : List Interest) (q : Interest) → (Contains ks q → ⊥) → get (without m ks) q ≡ get m q
without_others m [] q out = refl
without_others m (k ∷ ks) q out =
    without_others (remove m k) ks q (λ c. out (suc c.0, omega (arith, c.1), c.2))
    ∙ removed_apart interests_total exact_interests m k q (λ e. out (0, omega arith, sym e))

-- one that is gone stays so
without_none : (m : Interests) (ks : List Interest) (q : Interest) → get m q ≡ None → get (without m ks) q ≡ None
without_none m [] q none = none
without_none m (k ∷ ks) q none = without_none (remove m k) ks q (get-remove interests_total m k q ∙ by_key interests_total exact_interests q k (λ b. cond b None (get m q) ≡ None) (λ _. refl) (λ _. none))

-- one that is on the list is gone
pub without_listed : (m : Interests) (ks : List Interest) (q : Interest) → Contains ks q → get (without m ks) q ≡ None
without_listed m [] q c = absurd (omega (arith, c.1))
without_listed m (k ∷ ks) q (zero, lt, is) = without_none (remove m k) ks q (subst (λ (x : Interest). get (remove m k) x ≡ None) is (removed_at interests_total m k))
without_listed m (k ∷ ks) q (suc i, lt, is) = without_listed (remove m k) ks q (i, omega arith, is)
