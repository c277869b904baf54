-- Which prefixes of an address are free for its match.
use Rattle.std.proofs.Common.{◌≡◌, ◌↔◌, IsTrue, ℕ, ◌+◌, ◌<◌, ◌≤◌, Bool, true, false, not, Option, Some, None, IsSome, is_some, refl, sym, ap, ◌∙◌, subst, inl, inr, arith}
use Rattle.std.proofs.lemmas.Bool.{cases_lt, cases_eq}
use Rattle.addr4.specs.Prefixes.{AddressPrefix, ComesBefore, IsMasked, Covers, Overlaps, Holds, block}
use Rattle.addr4.specs.Places.{IsNextRow}
use Rattle.addr4.proofs.BlockLemmas.{size_pos, covers_length, covers_holds}
use Rattle.link_change.specs.Rows.{Rows}
use Rattle.register_interest.specs.Covers.{longest, IsLongest, matched, IsFree, IsSubnet}
use Rattle.register_interest.specs.Search.{AreShort, IsBeneath, IsNoneBelow, length_of}
use Rattle.register_interest.proofs.CoverLemmas.{block_masked, block_holds, block_is, one_of_length, nested, overlap_of_two, held_by_cover, longest_is}
use Rattle.register_interest.proofs.OrderLemmas.{cases_before, not_itself, inside, between}

-- ---- free subnets

-- longer than the match, if there is one
abbrev Exceeds : Option AddressPrefix → AddressPrefix → Type 0
Exceeds None q = Unit {0}
Exceeds (Some m) q = m.length < q.length

held_none : {V : Type 0} (w : ℕ) (rows : Rows V) (a : ℕ) (r : Option (AddressPrefix × V)) (q : AddressPrefix) → IsLongest w rows a r → IsMasked w q → Holds w q a → Exceeds (matched r) q → rows q ≡ None
held_none w rows a None q is mq hq out = is q mq hq
held_none w rows a (Some r) q is mq hq out = is.3 q mq hq out

make_free : {V : Type 0} (w : ℕ) (rows : Rows V) (a : ℕ) (r : Option (AddressPrefix × V)) (s : AddressPrefix) → IsLongest w rows a r → IsMasked w s → Holds w s a → IsBeneath (matched r) s.length → ((q : AddressPrefix) → IsMasked w q → Overlaps w s q → Exceeds (matched r) q → rows q ≡ None) → IsFree w rows (matched r) s
make_free w rows a None s is ms hs beneath none = λ q mq over. none q mq over tt
make_free w rows a (Some r) s is ms hs beneath none = (nested w a r.0 s is.0 ms beneath is.1 hs, λ q mq over long. none q mq over long)

use_free : {V : Type 0} (w : ℕ) (rows : Rows V) (m : Option AddressPrefix) (s q : AddressPrefix) → IsFree w rows m s → IsMasked w q → Overlaps w s q → Exceeds m q → rows q ≡ None
use_free w rows None s q free mq over out = free q mq over
use_free w rows (Some m) s q free mq over out = free.1 q mq over out

free_beneath : {V : Type 0} (w : ℕ) (rows : Rows V) (m s : AddressPrefix) → IsMasked w m → IsFree w rows (Some m) s → m.length ≤ s.length
free_beneath w rows m s mm free = covers_length w m s mm free.0

exceeds_more : (m : Option AddressPrefix) (s q : AddressPrefix) → IsBeneath m s.length → s.length < q.length → Exceeds m q
exceeds_more None s q b lt = tt
exceeds_more (Some m) s q b lt = omega arith

free_if : {V : Type 0} (w : ℕ) (rows : Rows V) (a : ℕ) (r : Option (AddressPrefix × V)) (s : AddressPrefix) → IsLongest w rows a r → IsMasked w s → Holds w s a → IsBeneath (matched r) s.length → ((q : AddressPrefix) → IsMasked w q → Covers w s q → ComesBefore s q → rows q ≡ None) → IsFree w rows (matched r) s
free_if w rows a r s is ms hs beneath none = make_free w rows a r s is ms hs beneath (λ q mq over out. elim over [
  | inl c ↦ elim (inside w a s q ms mq c) [
    | inl same ↦ held_none w rows a r q is mq (subst (λ x. Holds w x a) same hs) out
    | inr after ↦ none q mq c after
  ]
  | inr around ↦ held_none w rows a r q is mq (held_by_cover w a q s around hs) out
])

-- no row beyond the subnet
free_last : {V : Type 0} (w : ℕ) (rows : Rows V) (a : ℕ) (m : Option AddressPrefix) (s : AddressPrefix) → m ≡ matched (longest w rows a) → IsMasked w s → Holds w s a → IsBeneath m s.length → IsNextRow rows (Some s) None → IsFree w rows m s
free_last w rows a m s found ms hs beneath next =
    let b : IsBeneath (matched (longest w rows a)) s.length = subst (λ x. IsBeneath x s.length) found beneath in
    subst (λ x. IsFree w rows x s) (sym found) (free_if w rows a (longest w rows a) s (longest_is w rows a) ms hs b (λ q mq c after. next q after))

-- the next row beyond the subnet
free_next : {V : Type 0} (w : ℕ) (rows : Rows V) (a : ℕ) (m : Option AddressPrefix) (s k : AddressPrefix) → m ≡ matched (longest w rows a) → IsMasked w s → IsMasked w k → Holds w s a → IsBeneath m s.length → IsNextRow rows (Some s) (Some k) → (Covers w s k → ⊥) → IsFree w rows m s
free_next w rows a m s k found ms mk hs beneath next out =
    let b : IsBeneath (matched (longest w rows a)) s.length = subst (λ x. IsBeneath x s.length) found beneath in
    subst (λ x. IsFree w rows x s) (sym found) (free_if w rows a (longest w rows a) s (longest_is w rows a) ms hs b (λ q mq c after. elim (cases_before q k) [
      | inl before ↦ next.2 q after before
      | inr o ↦ elim o [
        | inl same ↦ absurd (out (subst (λ x. Covers w s x) same c))
        | inr later ↦ absurd (out (between w s k q ms mk c next.0 later))
      ]
    ]))

some_none : {V : Type 0} (o : Option V) → IsSome o → o ≡ None → ⊥
some_none o some none = let e : true ≡ false = sym some ∙ ap is_some none in cc

not_free : {V : Type 0} (w : ℕ) (rows : Rows V) (a : ℕ) (m : Option AddressPrefix) (s k : AddressPrefix) → IsMasked w s → IsMasked w k → IsBeneath m s.length → IsNextRow rows (Some s) (Some k) → Covers w s k → IsFree w rows m s → ⊥
not_free w rows a m s k ms mk beneath next c free =
    let le = covers_length w s k ms c in
    elim (cases_eq s.length k.length) [
      | inl e ↦ not_itself s k next.0 (one_of_length w k.address s k ms mk (covers_holds w s k c) (record { from = omega arith; to = omega (arith, size_pos w k.length) }) e)
      | inr ne ↦ some_none (rows k) next.1 (use_free w rows m s k free mk (inl c) (exceeds_more m s k beneath (omega arith)))
    ]

told_free : {V : Type 0} (w : ℕ) (rows : Rows V) (a : ℕ) (m : Option AddressPrefix) (s k : AddressPrefix) (c : Bool) → m ≡ matched (longest w rows a) → IsMasked w s → IsMasked w k → Holds w s a → IsBeneath m s.length → IsNextRow rows (Some s) (Some k) → (IsTrue c ↔ Covers w s k) → IsTrue (not c) ↔ IsFree w rows m s
told_free w rows a m s k true found ms mk hs beneath next is = (λ no. absurd (let e : false ≡ true = no in cc), λ free. absurd (not_free w rows a m s k ms mk beneath next (is.0 refl) free))
told_free w rows a m s k false found ms mk hs beneath next is = (λ _. free_next w rows a m s k found ms mk hs beneath next (λ c. let e : false ≡ true = is.1 c in cc), λ _. refl)

pub block_free_last : {V : Type 0} (w : ℕ) (rows : Rows V) (a n : ℕ) (m : Option AddressPrefix) (s : AddressPrefix) → s ≡ block w a n → m ≡ matched (longest w rows a) → n ≤ w → IsBeneath m n → IsNextRow rows (Some s) None → IsTrue true ↔ IsFree w rows m (block w a n)
block_free_last w rows a n m s s_is found le beneath next = (
  λ _. free_last w rows a m (block w a n) found (block_masked w a n le) (block_holds w a n) beneath (subst (λ (x : AddressPrefix). IsNextRow rows (Some x) None) s_is next),
  λ _. refl,
)

pub block_told_free : {V : Type 0} (w : ℕ) (rows : Rows V) (a n : ℕ) (m : Option AddressPrefix) (s k : AddressPrefix) (c : Bool) → s ≡ block w a n → m ≡ matched (longest w rows a) → n ≤ w → IsBeneath m n → IsMasked w k → IsNextRow rows (Some s) (Some k) → (IsTrue c ↔ Covers w s k) → IsTrue (not c) ↔ IsFree w rows m (block w a n)
block_told_free w rows a n m s k c s_is found le beneath mk next is =
    told_free w rows a m (block w a n) k c found (block_masked w a n le) mk (block_holds w a n) beneath
    (subst (λ (x : AddressPrefix). IsNextRow rows (Some x) (Some k)) s_is next) (subst (λ (x : AddressPrefix). IsTrue c ↔ Covers w x k) s_is is)

-- a prefix of as many bits as any row has is free
free_whole : {V : Type 0} (w most : ℕ) (rows : Rows V) (a : ℕ) (m : Option AddressPrefix) → most ≤ w → AreShort most rows → m ≡ matched (longest w rows a) → IsBeneath m most → IsFree w rows m (block w a most)
free_whole w most rows a m top short found beneath =
    let b : IsBeneath (matched (longest w rows a)) most = subst (λ x. IsBeneath x most) found beneath in
    let ms = block_masked w a most top in
    subst (λ x. IsFree w rows x (block w a most)) (sym found) (free_if w rows a (longest w rows a) (block w a most) (longest_is w rows a) ms (block_holds w a most) b (λ q mq c after. elim (cases_lt most q.length) [
      | inl more ↦ short q more
      | inr few ↦ absurd (
          let le = covers_length w (block w a most) q ms c in
          let e : most ≡ q.length = omega arith in
          not_itself (block w a most) q after (one_of_length w q.address (block w a most) q ms mq (covers_holds w (block w a most) q c) (record { from = omega arith; to = omega (arith, size_pos w q.length) }) e))
    ]))

-- the first free prefix is the largest
first_free : {V : Type 0} (w : ℕ) (rows : Rows V) (a n : ℕ) (m : Option AddressPrefix) → n ≤ w → IsNoneBelow w rows a m n → IsFree w rows m (block w a n) → IsSubnet w rows a m (block w a n)
first_free w rows a n m le none free = record {
  masked = block_masked w a n le;
  holds = block_holds w a n;
  free = free;
  largest = λ t mt ht free_t. elim (cases_lt t.length n) [
    | inl less ↦ absurd (none t.length less (subst (λ x. IsFree w rows m x) (block_is w a t mt ht) free_t))
    | inr more ↦ more
  ];
}

-- no prefix shorter than the match is free
none_below_match : {V : Type 0} (w : ℕ) (rows : Rows V) (a : ℕ) (m : AddressPrefix) → IsMasked w m → IsNoneBelow w rows a (Some m) m.length
none_below_match w rows a m mm = λ k lt free. let le = free_beneath w rows m (block w a k) mm free in omega arith

-- ---- the search by halves

short_match : {V : Type 0} (w most : ℕ) (rows : Rows V) (a : ℕ) (r : Option (AddressPrefix × V)) → AreShort most rows → IsLongest w rows a r → length_of (matched r) ≤ most
short_match w most rows a None short is = omega arith
short_match w most rows a (Some r) short is = elim (cases_lt most r.0.length) [
  | inl more ↦ absurd (let clash : None ≡ Some r.1 = sym (short r.0 more) ∙ is.2 in cc)
  | inr few ↦ few
]

beneath_itself : (m : Option AddressPrefix) → IsBeneath m (length_of m)
beneath_itself None = tt
beneath_itself (Some m) = omega arith

none_below : {V : Type 0} (w : ℕ) (rows : Rows V) (a : ℕ) (r : Option (AddressPrefix × V)) → IsLongest w rows a r → IsNoneBelow w rows a (matched r) (length_of (matched r))
none_below w rows a None is = λ k lt. absurd (omega arith)
none_below w rows a (Some r) is = none_below_match w rows a r.0 is.0

-- a longer prefix of the address is free where a shorter one is
beneath_free : {V : Type 0} (w : ℕ) (rows : Rows V) (a k : ℕ) (r : Option (AddressPrefix × V)) → IsLongest w rows a r → IsFree w rows (matched r) (block w a k) → IsBeneath (matched r) k
beneath_free w rows a k None is free = tt
beneath_free w rows a k (Some r) is free = free_beneath w rows r.0 (block w a k) is.0 free

beneath_more : (m : Option AddressPrefix) (k n : ℕ) → IsBeneath m k → k ≤ n → IsBeneath m n
beneath_more None k n b le = tt
beneath_more (Some m) k n b le = omega arith

covers_more : (w : ℕ) (p q s : AddressPrefix) → Covers w p q → Covers w q s → Covers w p s
covers_more w p q s c d = let f = c.from in let t = c.to in let g = d.from in let u = d.to in record { from = omega arith; to = omega arith }

free_longer : {V : Type 0} (w : ℕ) (rows : Rows V) (a k n : ℕ) (r : Option (AddressPrefix × V)) → IsLongest w rows a r → k ≤ n → n ≤ w → IsFree w rows (matched r) (block w a k) → IsFree w rows (matched r) (block w a n)
free_longer w rows a k n r is le top free =
    let mk = block_masked w a k (omega arith) in
    let mn = block_masked w a n top in
    make_free w rows a r (block w a n) is mn (block_holds w a n) (beneath_more (matched r) k n (beneath_free w rows a k r is free) le) (λ q mq over out. elim over [
      | inl c ↦ use_free w rows (matched r) (block w a k) q free mq (inl (covers_more w (block w a k) (block w a n) q (nested w a (block w a k) (block w a n) mk mn le (block_holds w a k) (block_holds w a n)) c)) out
      | inr c ↦ use_free w rows (matched r) (block w a k) q free mq (overlap_of_two w a (block w a k) q mk mq (block_holds w a k) (held_by_cover w a q (block w a n) c (block_holds w a n))) out
    ])

-- the first free length is one of these
pub record IsHalved {V : Type 0} (w : ℕ) (rows : Rows V) (a : ℕ) (m : Option AddressPrefix) (low high : ℕ) : Type 0 where
  pub ordered : low ≤ high
  pub within : high ≤ w
  pub beneath : IsBeneath m low
  pub none : IsNoneBelow w rows a m low
  pub free : IsFree w rows m (block w a high)

pub halved_first : {V : Type 0} (w most : ℕ) (rows : Rows V) (a : ℕ) (m : Option AddressPrefix) (low high : ℕ) → most ≤ w → AreShort most rows → m ≡ matched (longest w rows a) → low ≡ length_of m → high ≡ most → IsHalved w rows a m low high
halved_first w most rows a m low high top short found low_is high_is =
    subst (λ x. IsHalved w rows a x low high) (sym found)
    (let is = longest_is w rows a in
    let r = longest w rows a in
    let l : low ≡ length_of (matched r) = low_is ∙ ap length_of found in
    let le : low ≤ most = subst (λ (x : ℕ). x ≤ most) (sym l) (short_match w most rows a r short is) in
    let b : IsBeneath (matched r) low = subst (λ (x : ℕ). IsBeneath (matched r) x) (sym l) (beneath_itself (matched r)) in
    record {
      ordered = omega arith;
      within = omega arith;
      beneath = b;
      none = subst (λ (x : ℕ). IsNoneBelow w rows a (matched r) x) (sym l) (none_below w rows a r is);
      free = subst (λ (x : ℕ). IsFree w rows (matched r) (block w a x)) (sym high_is) (free_whole w most rows a (matched r) top short refl (beneath_more (matched r) low most b le));
    })

-- the subnet of an answer is no longer than rows can be
pub subnet_short : {V : Type 0} (w most : ℕ) (rows : Rows V) (a : ℕ) (m : Option AddressPrefix) (s : AddressPrefix) → most ≤ w → AreShort most rows → m ≡ matched (longest w rows a) → IsSubnet w rows a m s → s.length ≤ most
subnet_short w most rows a m s top short found is =
    is.largest (block w a most) (block_masked w a most top) (block_holds w a most) (halved_first w most rows a m (length_of m) most top short found refl refl).free

pub halved_up : {V : Type 0} (w : ℕ) (rows : Rows V) (a : ℕ) (m : Option AddressPrefix) (low middle high : ℕ) → m ≡ matched (longest w rows a) → IsHalved w rows a m low high → low ≤ middle → middle < high → (IsFree w rows m (block w a middle) → ⊥) → IsHalved w rows a m (middle + 1) high
halved_up w rows a m low middle high found is le lt out =
    let h = is.within in
    record {
      ordered = omega arith;
      within = is.within;
      beneath = beneath_more m low (middle + 1) is.beneath (omega arith);
      none = λ k less free. out (subst (λ x. IsFree w rows x (block w a middle)) (sym found)
          (free_longer w rows a k middle (longest w rows a) (longest_is w rows a) (omega arith) (omega arith) (subst (λ x. IsFree w rows x (block w a k)) found free)));
      free = is.free;
    }

pub halved_last : {V : Type 0} (w : ℕ) (rows : Rows V) (a : ℕ) (m : Option AddressPrefix) (low high : ℕ) (s : AddressPrefix) → IsHalved w rows a m low high → high ≤ low → s ≡ block w a low → IsSubnet w rows a m s
halved_last w rows a m low high s is end s_is =
    let o = is.ordered in
    let e : high ≡ low = omega arith in
    subst (λ (x : AddressPrefix). IsSubnet w rows a m x) (sym s_is) (first_free w rows a low m (subst (λ (x : ℕ). x ≤ w) e is.within) is.none (subst (λ (x : ℕ). IsFree w rows m (block w a x)) e is.free))
