-- The descent to the longest row that holds an address.
use Rattle.std.proofs.Common.{◌↔◌, IsTrue, Bool, true, false, ◌≡◌, ℕ, ◌+◌, ◌-◌, ◌/◌, ◌^◌, ◌<◌, ◌≤◌, Some, None, sym, ap, ◌∙◌, subst, inl, inr, arith}
use Rattle.std.proofs.lemmas.Bool.{cases_lt}
use Rattle.std.specs.BTreeMap.Range.{IsLeBy}
use Rattle.addr4.specs.Blocks.{size_of_length}
use Rattle.addr4.specs.Prefixes.{AddressPrefix, prefix_cmp, IsMasked, Covers, Holds, block}
use Rattle.addr4.proofs.BlockLemmas.{size_pos}
use Rattle.addr4.proofs.HalfLemmas.{same_block, block_same}
use Rattle.link_change.specs.Rows.{Rows}
use Rattle.register_interest.specs.Covers.{longest}
use Rattle.addr4.specs.Blocks.{Shared}
use Rattle.register_interest.specs.Search.{IsLastTo, IsNoneAbove, AreShort}
use Rattle.register_interest.proofs.CoverLemmas.{block_masked, block_holds, nested, held_by_cover, longest_from}
use Rattle.register_interest.proofs.OrderLemmas.{before_address, before_length, cases_before, cases_up_to, up_to, inside}

pub own : (w : ℕ) (p : AddressPrefix) → Holds w p p.address
own w p = record { from = omega arith; to = omega (arith, size_pos w p.length) }

-- a prefix of the address, of at most n bits, is at or before the one of n bits
held_before : (w a n : ℕ) (q : AddressPrefix) → n ≤ w → IsMasked w q → Holds w q a → q.length ≤ n → IsLeBy prefix_cmp q (block w a n)
held_before w a n q top mq hq le =
    let mb = block_masked w a n top in
    up_to q (block w a n) (inside w a q (block w a n) mq mb (nested w a q (block w a n) mq mb le hq (block_holds w a n)))

-- two addresses of a prefix share its bits
shares : (w a k n : ℕ) (q : AddressPrefix) → IsMasked w q → Holds w q k → Holds w q a → n < q.length → Shared w k a n → ⊥
shares w a k n q mq hk ha lt s =
    let le = mq.0 in
    let r = block w q.address (n + 1) in
    let mr = block_masked w q.address (n + 1) (omega arith) in
    let c : Covers w r q = nested w q.address r q mr mq (omega arith) (block_holds w q.address (n + 1)) (own w q) in
    let rk = held_by_cover w k r q c hk in
    let ra = held_by_cover w a r q c ha in
    let t = size_of_length w (n + 1) in
    let e : w - (n + 1) ≡ w - 1 - n = omega arith in
    s.differ (subst (λ (x : ℕ). k / 2 ^ x ≡ a / 2 ^ x) e (sym (block_same t r.address k mr.1 rk.from rk.to) ∙ block_same t r.address a mr.1 ra.from ra.to))

-- an address that shares n bits with another lies in its prefix of n bits
in_shared : (w a k n : ℕ) → Shared w k a n → Holds w (block w a n) k
in_shared w a k n s =
    let size = size_of_length w n in
    let below = s.below in
    let r = block w a n in
    let mr = block_masked w a n (omega arith) in
    let h = block_holds w a n in
    let b = same_block size r.address k (size_pos w n) mr.1 (block_same size r.address a mr.1 h.from h.to ∙ sym s.same) in
    record { from = b.0; to = b.1 }

-- no row of more than n bits holds the address
pub record IsDescent {V : Type 0} (w : ℕ) (rows : Rows V) (a n : ℕ) : Type 0 where
  pub within : n ≤ w
  pub none : IsNoneAbove w rows a n

pub descent_first : {V : Type 0} (w most : ℕ) (rows : Rows V) (a n : ℕ) → n ≡ most → most ≤ w → AreShort most rows → IsDescent w rows a n
descent_first w most rows a n is le short = record { within = omega arith; none = λ q mq hq lt. short q (omega arith) }

-- no row up to the bound
pub descent_none : {V : Type 0} (w : ℕ) (rows : Rows V) (a n : ℕ) (b : AddressPrefix) → IsDescent w rows a n → b ≡ block w a n → IsLastTo rows b None → None ≡ longest w rows a
descent_none w rows a n b is b_is last = longest_from w rows a None (λ q mq hq. elim (cases_lt n q.length) [
  | inl lt ↦ is.none q mq hq lt
  | inr le ↦ last q (subst (λ (x : AddressPrefix). IsLeBy prefix_cmp q x) (sym b_is) (held_before w a n q is.within mq hq le))
])

-- the last row up to the bound holds the address
pub descent_found : {V : Type 0} (w : ℕ) (rows : Rows V) (a n : ℕ) (b : AddressPrefix) (r : AddressPrefix × V) → IsDescent w rows a n → b ≡ block w a n → IsLastTo rows b (Some r) → IsMasked w r.0 → Holds w r.0 a → Some r ≡ longest w rows a
descent_found w rows a n b r is b_is last mr hr = longest_from w rows a (Some r) (
  mr,
  hr,
  last.1,
  λ q mq hq long. elim (cases_lt n q.length) [
    | inl lt ↦ is.none q mq hq lt
    | inr le ↦
        last.2 q (subst (λ (x : AddressPrefix). IsLeBy prefix_cmp q x) (sym b_is) (held_before w a n q is.within mq hq le))
        (elim (inside w a r.0 q mr mq (nested w a r.0 q mr mq (omega arith) hr hq)) [
          | inl same ↦ absurd (let l : r.0.length ≡ q.length = ap (λ (x : AddressPrefix). x.length) same in omega arith)
          | inr before ↦ before
        ])
  ],
)

-- the row's address is at or before the bound's
row_address : (p q : AddressPrefix) → IsLeBy prefix_cmp p q → p.address ≤ q.address
row_address p q h = elim (cases_up_to p q h) [
  | inl same ↦ let e : p.address ≡ q.address = ap (λ (x : AddressPrefix). x.address) same in omega arith
  | inr before ↦ before_address p q before
]

row_length : (p q : AddressPrefix) → IsLeBy prefix_cmp p q → p.address ≡ q.address → p.length ≤ q.length
row_length p q h e = elim (cases_up_to p q h) [
  | inl same ↦ let l : p.length ≡ q.length = ap (λ (x : AddressPrefix). x.length) same in omega arith
  | inr before ↦ let lt = before_length p q before e in omega arith
]

-- a row up to the bound that doesn't hold the address shares fewer bits with it than the bound has
pub descent_ends : (w a n s : ℕ) (k : AddressPrefix) → n ≤ w → IsLeBy prefix_cmp k (block w a n) → IsMasked w k → (Holds w k a → ⊥) → Shared w k.address a s → s < n
descent_ends w a n s k top le mk out sh = elim (cases_lt s n) [
  | inl lt ↦ lt
  | inr more ↦ absurd (
      let b = block w a n in
      let mb = block_masked w a n top in
      let below = sh.below in
      let ms = block_masked w a s (omega arith) in
      let c : Covers w b (block w a s) = nested w a b (block w a s) mb ms more (block_holds w a n) (block_holds w a s) in
      let hb : Holds w b k.address = held_by_cover w k.address b (block w a s) c (in_shared w a k.address s sh) in
      let low = row_address k b le in
      let from = hb.from in
      let e : k.address ≡ b.address = omega arith in
      let around : Covers w k b = nested w k.address k b mk mb (row_length k b le e) (own w k) hb in
      out (held_by_cover w a k b around (block_holds w a n)))
]

-- The last row up to the bound doesn't hold the address: no row of more bits than its address k shares with the address does.
pub descent_more : {V : Type 0} (w : ℕ) (rows : Rows V) (a n s k x : ℕ) (b : AddressPrefix) (r : AddressPrefix × V) (t : Bool) → IsDescent w rows a n → b ≡ block w a n → IsLastTo rows b (Some r) → IsMasked w r.0
    → (IsTrue t ↔ Holds w r.0 a) → t ≡ false → k ≡ r.0.address → x ≡ a → Shared w k x s → IsDescent w rows a s × (s < n)
descent_more w rows a n s k x b r t is b_is last mr told not_held k_is x_is shared =
    let sh : Shared w r.0.address a s = subst (λ (y : ℕ). Shared w y a s) k_is (subst (λ (y : ℕ). Shared w k y s) x_is shared) in
    let out : Holds w r.0 a → ⊥ = λ h. let clash : true ≡ false = sym (told.1 h) ∙ not_held in cc in
    let at : IsLeBy prefix_cmp r.0 (block w a n) = subst (λ (y : AddressPrefix). IsLeBy prefix_cmp r.0 y) b_is last.0 in
    let low = row_address r.0 (block w a n) at in
    let from = (block_holds w a n).from in
    let below = sh.below in (
      record {
        within = omega arith;
        none = λ q mq hq more. elim (cases_lt n q.length) [
          | inl lt ↦ is.none q mq hq lt
          | inr le ↦ elim (cases_before r.0 q) [
            | inl before ↦ last.2 q (subst (λ (y : AddressPrefix). IsLeBy prefix_cmp q y) (sym b_is) (held_before w a n q is.within mq hq le)) before
            | inr o ↦ elim o [
              | inl same ↦ absurd (out (subst (λ y. Holds w y a) (sym same) hq))
              | inr after ↦ absurd (let first = before_address q r.0 after in let to = hq.to in shares w a r.0.address s q mq (record { from = omega arith; to = omega arith }) hq more sh)
            ]
          ]
        ];
      },
      descent_ends w a n s r.0 is.within at mr out sh,
    )
